-- A map's entries after an edit at the place of a key.
use Rattle.std.proofs.Common.{◌≡◌, ◌+◌, List, [], ◌∷◌, ◌++◌, length, Option, Some, None, sym, ap, ◌∙◌, subst, arith, append-nil, length-append, Ordering, Less, Equal}
use Rattle.std.specs.Cmp.{IsTotalOrder}
use Rattle.std.specs.BTreeMap.{insert_entry, is_at}
use Rattle.std.specs.Map.{remove_entry}
use Rattle.tl_state.specs.KeyOrder.{Below, Rises}
use Rattle.tl_state.specs.Map.{value_at, Sets}
use Rattle.tl_state.proofs.OrderLemmas.{rises_right}
use Rattle.tl_state.proofs.EntryLemmas.{insert_over, remove_over, value_over, insert_here, remove_here, value_here, insert_before, remove_absent, rises_replace, rises_remove, rises_insert, rises_first, rises_alone, value_before, sets_insert, sets_remove}

-- What an edit at k leaves: `value` is what k had, and `made` is what the entries are to be.
pub record Edited {K V : Type 0} (cmp : K → K → Ordering) (k : K) (now new made : List (K × V)) (value : Option V) (counted : Type 0) : Type 0 where
  pub old : value ≡ value_at cmp now k
  pub ok : new ≡ made
  pub rises : Rises cmp new
  pub len : counted

module _ {K V : Type 0} {cmp : K → K → Ordering} (total : IsTotalOrder cmp) (k : K) (now : List (K × V)) where
  -- ---- where the key is above all

  module _ (below : Below cmp k now) where
    pub value_past : value_at cmp now k ≡ None
    value_past = ap (λ t. value_at cmp t k) (sym (append-nil now)) ∙ value_over cmp k now [] below

    pub insert_past : (v : V) → now ++ (k, v) ∷ [] ≡ insert_entry cmp now k v
    insert_past v = sym (ap (λ t. insert_entry cmp t k v) (sym (append-nil now)) ∙ insert_over cmp k v now [] below)

    pub rises_past : (v : V) → Rises cmp now → Rises cmp (now ++ (k, v) ∷ [])
    rises_past v s = rises_insert total k v now [] below (rises_alone cmp (k, v)) (subst (Rises cmp) (sym (append-nil now)) s)

  -- ---- at a spot

  module _ (xs : List (K × V)) (e : K × V) (ys : List (K × V)) (is : now ≡ xs ++ e ∷ ys) (below : Below cmp k xs) (s : Rises cmp now) where
    own : Rises cmp (xs ++ e ∷ ys)
    own = subst (Rises cmp) is s

    module _ (here : cmp k e.0 ≡ Equal) where
      pub value_found : value_at cmp now k ≡ Some e.1
      value_found = ap (λ t. value_at cmp t k) is ∙ value_over cmp k xs (e ∷ ys) below ∙ value_here cmp k e ys here

      pub insert_found : (v : V) → xs ++ (e.0, v) ∷ ys ≡ insert_entry cmp now k v
      insert_found v = sym (ap (λ t. insert_entry cmp t k v) is ∙ insert_over cmp k v xs (e ∷ ys) below ∙ ap (λ t. xs ++ t) (insert_here cmp k e ys here v))

      pub rises_found : (v : V) → Rises cmp (xs ++ (e.0, v) ∷ ys)
      rises_found v = rises_replace cmp xs e v ys own

      pub length_found : (v : V) → length (xs ++ (e.0, v) ∷ ys) ≡ length now
      length_found v = omega (arith, ap length is, length-append xs (e ∷ ys), length-append xs ((e.0, v) ∷ ys))

      pub remove_found : xs ++ ys ≡ remove_entry (is_at (cmp k)) now
      remove_found = sym (ap (remove_entry (is_at (cmp k))) is ∙ remove_over cmp k xs (e ∷ ys) below ∙ ap (λ t. xs ++ t) (remove_here cmp k e ys here))

      pub rises_out : Rises cmp (xs ++ ys)
      rises_out = rises_remove cmp xs e ys own

      pub length_out : length (xs ++ ys) + 1 ≡ length now
      length_out = omega (arith, ap length is, length-append xs (e ∷ ys), length-append xs ys)

    module _ (lt : cmp k e.0 ≡ Less) where
      pub value_missed : value_at cmp now k ≡ None
      value_missed = ap (λ t. value_at cmp t k) is ∙ value_over cmp k xs (e ∷ ys) below ∙ value_before total k e ys lt (rises_right cmp xs (e ∷ ys) own)

      pub insert_missed : (v : V) → xs ++ (k, v) ∷ e ∷ ys ≡ insert_entry cmp now k v
      insert_missed v = sym (ap (λ t. insert_entry cmp t k v) is ∙ insert_over cmp k v xs (e ∷ ys) below ∙ ap (λ t. xs ++ t) (insert_before cmp k v e ys lt))

      pub rises_missed : (v : V) → Rises cmp (xs ++ (k, v) ∷ e ∷ ys)
      rises_missed v = rises_insert total k v xs (e ∷ ys) below (rises_first total k v e ys lt (rises_right cmp xs (e ∷ ys) own)) own

      pub length_missed : (v : V) → length (xs ++ (k, v) ∷ e ∷ ys) ≡ length now + 1
      length_missed v = omega (arith, ap length is, length-append xs (e ∷ ys), length-append xs ((k, v) ∷ e ∷ ys))

  -- ---- what an edit leaves

  module _ (new : List (K × V)) where
    pub added : (v : V) → Below cmp k now → Rises cmp now → new ≡ now ++ (k, v) ∷ [] → Edited cmp k now new (insert_entry cmp now k v) None (length new ≡ length now + 1)
    added v below s is = record {
      old = sym (value_past below);
      ok = is ∙ insert_past below v;
      rises = subst (Rises cmp) (sym is) (rises_past below v s);
      len = omega (arith, ap length is, length-append now ((k, v) ∷ []));
    }

    module _ (xs : List (K × V)) (e : K × V) (ys : List (K × V)) (is : now ≡ xs ++ e ∷ ys) (below : Below cmp k xs) (s : Rises cmp now) where
      pub replaced : (v : V) → cmp k e.0 ≡ Equal → new ≡ xs ++ (e.0, v) ∷ ys → Edited cmp k now new (insert_entry cmp now k v) (Some e.1) (length new ≡ length now + 0)
      replaced v here after = record {
        old = sym (value_found xs e ys is below s here);
        ok = after ∙ insert_found xs e ys is below s here v;
        rises = subst (Rises cmp) (sym after) (rises_found xs e ys is below s here v);
        len = omega (arith, ap length after, length_found xs e ys is below s here v);
      }

      pub put_in : (v : V) → cmp k e.0 ≡ Less → new ≡ xs ++ (k, v) ∷ e ∷ ys → Edited cmp k now new (insert_entry cmp now k v) None (length new ≡ length now + 1)
      put_in v lt after = record {
        old = sym (value_missed xs e ys is below s lt);
        ok = after ∙ insert_missed xs e ys is below s lt v;
        rises = subst (Rises cmp) (sym after) (rises_missed xs e ys is below s lt v);
        len = omega (arith, ap length after, length_missed xs e ys is below s lt v);
      }

      pub taken_out : cmp k e.0 ≡ Equal → new ≡ xs ++ ys → Edited cmp k now new (remove_entry (is_at (cmp k)) now) (Some e.1) (length new + 1 ≡ length now)
      taken_out here after = record {
        old = sym (value_found xs e ys is below s here);
        ok = after ∙ remove_found xs e ys is below s here;
        rises = subst (Rises cmp) (sym after) (rises_out xs e ys is below s here);
        len = omega (arith, ap length after, length_out xs e ys is below s here);
      }

  -- ---- where the key is not there

  pub left_alone : value_at cmp now k ≡ None → Rises cmp now → Edited cmp k now now (remove_entry (is_at (cmp k)) now) None (length now + 0 ≡ length now)
  left_alone none s = record { old = sym none; ok = sym (remove_absent cmp k now none); rises = s; len = omega arith }

  -- ---- what a key has after the edit

  pub sets_by_insert : (new : List (K × V)) (v : V) → new ≡ insert_entry cmp now k v → Sets cmp now new k (Some v)
  sets_by_insert new v is q = ap (λ t. value_at cmp t q) is ∙ sets_insert total k v now q

  pub sets_by_remove : (new : List (K × V)) → Rises cmp now → new ≡ remove_entry (is_at (cmp k)) now → Sets cmp now new k None
  sets_by_remove new s is q = ap (λ t. value_at cmp t q) is ∙ sets_remove total k now s q
