-- The entries of one owner among those of all.
use Rattle.std.proofs.Common.{◌≡◌, ℕ, ◌≤◌, ◌<◌, ◌==◌, true, false, not, ◌&&◌, cond, List, [], ◌∷◌, ◌++◌, refl, sym, ap, ◌∙◌, arith, length, Ordering, Less, Equal, Greater, Some, None, eqb-true}
use Rattle.std.proofs.lemmas.Bool.Decides.{nat_tests}
use Rattle.std.specs.Prelude.{is_some}
use Rattle.std.specs.Ordering.{nat_cmp, is_eq, is_le, is_lt, ordering_then}
use Rattle.std.specs.List.{AllByRecursion}
use Rattle.std.specs.BTreeMap.{is_at}
use Rattle.std.specs.Map.{keys_of, remove_entry}
use Rattle.std.proofs.lemmas.Map.Keys.{sorted_head, sorted_tail}
use Rattle.tl_pieces.specs.declared.key.PieceKey.{PieceKey}
use Rattle.tl_pieces.specs.Keys.{key_cmp, value_at, after, from, first_key, if_owned, start_of, owned_by, without, Rises}
use Rattle.tl_pieces.proofs.KeyLemmas.{key_exact, key_self, owner_ge}

start_past : (o : ℕ) (x : PieceKey) → key_cmp (start_of o) x ≡ Greater → (x.owner == o) ≡ false
start_past o x h = go (nat_cmp o x.owner) refl h
  where
    go : (c : Ordering) → nat_cmp o x.owner ≡ c → ordering_then c (nat_cmp 0 x.window) ≡ Greater → (x.owner == o) ≡ false
    go Less e g = cc
    go Equal e g = absurd (below (nat_cmp 0 x.window) refl g)
      where
        below : (c : Ordering) → nat_cmp 0 x.window ≡ c → c ≡ Greater → ⊥
        below Less e g = cc
        below Equal e g = cc
        below Greater e g = let low : x.window < 0 = grind (arith, nat_tests) in omega arith
    go Greater e g = grind (arith, nat_tests)

start_owner : (o : ℕ) (x : PieceKey) → (key_cmp (start_of o) x ≡ Greater → ⊥) → o ≤ x.owner
start_owner o x h = go (nat_cmp o x.owner) refl (λ g. h g)
  where
    go : (c : Ordering) → nat_cmp o x.owner ≡ c → (ordering_then c (nat_cmp 0 x.window) ≡ Greater → ⊥) → o ≤ x.owner
    go Less e g = grind (arith, nat_tests)
    go Equal e g = grind (arith, nat_tests)
    go Greater e g = absurd (g refl)

module _ {V : Type 0} where
  pub owners_later : (k : PieceKey) (es : List (PieceKey × V)) → AllByRecursion (λ y. key_cmp k y ≡ Less) (keys_of es) → AllByRecursion (λ (y : PieceKey). k.owner ≤ y.owner) (keys_of es)
  owners_later k [] a = tt
  owners_later k (e ∷ es) a = (owner_ge e.0 k a.0, owners_later k es a.1)

  pub none_left : (o m : ℕ) → o < m → (es : List (PieceKey × V)) → AllByRecursion (λ (y : PieceKey). m ≤ y.owner) (keys_of es) → owned_by o es ≡ []
  none_left o m low [] a = refl
  none_left o m low (e ∷ es) a =
      let le : m ≤ e.0.owner = a.0 in
      let apart : (e.0.owner == o) ≡ false = grind (arith, nat_tests) in
      ap (λ b. cond b (e ∷ owned_by o es) (owned_by o es)) apart ∙ none_left o m low es a.1

  all_after : (k : PieceKey) (P : PieceKey → Type 0) (es : List (PieceKey × V)) → AllByRecursion P (keys_of es) → AllByRecursion P (keys_of (after k es))
  all_after k P [] a = tt
  all_after k P (e ∷ es) a =
      elim (is_lt (key_cmp k e.0) && not false) as (λ b. AllByRecursion P (keys_of (cond b (e ∷ after k es) (after k es)))) [
        | true ↦ (a.0, all_after k P es a.1)
        | false ↦ all_after k P es a.1
      ]

  all_from : (k : PieceKey) (P : PieceKey → Type 0) (es : List (PieceKey × V)) → AllByRecursion P (keys_of es) → AllByRecursion P (keys_of (from k es))
  all_from k P [] a = tt
  all_from k P (e ∷ es) a =
      elim (is_le (key_cmp k e.0) && not false) as (λ b. AllByRecursion P (keys_of (cond b (e ∷ from k es) (from k es)))) [
        | true ↦ (a.0, all_from k P es a.1)
        | false ↦ all_from k P es a.1
      ]

  -- where no later key is of an earlier owner, the first is of the owner, or none is
  first_owned : (o : ℕ) (e : PieceKey × V) (es : List (PieceKey × V)) → o ≤ e.0.owner → AllByRecursion (λ (y : PieceKey). e.0.owner ≤ y.owner) (keys_of es) → if_owned o (Some e.0) ≡ first_key (owned_by o (e ∷ es))
  first_owned o e es le a =
      elim (e.0.owner == o) as (λ b. (e.0.owner == o) ≡ b → cond b (Some e.0) None ≡ first_key (cond b (e ∷ owned_by o es) (owned_by o es))) [
        | true ↦ λ _. refl
        | false ↦ λ apart. let low : o < e.0.owner = grind (arith, nat_tests) in sym (ap first_key (none_left o e.0.owner low es a))
      ] refl

  pub next_owned : (k : PieceKey) (es : List (PieceKey × V)) → Rises es → if_owned k.owner (first_key (after k es)) ≡ first_key (owned_by k.owner (after k es))
  next_owned k [] s = refl
  next_owned k (e ∷ es) s =
      elim (key_cmp k e.0) as (λ o. key_cmp k e.0 ≡ o → if_owned k.owner (first_key (cond (is_lt o && not false) (e ∷ after k es) (after k es))) ≡ first_key (owned_by k.owner (cond (is_lt o && not false) (e ∷ after k es) (after k es)))) [
        | Less ↦ λ h. first_owned k.owner e (after k es) (owner_ge e.0 k h) (all_after k (λ (y : PieceKey). e.0.owner ≤ y.owner) es (owners_later e.0 es (sorted_head key_cmp e.0 (keys_of es) s)))
        | Equal ↦ λ _. next_owned k es (sorted_tail key_cmp e.0 (keys_of es) s)
        | Greater ↦ λ _. next_owned k es (sorted_tail key_cmp e.0 (keys_of es) s)
      ] refl

  pub begin_owned : (o : ℕ) (es : List (PieceKey × V)) → Rises es → if_owned o (first_key (from (start_of o) es)) ≡ first_key (owned_by o es)
  begin_owned o [] s = refl
  begin_owned o (e ∷ es) s =
      elim (key_cmp (start_of o) e.0) as (λ c. key_cmp (start_of o) e.0 ≡ c → if_owned o (first_key (cond (is_le c && not false) (e ∷ from (start_of o) es) (from (start_of o) es))) ≡ first_key (owned_by o (e ∷ es))) [
        | Less ↦ λ h. here (start_owner o e.0 (λ g. less (sym h ∙ g)))
        | Equal ↦ λ h. here (start_owner o e.0 (λ g. equal (sym h ∙ g)))
        | Greater ↦ λ h. begin_owned o es (sorted_tail key_cmp e.0 (keys_of es) s) ∙ sym (ap (λ b. first_key (cond b (e ∷ owned_by o es) (owned_by o es))) (start_past o e.0 h))
      ] refl
    where
      less : Less ≡ Greater → ⊥
      less h = cc

      equal : Equal ≡ Greater → ⊥
      equal h = cc

      here : o ≤ e.0.owner → if_owned o (Some e.0) ≡ first_key (owned_by o (e ∷ es))
      here le = first_owned o e es le (owners_later e.0 es (sorted_head key_cmp e.0 (keys_of es) s))

  -- the first of an owner, in its place
  pub owned_split : (o : ℕ) (es : List (PieceKey × V)) (k : PieceKey) → first_key (owned_by o es) ≡ Some k
      → (mid : List (PieceKey × V)) × (v : V) × (rest : List (PieceKey × V)) × (es ≡ mid ++ (k, v) ∷ rest) × (owned_by o mid ≡ []) × ((k.owner == o) ≡ true)
  owned_split o [] k h = cc
  owned_split o (e ∷ es) k h =
      elim (e.0.owner == o) as (λ b. (e.0.owner == o) ≡ b → first_key (cond b (e ∷ owned_by o es) (owned_by o es)) ≡ Some k
      → (mid : List (PieceKey × V)) × (v : V) × (rest : List (PieceKey × V)) × (e ∷ es ≡ mid ++ (k, v) ∷ rest) × (owned_by o mid ≡ []) × ((k.owner == o) ≡ true)) [
        | true ↦ λ t g. let is : e.0 ≡ k = cc in ([], e.1, es, ap (λ (q : PieceKey). (q, e.1) ∷ es) is, refl, sym (ap (λ (q : PieceKey). q.owner == o) is) ∙ t)
        | false ↦ λ f g.
            let r = owned_split o es k g in
            (e ∷ r.0, r.1, r.2, ap (λ t. e ∷ t) r.3, ap (λ b. cond b (e ∷ owned_by o r.0) (owned_by o r.0)) f ∙ r.4, r.5)
      ] refl h

  -- ---- an owner's pieces go, one after the other

  pub first_there : (o : ℕ) (es : List (PieceKey × V)) (k : PieceKey) → first_key (owned_by o es) ≡ Some k → is_some (value_at k es) ≡ true
  first_there o es k h = let r = owned_split o es k h in ap (λ x. is_some (value_at k x)) r.3 ∙ there r.0 r.1 r.2
    where
      there : (xs : List (PieceKey × V)) (v : V) (ys : List (PieceKey × V)) → is_some (value_at k (xs ++ (k, v) ∷ ys)) ≡ true
      there [] v ys = ap (λ c. is_some (cond (is_eq c) (Some v) (value_at k ys))) (key_self k)
      there (x ∷ xs) v ys = elim (is_at (key_cmp k) x.0) as (λ b. is_some (cond b (Some x.1) (value_at k (xs ++ (k, v) ∷ ys))) ≡ true) [ true ↦ refl | false ↦ there xs v ys ]

  pub own_of : (o : ℕ) (es : List (PieceKey × V)) (k : PieceKey) → first_key (owned_by o es) ≡ Some k → (k.owner == o) ≡ true
  own_of o es k h = (owned_split o es k h).5

  pub first_owner : (o : ℕ) (es : List (PieceKey × V)) (k : PieceKey) → first_key (owned_by o es) ≡ Some k → k.owner ≡ o
  first_owner o es k h = let r = owned_split o es k h in eqb-true k.owner o r.5

  pub without_removed : (o : ℕ) (k : PieceKey) (es : List (PieceKey × V)) → (k.owner == o) ≡ true → without o (remove_entry (is_at (key_cmp k)) es) ≡ without o es
  without_removed o k [] own = refl
  without_removed o k (e ∷ es) own =
      elim (is_at (key_cmp k) e.0) as (λ b. is_at (key_cmp k) e.0 ≡ b → without o (cond b es (e ∷ remove_entry (is_at (key_cmp k)) es)) ≡ without o (e ∷ es)) [
        | true ↦ λ t. sym (ap (λ b. cond b (without o es) (e ∷ without o es)) (sym (ap (λ (q : PieceKey). q.owner == o) (key_exact k e.0 t)) ∙ own))
        | false ↦ λ _. ap (λ t. cond (e.0.owner == o) t (e ∷ t)) (without_removed o k es own)
      ] refl

  pub without_none : (o : ℕ) (es : List (PieceKey × V)) → first_key (owned_by o es) ≡ None → without o es ≡ es
  without_none o [] h = refl
  without_none o (e ∷ es) h =
      elim (e.0.owner == o) as (λ b. first_key (cond b (e ∷ owned_by o es) (owned_by o es)) ≡ None → cond b (without o es) (e ∷ without o es) ≡ e ∷ es) [
        | true ↦ λ g. cc
        | false ↦ λ g. ap (λ t. e ∷ t) (without_none o es g)
      ] h

  pub shorter : (k : PieceKey) (es : List (PieceKey × V)) → is_some (value_at k es) ≡ true → length (remove_entry (is_at (key_cmp k)) es) < length es
  shorter k [] h = cc
  shorter k (e ∷ es) h =
      elim (is_at (key_cmp k) e.0) as (λ b. is_some (cond b (Some e.1) (value_at k es)) ≡ true → length (cond b es (e ∷ remove_entry (is_at (key_cmp k)) es)) < length (e ∷ es)) [
        | true ↦ λ _. omega arith
        | false ↦ λ g. omega (arith, shorter k es g)
      ] h

  -- what is left is of others
  pub others : (o : ℕ) (es : List (PieceKey × V)) → AllByRecursion (λ (e : PieceKey × V). (e.0.owner == o) ≡ false) (without o es)
  others o [] = tt
  others o (e ∷ es) =
      elim (e.0.owner == o) as (λ b. (e.0.owner == o) ≡ b → AllByRecursion (λ (e : PieceKey × V). (e.0.owner == o) ≡ false) (cond b (without o es) (e ∷ without o es))) [
        | true ↦ λ _. others o es
        | false ↦ λ f. (f, others o es)
      ] refl
