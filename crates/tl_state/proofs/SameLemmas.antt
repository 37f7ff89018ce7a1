-- Maps with the same value of each key have the same entries.
use Rattle.std.proofs.Common.{◌≡◌, Bool, true, cond, List, [], ◌∷◌, Some, None, unwrap_or, is_some, refl, sym, ap, ◌∙◌, Ordering, Equal, is_eq, true≢false}
use Rattle.std.specs.Bool.{Decides}
use Rattle.std.specs.BTreeMap.{is_at}
use Rattle.std.specs.Cmp.{IsTotalOrder}
use Rattle.std.specs.List.Sorted.{IsStrictlySortedBy}
use Rattle.std.specs.Map.{keys_of}
use Rattle.std.specs.Ordering.{ordering_reverse}
use Rattle.std.proofs.lemmas.Cmp.{eq_by_cmp_equiv, tied_itself}
use Rattle.std.proofs.lemmas.Map.{lookup-none}
use Rattle.std.proofs.lemmas.Map.Entries.{none_past_head}
use Rattle.std.proofs.lemmas.Map.Keys.{IsDistinct-from_sorted}
use Rattle.tl_state.specs.KeyOrder.{Rises}
use Rattle.tl_state.specs.Map.{value_at, SameValues}
use Rattle.tl_state.proofs.EntryLemmas.{by_cmp, by_bool, value_here, value_before}

module _ {K V : Type 0} {cmp : K → K → Ordering} (total : IsTotalOrder cmp) (exact : (x y : K) → cmp x y ≡ Equal → x ≡ y) where
  first_value : (e : K × V) (es : List (K × V)) → value_at cmp (e ∷ es) e.0 ≡ Some e.1
  first_value e es = value_here cmp e.0 e es (tied_itself total e.0)

  -- after the first entry its key has no value
  past_first : (key : K) (e : K × V) (es : List (K × V)) → Rises cmp (e ∷ es) → is_eq (cmp key e.0) ≡ true → value_at cmp es key ≡ None
  past_first key e es s here = lookup-none (is_at (cmp key)) es (none_past_head (eq_by_cmp_equiv total) key e es (IsDistinct-from_sorted cmp (keys_of (e ∷ es)) s) here)

  module _ (e f : K × V) (es fs : List (K × V)) (s : Rises cmp (e ∷ es)) (t : Rises cmp (f ∷ fs)) (h : SameValues cmp (e ∷ es) (f ∷ fs)) where
    same_key : cmp e.0 f.0 ≡ Equal
    same_key = by_cmp (cmp e.0 f.0)
        (λ lt. absurd (true≢false (ap is_some (sym (first_value e es) ∙ h e.0 ∙ value_before total e.0 f fs lt t))))
        (λ eq. eq)
        (λ gt. absurd (true≢false (ap is_some (sym (first_value f fs) ∙ sym (h f.0) ∙ value_before total f.0 e es (total.antisymm f.0 e.0 ∙ ap ordering_reverse gt) s))))

    same_value : e.1 ≡ f.1
    same_value = ap (λ o. unwrap_or o e.1) (sym (first_value e es) ∙ h e.0 ∙ value_here cmp e.0 f fs same_key)

    same_rest : SameValues cmp es fs
    same_rest key =
        let there : is_eq (cmp key f.0) ≡ is_eq (cmp key e.0) = ap (λ k. is_eq (cmp key k)) (sym (exact e.0 f.0 same_key)) in
        by_bool (is_eq (cmp key e.0))
        (λ here. past_first key e es s here ∙ sym (past_first key f fs t (there ∙ here)))
        (λ not_here.
        sym (ap (λ b. cond b (Some e.1) (value_at cmp es key)) not_here)
        ∙ h key
        ∙ ap (λ b. cond b (Some f.1) (value_at cmp fs key)) (there ∙ not_here))

  same_entries : (es fs : List (K × V)) → Rises cmp es → Rises cmp fs → SameValues cmp es fs → es ≡ fs
  unfolding IsStrictlySortedBy
  same_entries [] [] s t h = refl
  same_entries [] (f ∷ fs) s t h = absurd (true≢false (ap is_some (sym (first_value f fs) ∙ sym (h f.0))))
  same_entries (e ∷ es) [] s t h = absurd (true≢false (ap is_some (sym (first_value e es) ∙ h e.0)))
  same_entries (e ∷ es) (f ∷ fs) s t h =
      let rest = same_entries es fs s.1 t.1 (same_rest e f es fs s t h) in
      λ i. (exact e.0 f.0 (same_key e f es fs s t h) i, same_value e f es fs s t h i) ∷ rest i

  -- what decides the one decides the other
  pub same_values : (es fs : List (K × V)) → Rises cmp es → Rises cmp fs → (r : Bool) → Decides r (es ≡ fs) → Decides r (SameValues cmp es fs)
  same_values es fs s t r decides = (λ y key. ap (λ l. value_at cmp l key) (decides.0 y), λ h. decides.1 (same_entries es fs s t h))
