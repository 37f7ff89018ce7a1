-- Leaves and those that share their entries.
use Rattle.std.proofs.Common.{◌≡◌, ℕ, ◌<◌, List, [], ◌∷◌, ◌++◌, length, refl, sym, ap, ◌∙◌, subst, Vec}
use Rattle.std.specs.Arc.{arc_value}
use Rattle.std.specs.declared.sync.Arc.{Arc}
use Rattle.std.specs.declared.cmp.Ordering.{Ordering}
use Rattle.std.specs.List.{AllZip}
use Rattle.std.specs.List.Sorted.{IsStrictlySortedBy}
use Rattle.std.proofs.lemmas.List.Elements.{All-nil, All-cons, All-head, All-tail}
use Rattle.tl_state.specs.Leaves.{leaf_entries, all_entries, EachHasEntries}
use Rattle.tl_state.specs.Map.{IsMap}
use Rattle.tl_state.specs.KeyOrder.{Rises}

module _ {K V Y Z : Type 0} where
  -- The second shares with the first, leaf by leaf.
  abbrev pub Shares : List (Arc (Vec (K × V) Y) Z) → List (Arc (Vec (K × V) Y) Z) → Type 0
  Shares ls ms = AllZip (λ l m. arc_value m ≡ arc_value l) ls ms

  pub shared_entries : (ls ms : List (Arc (Vec (K × V) Y) Z)) → Shares ls ms → all_entries ms ≡ all_entries ls
  shared_entries [] [] h = refl
  shared_entries [] (m ∷ ms) h = absurd h
  shared_entries (l ∷ ls) [] h = absurd h
  shared_entries (l ∷ ls) (m ∷ ms) h = ap (λ v. v.items ++ all_entries ms) h.0 ∙ ap (λ t. leaf_entries l ++ t) (shared_entries ls ms h.1)

  pub shared_full : (ls ms : List (Arc (Vec (K × V) Y) Z)) → Shares ls ms → EachHasEntries ls → EachHasEntries ms
  shared_full [] [] h f = f
  shared_full [] (m ∷ ms) h f = absurd h
  shared_full (l ∷ ls) [] h f = absurd h
  shared_full (l ∷ ls) (m ∷ ms) h f =
      All-cons (λ x. 0 < length (leaf_entries x)) m ms (subst (λ v. 0 < length v.items) (sym h.0) (All-head (λ x. 0 < length (leaf_entries x)) l ls f)) (shared_full ls ms h.1 (All-tail (λ x. 0 < length (leaf_entries x)) l ls f))

  pub shared_map : (cmp : K → K → Ordering) (ls ms : List (Arc (Vec (K × V) Y) Z)) (n : ℕ) → Shares ls ms → IsMap cmp ls n → IsMap cmp ms n
  shared_map cmp ls ms n h m = record {
    rises = subst (Rises cmp) (sym (shared_entries ls ms h)) m.rises;
    full = shared_full ls ms h m.full;
    counted = m.counted ∙ ap length (sym (shared_entries ls ms h));
  }

  no_map : (cmp : K → K → Ordering) → IsMap {K = K} {V = V} {Y = Y} {Z = Z} cmp [] 0
  unfolding IsStrictlySortedBy
  no_map cmp = record { rises = tt; full = All-nil (λ x. 0 < length (leaf_entries x)); counted = refl }

  pub empty_map : (cmp : K → K → Ordering) (ls : List (Arc (Vec (K × V) Y) Z)) → ls ≡ [] → IsMap cmp ls 0
  empty_map cmp ls is = subst (λ t. IsMap cmp t 0) (sym is) (no_map cmp)
