-- The leaf, and the place in it, of a key.
use Rattle.std.proofs.Common.{◌≡◌, ℕ, suc, ◌+◌, ◌<◌, false, List, [], ◌∷◌, ◌++◌, length, get_or, take, drop, refl, sym, ap, ◌∙◌, subst, arith, Ordering, Greater, is_gt, append_assoc, append-nil, flat_map, length-drop}
use Rattle.std.specs.Cmp.{IsTotalOrder}
use Rattle.std.proofs.lemmas.List.{drop_more, take-append-drop, take_all}
use Rattle.tl_state.specs.KeyOrder.{Below, Rises, Stops, Reaches, StopsLeaf}
use Rattle.tl_state.proofs.OrderLemmas.{below_prefix, below_no_reach, reaches_at, rises_left, rises_right}
use Rattle.std.specs.Prelude.{Vec}
use Rattle.std.specs.declared.sync.Arc.{Arc}
use Rattle.tl_state.specs.Leaves.{leaf_entries, all_entries, entries_ahead, entries_behind}
use Rattle.tl_state.specs.Spots.{IsSpot}
use Rattle.tl_state.proofs.LeafLemmas.{around, up_to, all_around, all_cut}

module _ {K V L : Type 0} (items : L → List (K × V)) where
  module _ {cmp : K → K → Ordering} (total : IsTotalOrder cmp) (k : K) (ls : List L) (i : ℕ) (l : L) (inside : i < length ls) (is : l ≡ get_or ls i l) where
    pub leaf_rises : Rises cmp (flat_map items ls) → Rises cmp (items l)
    leaf_rises s =
        rises_left cmp (items l) (flat_map items (drop (i + 1) ls)) (rises_right cmp (flat_map items (take i ls)) _ (subst (Rises cmp) (ap (flat_map items) (around ls i l inside is) ∙ all_around items (take i ls) l (drop (i + 1) ls)) s))

    module _ (n : ℕ) (e : K × V) (count : length (items l) ≡ suc n) (last : e ≡ get_or (items l) n e) where
      -- the leaves up to one whose last entry stands before the key
      pub leaves_below : Rises cmp (flat_map items ls) → cmp k e.0 ≡ Greater → Below cmp k (flat_map items (take (i + 1) ls))
      leaves_below s g =
          let A = flat_map items (take i ls) in
          let B = flat_map items (drop (i + 1) ls) in
          let F = take n (items l) in
          let own : items l ≡ F ++ e ∷ [] = sym (take_all (n + 1) (items l) (omega arith)) ∙ up_to (items l) n e (omega arith) last in
          let whole : flat_map items ls ≡ (A ++ F) ++ e ∷ B =
          ap (flat_map items) (around ls i l inside is) ∙ all_around items (take i ls) l (drop (i + 1) ls) ∙ ap (λ t. A ++ (t ++ B)) own ∙ ap (λ t. A ++ t) (append_assoc F (e ∷ []) B) ∙ sym (append_assoc A F (e ∷ B)) in
          let front : (A ++ F) ++ e ∷ [] ≡ flat_map items (take (i + 1) ls) =
          append_assoc A F (e ∷ []) ∙ ap (λ t. A ++ t) (sym own ∙ sym (append-nil (items l))) ∙ sym (all_around items (take i ls) l []) ∙ ap (flat_map items) (sym (up_to ls i l inside is)) in
          subst (Below cmp k) front (below_prefix total k (A ++ F) e B (subst (Rises cmp) whole s) g)

      pub leaf_stops : is_gt (cmp k e.0) ≡ false → StopsLeaf cmp k items (drop i ls)
      leaf_stops g = subst (StopsLeaf cmp k items) (sym (drop_more ls i l inside ∙ ap (λ x. x ∷ drop (i + 1) ls) (sym is))) (reaches_at cmp k (items l) n e count last g)

    pub leaf_reached : StopsLeaf cmp k items (drop i ls) → Reaches cmp k (items l)
    leaf_reached stops = subst (StopsLeaf cmp k items) (drop_more ls i l inside ∙ ap (λ x. x ∷ drop (i + 1) ls) (sym is)) stops

-- the place of a key in entries that reach it is one of theirs
pub place_inside : {K V : Type 0} (cmp : K → K → Ordering) (k : K) (es : List (K × V)) (w : ℕ) → Below cmp k (take w es) → Reaches cmp k es → w < length es
place_inside cmp k es w below reached = cut (drop w es) refl
  where
    cut : (rest : List _) → drop w es ≡ rest → w < length es
    cut [] none = absurd (below_no_reach cmp k es (subst (Below cmp k) (sym (append-nil (take w es)) ∙ ap (λ t. take w es ++ t) (sym none) ∙ take-append-drop w es) below) reached)
    cut (e ∷ back) some = omega (arith, ap length some, length-drop w es)

pub stops_first : {K V : Type 0} (cmp : K → K → Ordering) (k : K) (es : List (K × V)) (w : ℕ) (e : K × V) → w < length es → e ≡ get_or es w e → Stops cmp k (drop w es) → is_gt (cmp k e.0) ≡ false
stops_first cmp k es w e inside is stops = subst (Stops cmp k) (drop_more es w e inside ∙ ap (λ x. x ∷ drop (w + 1) es) (sym is)) stops

pub drop_first : {E : Type 0} (es after : List E) (w : ℕ) (e : E) → w < length es → e ≡ get_or es w e → drop w es ++ after ≡ e ∷ (drop (w + 1) es ++ after)
drop_first es after w e inside is = ap (λ t. t ++ after) (drop_more es w e inside ∙ ap (λ x. x ∷ drop (w + 1) es) (sym is))

-- the entries around a spot
pub spot_is : {K V Y Z : Type 0} (cmp : K → K → Ordering) (k : K) (ls : List (Arc (Vec (K × V) Y) Z)) (at w : ℕ) (e : K × V) → IsSpot cmp k ls at w e → all_entries ls ≡ entries_ahead ls at w ++ e ∷ entries_behind ls at (w + 1)
spot_is cmp k ls at w e s = all_cut leaf_entries ls at w ∙ ap (λ t. entries_ahead ls at w ++ t) s.here
