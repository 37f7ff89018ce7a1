-- Lists of beats that are put in order: the least, and those with the same members.
use Rattle.std.proofs.Common.{◌≡◌, true, false, cond, List, [], ◌∷◌, refl, ap, arith}
use Rattle.std.specs.Prelude.{◌↔◌}
use Rattle.std.specs.declared.cmp.Ordering.{Ordering}
use Rattle.std.specs.declared.cmp.Ordering.TheVariants.{Less, Equal, Greater}
use Rattle.std.specs.Ordering.{is_lt}
use Rattle.std.specs.List.{Contains}
use Rattle.std.specs.List.Sorted.{IsStrictlySortedBy}
use Rattle.std.proofs.lemmas.List.Sorted.{IsPermutation-sym, Contains-permutation, sum_by-IsPermutation}
use Rattle.tl_beats.specs.declared.Placed.{Placed}
use Rattle.tl_definitions.specs.Positions.{position_order, lies_before, insert_in_order, in_order}
use Rattle.tl_definitions.proofs.Lists.{contains_here}
use Rattle.tl_definitions.proofs.PositionLaws.{position_total}
use Rattle.tl_definitions.proofs.ReportLaws.{strict_one}
use Rattle.tl_capture.proofs.OrderLemmas.{AreApart, at_place, less_or, strict_from}
use Rattle.tl_capture.proofs.PartLemmas.{order_moves, order_holds}

-- Of two that don't tie, where one doesn't lie before the other, the other does.
pub other_less : (p q : Placed) → lies_before p q ≡ false → (position_order q p ≡ Equal → ⊥) → position_order q p ≡ Less
other_less p q h apart = less_or (position_order q p) (position_order p q) (position_total.antisymm p q) h apart

less_from : (o : Ordering) → is_lt o ≡ true → o ≡ Less
less_from Less h = refl
less_from Equal h = cc
less_from Greater h = cc

pub is_before : (p q : Placed) → lies_before p q ≡ true → position_order p q ≡ Less
is_before p q h = less_from (position_order p q) h

-- Beats with places of their own are in strict order then.
pub order_strict : (ps : List Placed) → AreApart ps → IsStrictlySortedBy position_order (in_order ps)
order_strict ps apart = strict_from (in_order ps) (order_holds ps) (λ p. let same = sum_by-IsPermutation (at_place p) ps (in_order ps) (order_moves ps) in let most = apart p in omega arith)

-- Lists with the same members, each at a place of its own, are put in order as one.
pub one_order : (ps qs : List Placed) → AreApart ps → AreApart qs → ((p : Placed) → Contains ps p ↔ Contains qs p) → in_order ps ≡ in_order qs
one_order ps qs one two same = strict_one position_order position_total (in_order ps) (in_order qs) (order_strict ps one) (order_strict qs two)
    (λ p. (
      (λ h. Contains-permutation qs (in_order qs) p (order_moves qs) ((same p).0 (Contains-permutation (in_order ps) ps p (IsPermutation-sym ps (in_order ps) (order_moves ps)) h))),
      (λ h. Contains-permutation ps (in_order ps) p (order_moves ps) ((same p).1 (Contains-permutation (in_order qs) qs p (IsPermutation-sym qs (in_order qs) (order_moves qs)) h))),
    ))

put_first : (p : Placed) (qs : List Placed) → ((q : Placed) → Contains qs q → lies_before p q ≡ true) → insert_in_order p qs ≡ p ∷ qs
put_first p [] ahead = refl
put_first p (q ∷ qs) ahead = ap (λ b. cond b (p ∷ q ∷ qs) (q ∷ insert_in_order p qs)) (ahead q (contains_here q qs))

-- A beat that lies before all others is the first.
pub least_first : (p : Placed) (ps : List Placed) → ((q : Placed) → Contains ps q → position_order p q ≡ Less) → in_order (p ∷ ps) ≡ p ∷ in_order ps
least_first p ps least =
    let ahead : (q : Placed) → Contains (in_order ps) q → lies_before p q ≡ true = λ q h. ap is_lt (least q (Contains-permutation (in_order ps) ps q (IsPermutation-sym ps (in_order ps) (order_moves ps)) h)) in
    put_first p (in_order ps) ahead
