-- What tallies say of slots.
use Rattle.std.proofs.Common.{◌≡◌, ◌+◌, Bool, true, false, not, ◌&&◌, ◌||◌, cond, List, [], ◌∷◌, refl, sym, ap, ◌∙◌, subst, arith, Less, Equal, Greater, Option, Some, None, nat_eq, zero-add, eqb-true}
use Rattle.std.proofs.lemmas.Bool.Decides.{nat_tests}
use Rattle.std.specs.Ordering.{is_gt, is_le}
use Rattle.std.specs.List.{AllByRecursion}
use Rattle.std.specs.Option.{option_map}
use Rattle.std.specs.Map.{keys_of}
use Rattle.std.proofs.lemmas.Map.Keys.{sorted_head, sorted_tail}
use Rattle.tl_pieces.specs.declared.key.PieceKey.{PieceKey}
use Rattle.tl_pieces.specs.declared.slot.Slot.{Slot}
use Rattle.tl_pieces.specs.declared.slot.Mark.{Mark}
use Rattle.tl_pieces.specs.declared.slot.Mark.TheVariants as mark
use Rattle.tl_pieces.specs.declared.slots.Turn.{Turn}
use Rattle.tl_pieces.specs.declared.tally.Tally.{Tally}
use Rattle.tl_pieces.specs.Keys.{key_cmp, from, Rises}
use Rattle.tl_pieces.specs.Tallies.{count_of, is_past, NoneIsPassed, IsTally}
use Rattle.tl_pieces.specs.Slots.{passes, turn, some_wanted, first, first_from, found}
use Rattle.tl_pieces.proofs.KeyLemmas.{key_self}
use Rattle.tl_pieces.proofs.TallyLemmas.{freed}

plain : (b : Bool) → (b && true) ≡ false → b ≡ false
plain true h = h
plain false h = refl

module _ {S R : Type 0} where
  -- the whole of a change, by what `write` answers
  pub turn_found : (f : Slot S R → Slot S R) (o : Option (Slot S R)) (t : Turn) → Some t ≡ option_map (turn f) o → (v : Slot S R) × (o ≡ Some v) × (t ≡ turn f v)
  turn_found f None t h = cc
  turn_found f (Some v) t h = (v, refl, cc)

  pub turn_none : (f : Slot S R → Slot S R) (o : Option (Slot S R)) → None ≡ option_map (turn f) o → o ≡ None
  turn_none f None h = refl
  turn_none f (Some v) h = cc

  pub none_counted : (es : List (PieceKey × Slot S R)) → nat_eq (count_of (passes mark.Wanted) es) 0 ≡ not (some_wanted es)
  none_counted [] = refl
  none_counted (e ∷ es) =
      elim e.1.wanted as (λ b. nat_eq (cond b 1 0 + count_of (passes mark.Wanted) es) 0 ≡ not (b || some_wanted es)) [
        | true ↦ grind (arith, nat_tests)
        | false ↦ ap (λ n. nat_eq n 0) (zero-add (count_of (passes mark.Wanted) es)) ∙ none_counted es
      ]

  module _ (m : Mark) where
    none_first : (es : List (PieceKey × Slot S R)) → NoneIsPassed (passes m) None es → first m es ≡ None
    none_first [] a = refl
    none_first (e ∷ es) a = ap (λ b. cond b (Some e.0) (first m es)) (plain (passes m e.1) a.0) ∙ none_first es a.1

    from_first : (c : PieceKey) (es : List (PieceKey × Slot S R)) → NoneIsPassed (passes m) (Some c) es → first m (from c es) ≡ first m es
    from_first c [] a = refl
    from_first c (e ∷ es) a =
        elim (key_cmp c e.0) as (λ o. (passes m e.1 && is_gt o) ≡ false → first m (cond (is_le o && not false) (e ∷ from c es) (from c es)) ≡ first m (e ∷ es)) [
          | Less ↦ λ h. ap (cond (passes m e.1) (Some e.0)) (from_first c es a.1)
          | Equal ↦ λ h. ap (cond (passes m e.1) (Some e.0)) (from_first c es a.1)
          | Greater ↦ λ h. from_first c es a.1 ∙ sym (ap (λ b. cond b (Some e.0) (first m es)) (plain (passes m e.1) h))
        ] a.0

    cursor_first : (c : Option PieceKey) (es : List (PieceKey × Slot S R)) → NoneIsPassed (passes m) c es → first_from m c es ≡ first m es
    cursor_first None es t = sym (none_first es t)
    cursor_first (Some c) es t = from_first c es t

    none_of_none : (es : List (PieceKey × Slot S R)) → count_of (passes m) es ≡ 0 → first m es ≡ None
    none_of_none [] h = refl
    none_of_none (e ∷ es) h =
        elim (passes m e.1) as (λ b. cond b 1 0 + count_of (passes m) es ≡ 0 → cond b (Some e.0) (first m es) ≡ None) [
          | true ↦ λ g. absurd (omega (arith, g))
          | false ↦ λ g. none_of_none es (omega (arith, g))
        ] h

    -- what is found by a tally is the first
    pub found_first : (es : List (PieceKey × Slot S R)) (t : Tally) → IsTally (passes m) es t → found m t es ≡ first m es
    found_first es t is =
        elim (nat_eq t.count 0) as (λ b. nat_eq t.count 0 ≡ b → cond b None (first_from m t.cursor es) ≡ first m es) [
          | true ↦ λ h. let zero : count_of (passes m) es ≡ 0 = sym is.counted ∙ eqb-true t.count 0 h in sym (none_of_none es zero)
          | false ↦ λ h. cursor_first t.cursor es is.passed
        ] refl

    behind : (k : PieceKey) (es : List (PieceKey × Slot S R)) → AllByRecursion (λ y. key_cmp k y ≡ Less) (keys_of es) → NoneIsPassed (passes m) (Some k) es
    behind k [] a = tt
    behind k (e ∷ es) a = (freed (passes m e.1) (is_gt (key_cmp k e.0)) (λ _. ap is_gt a.0), behind k es a.1)

    first_passed : (es : List (PieceKey × Slot S R)) → Rises es → NoneIsPassed (passes m) (first m es) es
    first_passed [] s = tt
    first_passed (e ∷ es) s =
        elim (passes m e.1) as (λ b. passes m e.1 ≡ b → NoneIsPassed (passes m) (cond b (Some e.0) (first m es)) (e ∷ es)) [
          | true ↦ λ _. (freed (passes m e.1) (is_gt (key_cmp e.0 e.0)) (λ _. ap is_gt (key_self e.0)), behind e.0 es (sorted_head key_cmp e.0 (keys_of es) s))
          | false ↦ λ h. (ap (λ b. b && is_past (first m es) e.0) h, first_passed es (sorted_tail key_cmp e.0 (keys_of es) s))
        ] refl

    -- the cursor may move there
    pub found_tally : (es : List (PieceKey × Slot S R)) (s t : Tally) → Rises es → IsTally (passes m) es s → t.count ≡ s.count → t.cursor ≡ found m s es → IsTally (passes m) es t
    found_tally es s t rises is count cursor = record {
      counted = count ∙ is.counted;
      passed = subst (λ (x : Option PieceKey). NoneIsPassed (passes m) x es) (sym (cursor ∙ found_first es s is)) (first_passed es rises);
    }
