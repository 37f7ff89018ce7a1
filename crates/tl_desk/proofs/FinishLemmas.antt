-- What all monitors told, after the end of those that were left.
use Rattle.std.proofs.Common.{◌≡◌, ℕ, zero, suc, ◌+◌, ◌<◌, ◌⊎◌, inl, inr, true, false, Bool, cond, List, [], ◌∷◌, ◌++◌, Option, Some, None, map, length, refl, sym, ap, subst, ◌∙◌, arith, Less}
use Rattle.std.specs.Prelude.{slice_get}
use Rattle.std.specs.BTreeMap.{is_at}
use Rattle.std.specs.List.{Contains, AllByRecursion}
use Rattle.std.specs.List.Sorted.{IsStrictlySortedBy}
use Rattle.std.specs.Map.{keys_of}
use Rattle.std.specs.Option.{option_map, option_and_then}
use Rattle.std.specs.Ordering.{nat_cmp}
use Rattle.std.proofs.lemmas.List.Elements.{Contains-append_right}
use Rattle.std.proofs.lemmas.Map.Keys.{sorted_head, sorted_tail}
use Rattle.std.proofs.lemmas.Option.{slice_get-map}
use Rattle.tl_beats.specs.declared.watch.Watch.{Watch}
use Rattle.tl_monitor.specs.Boxes.{IsBoxes, place_at, here_in, first_out, told}
use Rattle.tl_monitor.specs.Places.{Place, Here, Out, watch_of_place}
use Rattle.tl_definitions.proofs.Lists.{contains_here, contains_there, contains_mapped}
use Rattle.tl_edits.specs.Inputs.{watch_at}
use Rattle.tl_monitor.specs.Held.{Held}
use Rattle.tl_monitor.specs.declared.monitor.Settlement.{Settlement}
use Rattle.tl_capture.proofs.PresentLemmas.{less_is}
use Rattle.tl_desk.specs.Core.{Core, IsSound, log_of, standing}
use Rattle.tl_desk.specs.Ends.{IsEndOf, IsLastOf, AllHaveEnded}
use Rattle.tl_desk.proofs.BoxLemmas.{number_exact, number_self, number_apart}
use Rattle.tl_desk.proofs.TicketLemmas.{clash}

-- What is found in two lists is in the first, or so far after it in the second.
found_both : {X : Type 0} (xs ys : List X) (at : ℕ) (e : X) → slice_get (xs ++ ys) at ≡ Some e → (slice_get xs at ≡ Some e) ⊎ ((k : ℕ) × (at ≡ length xs + k) × (slice_get ys k ≡ Some e))
found_both [] ys at e is = inr (at, (let same : at ≡ 0 + at = omega arith in same), is)
found_both (x ∷ xs) ys zero e is = inl is
found_both {X} (x ∷ xs) ys (suc at) e is = elim (found_both xs ys at e is) as (λ _. (slice_get xs at ≡ Some e) ⊎ ((k : ℕ) × (suc at ≡ suc (length xs) + k) × (slice_get ys k ≡ Some e))) [
  | inl h ↦ inl h
  | inr h ↦ inr (h.0, (let one : at ≡ length xs + h.0 = h.1 in omega (arith, one)), h.2)
]

found_mapped : {X Y : Type 0} (f : X → Y) (o : Option X) (y : Y) → option_map f o ≡ Some y → (x : X) × (o ≡ Some x) × (f x ≡ y)
found_mapped f None y is = absurd (let never : None ≡ Some y = is in cc)
found_mapped f (Some x) y is = (x, refl, (let same : f x ≡ y = cc in same))

-- ---- those that are here

above : (n : ℕ) (slots : List (ℕ × Place)) (k : ℕ) (e : ℕ × Held) → AllByRecursion (λ q. nat_cmp n q ≡ Less) (keys_of slots) → slice_get (here_in slots) k ≡ Some e → nat_cmp n e.0 ≡ Less
above n [] k e all is = absurd (let never : None ≡ Some e = is in cc)
above n ((m, Out away) ∷ slots) k e all is = above n slots k e all.1 is
above n ((m, Here held) ∷ slots) zero e all is = subst (λ (x : ℕ × Held). nat_cmp n x.0 ≡ Less) (let same : (m, held) ≡ e = cc in same) all.0
above n ((m, Here held) ∷ slots) (suc k) e all is = above n slots k e all.1 is

differ : (n m : ℕ) → nat_cmp n m ≡ Less → n ≡ m → ⊥
differ n m less same = let below : n < m = less_is n m less in omega (arith, below, same)

-- The numbers of those that are here stand once.
here_once : (slots : List (ℕ × Place)) → IsStrictlySortedBy nat_cmp (keys_of slots) → (k j : ℕ) (e f : ℕ × Held) → slice_get (here_in slots) k ≡ Some e → slice_get (here_in slots) j ≡ Some f → e.0 ≡ f.0 → k ≡ j
here_once [] s k j e f is has one = absurd (let never : None ≡ Some e = is in cc)
here_once ((m, Out away) ∷ slots) s k j e f is has one = here_once slots (sorted_tail nat_cmp m (keys_of slots) s) k j e f is has one
here_once ((m, Here held) ∷ slots) s zero zero e f is has one = refl
here_once ((m, Here held) ∷ slots) s zero (suc j) e f is has one =
    absurd (differ m f.0 (above m slots j f (sorted_head nat_cmp m (keys_of slots) s) has) (ap (λ (x : ℕ × Held). x.0) (let same : (m, held) ≡ e = cc in same) ∙ one))
here_once ((m, Here held) ∷ slots) s (suc k) zero e f is has one =
    absurd (differ m e.0 (above m slots k e (sorted_head nat_cmp m (keys_of slots) s) is) (ap (λ (x : ℕ × Held). x.0) (let same : (m, held) ≡ f = cc in same) ∙ sym one))
here_once ((m, Here held) ∷ slots) s (suc k) (suc j) e f is has one = ap suc (here_once slots (sorted_tail nat_cmp m (keys_of slots) s) k j e f is has one)

-- Each is at its place.
here_place : (slots : List (ℕ × Place)) → IsStrictlySortedBy nat_cmp (keys_of slots) → (k : ℕ) (e : ℕ × Held) → slice_get (here_in slots) k ≡ Some e → place_at e.0 slots ≡ Some (Here e.1)
here_place [] s k e is = absurd (let never : None ≡ Some e = is in cc)
here_place ((m, Out away) ∷ slots) s k e is =
    ap (λ b. cond b (Some (Out away)) (place_at e.0 slots)) (number_apart e.0 m (λ same. differ m e.0 (above m slots k e (sorted_head nat_cmp m (keys_of slots) s) is) (sym same)))
    ∙ here_place slots (sorted_tail nat_cmp m (keys_of slots) s) k e is
here_place ((m, Here held) ∷ slots) s zero e is =
    subst (λ (x : ℕ × Held). place_at x.0 ((m, Here held) ∷ slots) ≡ Some (Here x.1)) (let same : (m, held) ≡ e = cc in same) (ap (λ b. cond b (Some (Here held)) (place_at m slots)) (number_self m))
here_place ((m, Here held) ∷ slots) s (suc k) e is =
    ap (λ b. cond b (Some (Here held)) (place_at e.0 slots)) (number_apart e.0 m (λ same. differ m e.0 (above m slots k e (sorted_head nat_cmp m (keys_of slots) s) is) (sym same)))
    ∙ here_place slots (sorted_tail nat_cmp m (keys_of slots) s) k e is

-- Where none is out, each that is attached is among them.
all_here : (number : ℕ) (w : Watch) (slots : List (ℕ × Place)) → first_out slots ≡ None → option_and_then watch_of_place (place_at number slots) ≡ Some w → (held : Held) × Contains (here_in slots) (number, held)
all_here number w [] none is = absurd (let never : None ≡ Some w = is in cc)
all_here number w ((m, Out away) ∷ slots) none is = absurd (let never : Some m ≡ None = none in cc)
all_here number w ((m, Here held) ∷ slots) none is = go (λ next. all_here number w slots none next) (is_at (nat_cmp number) m) refl is
  where
    go : (option_and_then watch_of_place (place_at number slots) ≡ Some w → (h : Held) × Contains (here_in slots) (number, h)) → (b : Bool) → is_at (nat_cmp number) m ≡ b
        → option_and_then watch_of_place (cond b (Some (Here held)) (place_at number slots)) ≡ Some w → (h : Held) × Contains ((m, held) ∷ here_in slots) (number, h)
    go later true at is = (held, subst (λ n. Contains ((m, held) ∷ here_in slots) (n, held)) (sym (number_exact number m at)) (contains_here (m, held) (here_in slots)))
    go later false at is = let rest = later is in (rest.0, contains_there (m, held) (here_in slots) (number, rest.0) rest.1)

-- ---- all

module _ (core : Core) (sound : IsSound core) (boxes : IsBoxes core.boxes) (none : first_out core.boxes.slots ≡ None) where
  abbrev edits : ℕ
  edits = length (log_of core).edits

  abbrev tell : ℕ × Held → ℕ × Settlement
  tell e = (e.0, told e.1 edits)

  abbrev here : List (ℕ × Held)
  here = here_in core.boxes.slots

  abbrev all_told : List (ℕ × Settlement)
  all_told = core.boxes.ended ++ map tell here

  -- One that told stood before, or was here.
  one : (at : ℕ) (e : ℕ × Settlement) → slice_get all_told at ≡ Some e
      → (slice_get core.boxes.ended at ≡ Some e) ⊎ ((k : ℕ) × (h : ℕ × Held) × (at ≡ length core.boxes.ended + k) × (slice_get here k ≡ Some h) × (tell h ≡ e))
  one at e is = elim (found_both core.boxes.ended (map tell here) at e is) [
    | inl h ↦ inl h
    | inr h ↦ (let x = found_mapped tell (slice_get here h.0) e (sym (slice_get-map tell here h.0) ∙ h.2) in inr (h.0, x.0, h.1, x.1, x.2))
  ]

  at_place : (k : ℕ) (h : ℕ × Held) → slice_get here k ≡ Some h → place_at h.0 core.boxes.slots ≡ Some (Here h.1)
  at_place k h is = here_place core.boxes.slots boxes.rises k h is

  -- One that ended isn't here.
  apart : (at k : ℕ) (e : ℕ × Settlement) (h : ℕ × Held) → slice_get core.boxes.ended at ≡ Some e → slice_get here k ≡ Some h → e.0 ≡ h.0 → ⊥
  apart at k e h is has same = clash (place_at h.0 core.boxes.slots) (Here h.1) (ap (λ n. place_at n core.boxes.slots) (sym same) ∙ sound.ends.gone at e is) (at_place k h has)

  told_each : (at : ℕ) (e : ℕ × Settlement) → slice_get all_told at ≡ Some e → IsEndOf (log_of core) e.0 e.1.watch e.1.closed_at ⊎ IsLastOf (log_of core) e.0 e.1.watch e.1.closed_at
  told_each at e is = go (one at e is)
    where
      go : (slice_get core.boxes.ended at ≡ Some e) ⊎ ((k : ℕ) × (h : ℕ × Held) × (at ≡ length core.boxes.ended + k) × (slice_get here k ≡ Some h) × (tell h ≡ e))
          → IsEndOf (log_of core) e.0 e.1.watch e.1.closed_at ⊎ IsLastOf (log_of core) e.0 e.1.watch e.1.closed_at
      go (inl h) = inl (sound.ends.told at e h)
      go (inr (k, h, _, has, same)) =
          inr (subst (λ (x : ℕ × Settlement). IsLastOf (log_of core) x.0 x.1.watch x.1.closed_at) same
          (refl, sym (sound.attached h.0) ∙ ap (λ o. option_and_then watch_of_place o) (at_place k h has)))

  told_once : (at other : ℕ) (e f : ℕ × Settlement) → slice_get all_told at ≡ Some e → slice_get all_told other ≡ Some f → e.0 ≡ f.0 → at ≡ other
  told_once at other e f is has same = go (one at e is) (one other f has)
    where
      go : (slice_get core.boxes.ended at ≡ Some e) ⊎ ((k : ℕ) × (h : ℕ × Held) × (at ≡ length core.boxes.ended + k) × (slice_get here k ≡ Some h) × (tell h ≡ e))
          → (slice_get core.boxes.ended other ≡ Some f) ⊎ ((k : ℕ) × (h : ℕ × Held) × (other ≡ length core.boxes.ended + k) × (slice_get here k ≡ Some h) × (tell h ≡ f)) → at ≡ other
      go (inl x) (inl y) = sound.ends.once at other e f x y same
      go (inl x) (inr (k, h, _, y, mine)) = absurd (apart at k e h x y (same ∙ sym (ap (λ (z : ℕ × Settlement). z.0) mine)))
      go (inr (k, h, _, x, mine)) (inl y) = absurd (apart other k f h y x (sym same ∙ sym (ap (λ (z : ℕ × Settlement). z.0) mine)))
      go (inr (k, h, far, x, mine)) (inr (j, g, near, y, yours)) =
          far ∙ ap (λ n. length core.boxes.ended + n) (here_once core.boxes.slots boxes.rises k j h g x y (ap (λ (z : ℕ × Settlement). z.0) mine ∙ same ∙ sym (ap (λ (z : ℕ × Settlement). z.0) yours))) ∙ sym near

  told_last : (number : ℕ) (w : Watch) → watch_at number (standing core).monitors ≡ Some w → Contains (keys_of all_told) number
  told_last number w is =
      let found = all_here number w core.boxes.slots none (sound.attached number ∙ is) in
      contains_mapped (λ (e : ℕ × Settlement). e.0) all_told (tell (number, found.0)) (Contains-append_right core.boxes.ended (map tell here) (tell (number, found.0)) (contains_mapped tell here (number, found.0) found.1))

  pub all_have_ended : AllHaveEnded (log_of core) (core.boxes.ended ++ map (λ e. (e.0, told e.1 (length (log_of core).edits))) (here_in core.boxes.slots))
  all_have_ended = record { once = told_once; told = told_each; last = told_last }
