-- The beats of a link with one fragment more.
use Rattle.std.proofs.Common.{◌≡◌, ℕ, ◌<◌, ◌≤◌, inl, inr, cond, List, [], ◌∷◌, ◌++◌, refl, sym, ap, subst, ◌∙◌, arith, append-nil}
use Rattle.std.specs.List.{Contains}
use Rattle.std.specs.List.Sorted.{IsStrictlySortedBy}
use Rattle.std.proofs.lemmas.List.Elements.{All-nil, All-cons, All-contains, Contains-append_left, Contains-append_right, Contains-append_cases}
use Rattle.tl_beats.specs.declared.Beat.{Beat}
use Rattle.tl_beats.specs.declared.Placed.{Placed}
use Rattle.tl_definitions.specs.Positions.{Recorded, position_order, beats_of, by_range, placed_beats, all_placed}
use Rattle.tl_definitions.proofs.LinkLaws.{itself}
use Rattle.tl_definitions.proofs.PositionLaws.{beats_are_of_fragments, position_total, positions_are_ordered}
use Rattle.tl_definitions.proofs.ReportLaws.{strict_one}
use Rattle.tl_definitions.proofs.RisingLaws.{strict_both}
use Rattle.tl_capture.specs.Present.{IsCapture, IsPresent, put_in}
use Rattle.tl_capture.specs.Ranges.{AreRanges}
use Rattle.tl_capture.proofs.LawLemmas.{own_strict}
use Rattle.tl_capture.proofs.PresentLemmas.{ranges_of, placed_is_of}
use Rattle.tl_capture.proofs.PutLemmas.{put_from}
use Rattle.tl_capture.proofs.TouchLemmas.{put_has, put_here}
use Rattle.tl_apart.specs.Told.{IsAfter}

-- A beat of a fragment lies in its range.
pub within : (fs : List Recorded) (f : Recorded) (p : Placed) → IsPresent fs → Contains fs f → Contains (placed_beats f) p → (p.link ≡ f.link) × (f.first ≤ p.beat.cycle) × (p.beat.cycle ≤ f.last)
within fs f p is has h =
    let own = All-contains IsCapture fs f is.each has in
    let placed = placed_is_of f.link f.number 2 f.beats p h in
    let range = All-contains (λ (b : Beat). (f.first ≤ b.cycle) × (b.cycle ≤ f.last)) f.beats p.beat own.beats.within placed.2 in
    (placed.0, range.0, range.1)

-- A fragment's own beats are in order.
pub own_rise : (f : Recorded) → IsCapture f → IsStrictlySortedBy position_order (placed_beats f)
unfolding IsStrictlySortedBy
own_rise f is =
    let ranges : AreRanges (f ∷ []) = record { each = All-cons IsCapture f [] is (All-nil IsCapture); apart = (tt, tt) } in
    let alone : beats_of f.link (f ∷ []) ≡ placed_beats f = ap (λ b. all_placed (by_range (cond b (f ∷ []) []))) (itself f.link) ∙ append-nil (placed_beats f) in
    subst (IsStrictlySortedBy position_order) alone (own_strict f.link (f ∷ []) ranges)

module _ (fs : List Recorded) (f : Recorded) (is : IsPresent fs) (there : IsPresent (put_in f fs)) where
  abbrev with_it : List Recorded
  with_it = put_in f fs

  pub elsewhere : (link : ℕ) → (f.link ≡ link → ⊥) → beats_of link with_it ≡ beats_of link fs
  elsewhere link other =
      strict_one position_order position_total (beats_of link with_it) (beats_of link fs) (own_strict link with_it (ranges_of with_it there)) (own_strict link fs (ranges_of fs is))
      (λ p. (
        (λ h. let found = (beats_are_of_fragments link with_it p).0 h in elim (put_from f fs found.0 found.1) [
          | inl same ↦ absurd (other (ap (λ (g : Recorded). g.link) same ∙ found.2))
          | inr before ↦ (beats_are_of_fragments link fs p).1 (found.0, before, found.2, found.3)
        ]),
        (λ h. let found = (beats_are_of_fragments link fs p).0 h in (beats_are_of_fragments link with_it p).1 (found.0, put_has f fs found.0 found.1, found.2, found.3)),
      ))

  module _ (after : IsAfter fs f) where
    placed : IsStrictlySortedBy position_order (placed_beats f)
    placed = own_rise f (All-contains IsCapture with_it f there.each (put_here f fs))

    -- It stands at the end.
    pub at_end : beats_of f.link with_it ≡ beats_of f.link fs ++ placed_beats f
    at_end =
        strict_one position_order position_total (beats_of f.link with_it) (beats_of f.link fs ++ placed_beats f) (own_strict f.link with_it (ranges_of with_it there))
        (strict_both position_order position_total (beats_of f.link fs) (placed_beats f) (own_strict f.link fs (ranges_of fs is)) placed (λ p q h g.
        let found = (beats_are_of_fragments f.link fs p).0 h in
        let low = within fs found.0 p is found.1 found.3 in
        let high = within with_it f q there (put_here f fs) g in
        let apart : found.0.last < f.first = after found.0 found.1 found.2 in
        let top : p.beat.cycle ≤ found.0.last = low.2 in
        let bottom : f.first ≤ q.beat.cycle = high.1 in
        positions_are_ordered.by_cycle p q (omega (arith, apart, top, bottom))))
        (λ p. (
          (λ h. let found = (beats_are_of_fragments f.link with_it p).0 h in elim (put_from f fs found.0 found.1) [
            | inl same ↦ Contains-append_right (beats_of f.link fs) (placed_beats f) p (subst (λ g. Contains (placed_beats g) p) (sym same) found.3)
            | inr before ↦ Contains-append_left (beats_of f.link fs) (placed_beats f) p ((beats_are_of_fragments f.link fs p).1 (found.0, before, found.2, found.3))
          ]),
          (λ h. elim (Contains-append_cases (beats_of f.link fs) (placed_beats f) p h) [
            | inl low ↦ (let found = (beats_are_of_fragments f.link fs p).0 low in (beats_are_of_fragments f.link with_it p).1 (found.0, put_has f fs found.0 found.1, found.2, found.3))
            | inr high ↦ (beats_are_of_fragments f.link with_it p).1 (f, put_here f fs, refl, high)
          ]),
        ))
