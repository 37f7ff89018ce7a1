use Rattle.std.proofs.Common.{◌≡◌, ℕ, ◌<◌, ◌≤◌, ◌^◌, true, false, List, length, get_or, sym, ap, subst, ◌∙◌, arith, drop_of_length-le}
use Rattle.std.specs.Prelude.{◌==◌, MatchOption}
use Rattle.std.proofs.lemmas.Bool.Decides.{Decides-at}
use Rattle.tl_definitions.specs.Positions.{Recorded, all_placed, beats_of_all}
use Rattle.tl_capture.specs.Present.{IsPresent, of_link}
use Rattle.tl_capture.specs.Ranges.{has_some}
use Rattle.tl_capture.specs.Spans.{IsSpan}
use Rattle.tl_capture.specs.Windows.{window_of, is_within, beats_within}
use Rattle.tl_capture.proofs.PresentLemmas.{ranges_of}
use Rattle.tl_capture.proofs.LawLemmas.{formed_of_all}
use Rattle.tl_capture.proofs.GatherLemmas.{own, pushed}
use Rattle.tl_capture.proofs.SomeLemmas.{some_at, some_pushed, nowhere_in}
use Rattle.tl_capture.proofs.present.Present.has_beat.Goals as goal

pub returns-in_default : goal.returns-in_default
returns-in_default c =
    let is = ranges_of c.args.self.now (subst IsPresent c.self.view_is c.self.invariant.0) in
    let none = subst (λ r. MatchOption r ((cycle : ℕ) → cycle < 2 ^ 64 → (window_of cycle == c.args.window) ≡ false) (λ s. IsSpan c.args.window s.0 s.1)) c.in_default.is c.span_of.ensures in
    nowhere_in c.args.window (beats_of_all c.args.links.now c.args.self.now) (formed_of_all c.args.links.now c.args.self.now is) none

pub returns-then-has_beat : goal.returns-then-has_beat
returns-then-has_beat c =
    let fs : List Recorded = c.args.self.now in
    let keep = is_within c.in-Some.from c.in-Some.to in
    let some : has_some (own keep (get_or c.args.links.now c.loop-link.link-index 0) fs) ≡ true =
    ap (λ gs. has_some (beats_within c.in-Some.from c.in-Some.to (all_placed (of_link (get_or c.args.links.now c.loop-link.link-index 0) gs)))) (sym c.self.view_is) ∙ sym c.has_beat.ensures ∙ c.if-has_beat.true in
    Decides-at true (has_some (pushed keep c.args.links.now fs)) (some_at keep c.args.links.now c.loop-link.link-index 0 fs c.loop-link-test.true some c.loop-link.invariant)
    (some_pushed c.args.window c.in-Some.from c.in-Some.to c.args.links.now fs c.in-Some.ensures)

pub returns : goal.returns
returns c =
    let fs : List Recorded = c.args.self.now in
    let keep = is_within c.in-Some.from c.in-Some.to in
    let past : length c.args.links.now ≤ c.loop-link.link-index = omega arith in
    let none : false ≡ has_some (pushed keep c.args.links.now fs) =
    ap (λ ls. has_some (pushed keep ls fs)) (sym (drop_of_length-le c.args.links.now past)) ∙ ap has_some c.loop-link.invariant in
    Decides-at false (has_some (pushed keep c.args.links.now fs)) none
    (some_pushed c.args.window c.in-Some.from c.in-Some.to c.args.links.now fs c.in-Some.ensures)
