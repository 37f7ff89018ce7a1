use Rattle.std.proofs.Common.{◌≡◌, ℕ, ◌<◌, ◌^◌, not, false, List, [], length, sym, ap, subst, ◌∙◌}
use Rattle.std.specs.Prelude.{◌==◌, MatchOption}
use Rattle.std.specs.Arc.{arc_value}
use Rattle.std.specs.Bool.{Decides}
use Rattle.tl_beats.specs.declared.Placed.{Placed}
use Rattle.tl_definitions.specs.Positions.{beats_of_all}
use Rattle.tl_capture.specs.Parts.{spanned, AreAmong}
use Rattle.tl_capture.specs.Present.{IsPresent}
use Rattle.tl_capture.specs.Spans.{IsSpan}
use Rattle.tl_capture.specs.Windows.{window_of, beats_in, beats_within}
use Rattle.tl_capture.proofs.LawLemmas.{of_none, formed_of_all}
use Rattle.tl_capture.proofs.MatchLemmas.{is_none, none_decides, other_window, window_decides, count_decides}
use Rattle.tl_capture.proofs.PresentLemmas.{ranges_of}
use Rattle.tl_capture.proofs.present.Present.has_beats.Goals as goal

pub returns-in_default : goal.returns-in_default
returns-in_default c =
    let ps : List Placed = beats_of_all c.args.links.now c.args.self.now in
    let is = ranges_of c.args.self.now (subst IsPresent c.self.view_is c.self.invariant.0) in
    let none = subst (λ r. MatchOption r ((cycle : ℕ) → cycle < 2 ^ 64 → (window_of cycle == c.args.window) ≡ false) (λ s. IsSpan c.args.window s.0 s.1)) c.in_default.is c.span_of.ensures in
    subst (λ qs. Decides c.is_empty.result (c.args.beats.now ≡ qs)) (sym (of_none c.args.window ps (formed_of_all c.args.links.now c.args.self.now is) none))
    (is_none c.is_empty.result c.args.beats.now c.is_empty.ensures)

pub returns-then-is_empty : goal.returns-then-is_empty
returns-then-is_empty c =
    let ps : List Placed = beats_of_all c.args.links.now c.args.self.now in
    let none : c.args.beats.now ≡ [] = (is_none c.is_empty-then-beats-from.result c.args.beats.now c.is_empty-then-beats-from.ensures).0 c.if-is_empty.true in
    subst (λ qs. Decides (not c.has_beat.result) (qs ≡ beats_in c.args.window ps)) (sym none) (none_decides c.args.window ps c.has_beat.result c.has_beat.ensures)

pub returns-else-is_empty : goal.returns-else-is_empty
returns-else-is_empty c =
    other_window arc_value c.beats.inside.from c.beats.inside.to c.beats.inside.parts.items c.beats.invariant c.args.beats.now c.beats.view_is c.args.window c.in-Some.from c.in-Some.to c.in-Some.ensures
    (beats_of_all c.args.links.now c.args.self.now) c.is_empty-then-beats-from.result c.if-beats-from.true c.is_empty-then-beats-from.ensures c.if-is_empty.false

pub returns-then-has_as_many : goal.returns-then-has_as_many
returns-then-has_as_many c =
    let all : List Placed = beats_within c.in-Some.from c.in-Some.to (beats_of_all c.args.links.now c.args.self.now) in
    let room = c.count-room.ensures ∙ ap (λ es. length (spanned arc_value c.in-Some.from c.in-Some.to es)) c.deref.ensures.value in
    window_decides arc_value c.beats.inside.from c.beats.inside.to c.beats.inside.parts.items c.beats.invariant c.args.beats.now c.beats.view_is c.args.window c.in-Some.from c.in-Some.to c.in-Some.ensures
    c.args.links.now c.args.self.now (subst IsPresent c.self.view_is c.self.invariant.0) c.if-beats-from.false c.stand.result
    (c.has_as_many.ensures.0 c.if-has_as_many.true ∙ room)
    (subst (λ es. Decides c.stand.result (AreAmong (spanned arc_value c.in-Some.from c.in-Some.to es) all)) c.deref-then-has_as_many.ensures.value c.stand.ensures)

pub returns-else-has_as_many : goal.returns-else-has_as_many
returns-else-has_as_many c =
    let all : List Placed = beats_within c.in-Some.from c.in-Some.to (beats_of_all c.args.links.now c.args.self.now) in
    let room = c.count-room.ensures ∙ ap (λ es. length (spanned arc_value c.in-Some.from c.in-Some.to es)) c.deref.ensures.value in
    count_decides arc_value c.beats.inside.from c.beats.inside.to c.beats.inside.parts.items c.beats.invariant c.args.beats.now c.beats.view_is c.args.window c.in-Some.from c.in-Some.to c.in-Some.ensures
    c.args.links.now c.args.self.now (subst IsPresent c.self.view_is c.self.invariant.0) c.if-beats-from.false c.has_as_many.result c.if-has_as_many.false
    (subst (λ n. Decides c.has_as_many.result (length all ≡ n)) room c.has_as_many.ensures)
