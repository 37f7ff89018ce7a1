use Rattle.std.proofs.Common.{◌≡◌, Some, true, false, sym, ap, ◌∙◌, rules}
use Rattle.std.specs.Prelude.{filter, ◌∷◌}
use Rattle.std.specs.Arc.{arc_value}
use Rattle.std.specs.List.{list_any}
use Rattle.tl_definitions.specs.Positions.{Recorded, all_placed}
use Rattle.tl_capture.specs.Present.{recorded, of_link}
use Rattle.tl_capture.specs.Ranges.{has_some, meets, span_beats}
use Rattle.tl_capture.specs.Spans.{holds}
use Rattle.tl_capture.specs.Walk.{fragments_left}
use Rattle.tl_capture.specs.Windows.{beats_within}
use Rattle.tl_capture.proofs.SomeLemmas.{none_first, some_first}
use Rattle.tl_capture.proofs.WalkLemmas.{read_all, span_read}
use Rattle.tl_capture.proofs.ranges.Ranges.has_beat.Goals as goal

pub loop-fragment-init : goal.loop-fragment-init
loop-fragment-init c =
    let left : fragments_left c.into_iter-fragment-iterator.result ≡ filter (meets c.args.link c.args.from (Some c.args.to)) c.args.self.now = search rules in
    ap (read_all (span_beats c.args.from c.args.to)) left ∙ span_read c.args.from c.args.to c.args.link c.args.self.now c.on_link-fragment-items.ensures.kept

pub returns-then-has_some : goal.returns-then-has_some
returns-then-has_some c =
    let f : Recorded = recorded c.in-Some.field-0-0 (arc_value c.in-Some.fragment.now) in
    let some : list_any (holds c.args.from c.args.to) f.beats ≡ true = search rules in
    let known : read_all (span_beats c.args.from c.args.to) (f ∷ fragments_left c.next.new.self) ≡ beats_within c.args.from c.args.to (all_placed (of_link c.args.link c.args.self.now)) = search rules in
    sym (some_first c.args.from c.args.to f (fragments_left c.next.new.self) some) ∙ ap has_some known

pub loop-fragment-preserved : goal.loop-fragment-preserved
loop-fragment-preserved c =
    let f : Recorded = recorded c.in-Some.field-0-0 (arc_value c.in-Some.fragment.now) in
    let none : list_any (holds c.args.from c.args.to) f.beats ≡ false = search rules in
    let known : read_all (span_beats c.args.from c.args.to) (f ∷ fragments_left c.next.new.self) ≡ beats_within c.args.from c.args.to (all_placed (of_link c.args.link c.args.self.now)) = search rules in
    sym (none_first c.args.from c.args.to f (fragments_left c.next.new.self) none) ∙ known
