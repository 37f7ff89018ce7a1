use Rattle.std.proofs.Common.{◌≡◌, ◌++◌, ◌∷◌, Some, false, sym, ap, ◌∙◌, rules}
use Rattle.std.specs.Prelude.{filter}
use Rattle.std.specs.Arc.{arc_value}
use Rattle.std.specs.List.{list_any}
use Rattle.tl_definitions.specs.Positions.{Recorded, all_placed}
use Rattle.tl_capture.specs.Parts.{spanned}
use Rattle.tl_capture.specs.Present.{recorded, of_link}
use Rattle.tl_capture.specs.Ranges.{meets, span_beats}
use Rattle.tl_capture.specs.Spans.{holds}
use Rattle.tl_capture.specs.Walk.{fragments_left}
use Rattle.tl_capture.specs.Windows.{beats_within}
use Rattle.tl_capture.proofs.PartLemmas.{part_pushed}
use Rattle.tl_capture.proofs.SomeLemmas.{none_first}
use Rattle.tl_capture.proofs.WalkLemmas.{read_all, span_read}
use Rattle.tl_capture.proofs.ranges.Ranges.push_parts.Goals as goal

pub loop-of-init : goal.loop-of-init
loop-of-init c =
    let left : fragments_left c.into_iter-of-iterator.result ≡ filter (meets c.args.link c.args.from (Some c.args.to)) c.args.self.now = search rules in
    ap (λ ps. spanned arc_value c.args.from c.args.to c.args.parts.now.items ++ ps) (ap (read_all (span_beats c.args.from c.args.to)) left ∙ span_read c.args.from c.args.to c.args.link c.args.self.now c.on_link-of-items.ensures.kept)

pub loop-of-preserved-in_ok-push : goal.loop-of-preserved-in_ok-push
loop-of-preserved-in_ok-push c =
    let copy : arc_value c.in_ok-clone.field-0 ≡ arc_value c.in-Some.fragment.now = search rules in
    part_pushed arc_value c.args.from c.args.to c.in-Some.of c.in-Some.fragment.now c.in_ok-clone.field-0 (fragments_left c.next.new.self) c.loop-of.parts.items c.push.new.self.items _ copy c.in_ok-push.ensures.items (search rules)

pub loop-of-preserved : goal.loop-of-preserved
loop-of-preserved c =
    let f : Recorded = recorded c.in-Some.of (arc_value c.in-Some.fragment.now) in
    let none : list_any (holds c.args.from c.args.to) f.beats ≡ false = search rules in
    let known : spanned arc_value c.args.from c.args.to c.loop-of.parts.items ++ read_all (span_beats c.args.from c.args.to) (f ∷ fragments_left c.next.new.self)
    ≡ spanned arc_value c.args.from c.args.to c.args.parts.now.items ++ beats_within c.args.from c.args.to (all_placed (of_link c.args.link c.args.self.now)) = search rules in
    ap (λ ps. spanned arc_value c.args.from c.args.to c.loop-of.parts.items ++ ps) (sym (none_first c.args.from c.args.to f (fragments_left c.next.new.self) none)) ∙ known
