use Rattle.std.proofs.Common.{◌≡◌, sym, subst, ◌∙◌}
use Rattle.tl_monitor.specs.Boxes.{BoxesData, IsBoxes}
use Rattle.tl_edits.specs.Edits.{AnEdit, plain_change}
use Rattle.tl_edits.specs.Inputs.{changed}
use Rattle.tl_board.proofs.EditLemmas.{stands}
use Rattle.tl_desk.specs.Core.{Core, log_of, standing}
use Rattle.tl_desk.specs.Ends.{HaveEnded}
use Rattle.tl_desk.specs.Steps.{boxes_after}
use Rattle.tl_desk.proofs.AttachedLemmas.{Keeps, attached_after}
use Rattle.tl_desk.proofs.EndLemmas.{ends_changed}
use Rattle.tl_desk.proofs.ReportLemmas.{sound_edited}
use Rattle.tl_desk.proofs.desk.Desk.edit.Goals as goal

pub invariant_of-self-2 : goal.invariant_of-self-2
invariant_of-self-2 g c =
    let e : AnEdit = plain_change c.args.change in
    let old : Core = record { windows = c.self.inside.windows; boxes = c.self.inside.boxes; reports = c.self.inside.reports.items; tickets = c.self.inside.tickets } in
    let boxes : c.apply.new.boxes ≡ boxes_after e c.in_ok-number.number old.boxes = c.apply.ensures.made ∙ sym (c.of-of_boxes.ensures c.in_ok-number.number old.boxes) in
    let kept : Keeps (changed (standing old) e) old.boxes (boxes_after e c.in_ok-number.number old.boxes) =
    attached_after (standing old) c.args.change c.in_ok-number.number old.boxes c.apply.ensures.kept.rises c.self.invariant.attached c.self.invariant.known in
    let ends : HaveEnded c.edit.new.self.spans.log (boxes_after e c.in_ok-number.number old.boxes) =
    ends_changed (log_of old) c.edit.new.self.spans.log c.args.change c.in_ok-number.number old.boxes c.apply.ensures.kept.rises c.self.invariant.attached c.self.invariant.ends c.in_ok-number.ensures.accepted
    c.in_ok-number.ensures.ok.spans.log c.in_ok-number.ensures.number (stands old.windows.spans e c.edit.new.self.spans.log c.edit.new.self.spans.board c.in_ok-number.ensures.ok.spans.log) in
    sound_edited old e c.edit.new.self c.apply.new.boxes c.self.invariant c.in_ok-number.ensures.ok c.in_ok-number.ensures.before c.in_ok-number.ensures.after
    (subst (λ (b : BoxesData). Keeps (changed (standing old) e) old.boxes b) (sym boxes) kept) (subst (HaveEnded c.edit.new.self.spans.log) (sym boxes) ends)

pub returns-clause-boxes : goal.returns-clause-boxes
returns-clause-boxes g c = subst (λ (s : Core). IsBoxes s.boxes) c.self.view_is c.apply.ensures.kept
