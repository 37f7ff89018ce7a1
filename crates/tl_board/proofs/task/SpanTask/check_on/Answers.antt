use Rattle.std.proofs.Common.{◌≡◌, List, sym, subst}
use Rattle.std.specs.Arc.{arc_value}
use Rattle.tl_beats.specs.declared.Row.{Row}
use Rattle.tl_pieces.specs.Marks.{pass_of}
use Rattle.tl_check.specs.Jobs.{Judges}
use Rattle.tl_check.specs.States.{SameSpan}
use Rattle.tl_check.specs.declared.state.SpanState.{SpanState}
use Rattle.tl_check.proofs.StateLaws.{same_back}
use Rattle.tl_board.specs.Tasks.{TaskData, IsPassOf, manager_of}
use Rattle.tl_board.proofs.TaskLemmas.{judged_alike, passed, settled}
use Rattle.tl_board.proofs.task.SpanTask.check_on.Goals as goal

pub returns-clause-pass : goal.returns-clause-pass
returns-clause-pass c =
    let task : TaskData = record { topo = arc_value c.self.inside.topo; owner = c.self.inside.manager; window = c.self.inside.window; regions = c.self.inside.regions; beats = c.self.inside.beats; entry = arc_value c.self.inside.entry } in
    let left : SpanState = c.judged.new.state in
    let found : List Row = c.in_ok-rows.rows.items in
    let begins : SameSpan task.entry c.args.state.now = subst (λ (t : TaskData). SameSpan t.entry c.args.state.now) (sym c.self.view_is) c.requires in
    let judges : Judges (manager_of task) task.entry task.beats left found =
    judged_alike (manager_of task) task.entry c.args.state.now left task.beats found begins
    (subst (λ (t : TaskData). Judges (manager_of t) c.args.state.now t.beats left found) (sym c.self.view_is) c.in_ok-rows.ensures) in
    let rest = settled task task.entry left c.settle.new.self found c.settle.ensures.same (c.settle.ensures.kept (manager_of task)) (passed task c.self.invariant.0 left found judges) in
    let kept = settled task task.entry c.settle.new.self c.in_ok-kept.kept found c.in_ok-kept.ensures.same (c.in_ok-kept.ensures.kept (manager_of task)) rest in
    let exit : c.in_ok-kept.kept ≡ arc_value c.in_ok-new.field-0 = sym c.in_ok-new.ensures.ok in
    let rows : found ≡ c.new-2.result = sym c.new-2.ensures in
    let entry : task.entry ≡ arc_value c.in_ok-try_clone.field-0 = sym c.in_ok-try_clone.ensures in
    subst (λ (t : TaskData). IsPassOf t (pass_of (record { entry = c.in_ok-try_clone.field-0; exit = c.in_ok-new.field-0; rows = c.new-2.result }))) c.self.view_is
    (subst (λ e. IsPassOf task (record { entry = e; exit = arc_value c.in_ok-new.field-0; rows = c.new-2.result })) entry
    (subst (λ rs. IsPassOf task (record { entry = task.entry; exit = arc_value c.in_ok-new.field-0; rows = rs })) rows
    (subst (λ x. IsPassOf task (record { entry = task.entry; exit = x; rows = found })) exit kept)))

pub returns-clause-left : goal.returns-clause-left
returns-clause-left c =
    subst (λ s. SameSpan s c.settle.new.self) (sym c.in_ok-new.ensures.ok) (same_back c.settle.new.self c.in_ok-kept.kept c.in_ok-kept.ensures.same)
