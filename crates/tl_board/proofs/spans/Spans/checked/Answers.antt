use Rattle.std.proofs.Common.{Some, sym, ap, ◌∙◌}
use Rattle.tl_pieces.specs.Marks.{pass_of}
use Rattle.tl_board.specs.Spans.{standing}
use Rattle.tl_board.proofs.TicketLemmas.{passed_now, task_manager}
use Rattle.tl_board.proofs.spans.Spans.checked.Goals as goal

pub returns-clause-span : goal.returns-clause-span
returns-clause-span c =
    let is = c.in_ok-task.ensures in
    passed_now (standing c.args.self.now) c.args.key.owner c.args.key.window c.in_ok-task.task (pass_of c.in_ok-stored.stored) (task_manager c.args.self.now c.args.key c.in_ok-task.task is) is.beats c.in_ok-stored.ensures.pass

pub returns-clause-entry : goal.returns-clause-entry
returns-clause-entry c = c.in_ok-task.ensures.entry ∙ ap Some (sym c.in_ok-stored.ensures.entry)
