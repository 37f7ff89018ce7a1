use Rattle.std.proofs.Common.{sym, ap, subst, ◌∙◌}
use Rattle.tl_desk.specs.JobData.{JobData, piece_of}
use Rattle.tl_board.specs.Windows.{key_of}
use Rattle.tl_board.specs.Tasks.{TaskData}
use Rattle.tl_desk.specs.TicketData.{IsOutFor}
use Rattle.tl_desk.specs.Core.{Core}
use Rattle.tl_desk.specs.Jobs.{Unmarks, ended, key_for}
use Rattle.tl_desk.proofs.JobLemmas.{unmarked, unmarked_log, sound_ended}
use Rattle.tl_desk.proofs.desk.Desk.end.Goals as goal

pub invariant_of-self : goal.invariant_of-self
invariant_of-self g c =
    let inside : Core = record { windows = c.self.inside.windows; boxes = c.self.inside.boxes; reports = c.self.inside.reports.items; tickets = c.self.inside.tickets } in
    let job : JobData = c.args.job in
    let out : IsOutFor job.ticket (piece_of job) inside.tickets.out = subst (λ (k : Core). IsOutFor job.ticket (piece_of job) k.tickets.out) (sym c.self.view_is) c.requires in
    let made : Unmarks inside.windows.spans (key_for job) job.ticket c.unmark.new.windows.spans =
    subst (λ k. Unmarks inside.windows.spans k job.ticket c.unmark.new.windows.spans) (c.window_key.ensures ∙ ap (λ (t : TaskData). key_of t.owner t.window) c.task.ensures)
    (subst (λ n. Unmarks inside.windows.spans c.window_key.result n c.unmark.new.windows.spans) c.ticket-ticket.ensures c.unmark.ensures.made) in
    sound_ended inside c.self.invariant job c.unmark.new.windows c.end.new.self out (unmarked_log inside.windows.spans c.unmark.new.windows.spans (key_for job) job.ticket made)
    (unmarked inside.windows.spans c.unmark.new.windows.spans (key_for job) job.ticket made) c.unmark.ensures.rest
    (c.end.ensures.exact ∙ ap (λ n. ended n inside.tickets) c.ticket-ticket.ensures) c.end.ensures.kept
