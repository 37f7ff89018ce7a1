use Rattle.std.proofs.Common.{sym, ap, subst, ◌∙◌}
use Rattle.tl_desk.specs.JobData.{JobData, piece_of}
use Rattle.tl_board.specs.Windows.{key_of}
use Rattle.tl_board.specs.Tasks.{TaskData}
use Rattle.tl_desk.specs.TicketData.{IsOutFor}
use Rattle.tl_desk.specs.Core.{Core}
use Rattle.tl_desk.specs.Jobs.{ended, key_for}
use Rattle.tl_desk.proofs.JobLemmas.{IsQuiet, handed_in, handed_in_log, sound_ended}
use Rattle.tl_desk.proofs.desk.Desk.accept.Goals as goal

pub invariant_of-self : goal.invariant_of-self
invariant_of-self g c =
    let inside : Core = record { windows = c.self.inside.windows; boxes = c.self.inside.boxes; reports = c.self.inside.reports.items; tickets = c.self.inside.tickets } in
    let job : JobData = c.args.done.job in
    let out : IsOutFor job.ticket (piece_of job) inside.tickets.out = subst (λ (k : Core). IsOutFor job.ticket (piece_of job) k.tickets.out) (sym c.self.view_is) c.requires.out in
    let quiet : IsQuiet inside.windows.spans.board c.hand_in_span.new.self.spans.board (key_for job) job.ticket =
    subst (λ (t : TaskData). IsQuiet inside.windows.spans.board c.hand_in_span.new.self.spans.board (key_of t.owner t.window) job.ticket) c.into_parts-ticket.ensures.task
    (handed_in inside.windows.spans c.hand_in_span.new.self.spans _ job.ticket _ c.hand_in_span.ensures.spans) in
    sound_ended inside c.self.invariant job c.hand_in_span.new.self c.end.new.self out (handed_in_log inside.windows.spans c.hand_in_span.new.self.spans _ _ c.hand_in_span.ensures.spans)
    quiet c.hand_in_span.ensures.rest
    (c.end.ensures.exact ∙ ap (λ n. ended n inside.tickets) c.into_parts-ticket.ensures.ticket) c.end.ensures.kept
