use Rattle.std.proofs.Common.{◌≡◌, sym, ap, subst, ◌∙◌}
use Rattle.tl_monitor.specs.Boxes.{brought_back}
use Rattle.tl_desk.specs.MonitorJobs.{MonitorJobData}
use Rattle.tl_board.specs.Windows.{key_of}
use Rattle.tl_board.specs.WatchTasks.{WatchTaskData}
use Rattle.tl_desk.specs.Core.{Core}
use Rattle.tl_desk.specs.Jobs.{IsOwn, ended, watch_key_for}
use Rattle.tl_desk.proofs.JobLemmas.{IsQuiet, own_back, watch_handed_in, watch_handed_in_spans, sound_back}
use Rattle.tl_desk.proofs.desk.Desk.accept_watch.Goals as goal

pub bring_back-requires : goal.bring_back-requires
bring_back-requires g c =
    let inside : Core = record { windows = c.self.inside.windows; boxes = c.self.inside.boxes; reports = c.self.inside.reports.items; tickets = c.self.inside.tickets } in
    own_back inside c.args.done.job _ _ (subst (λ (k : Core). IsOwn k c.args.done.job) (sym c.self.view_is) c.requires.own)
    (ap (λ (t : WatchTaskData). t.number) c.into_parts-ticket.ensures.task) (ap (λ (t : WatchTaskData). t.held) c.into_parts-ticket.ensures.task)

pub invariant_of-self : goal.invariant_of-self
invariant_of-self g c =
    let inside : Core = record { windows = c.self.inside.windows; boxes = c.self.inside.boxes; reports = c.self.inside.reports.items; tickets = c.self.inside.tickets } in
    let job : MonitorJobData = c.args.done.job in
    let own : IsOwn inside job = subst (λ (k : Core). IsOwn k job) (sym c.self.view_is) c.requires.own in
    let quiet : IsQuiet inside.windows.board c.hand_in_watch.new.self.board (watch_key_for job) job.ticket =
    subst (λ (t : WatchTaskData). IsQuiet inside.windows.board c.hand_in_watch.new.self.board (key_of t.number t.window) job.ticket) c.into_parts-ticket.ensures.task
    (watch_handed_in inside.windows c.hand_in_watch.new.self _ job.ticket _ c.hand_in_watch.ensures) in
    let comes : c.bring_back.new.boxes ≡ brought_back job.task.number job.task.held inside.boxes =
    c.bring_back.ensures.exact ∙ ap (λ (t : WatchTaskData). brought_back t.number t.held inside.boxes) c.into_parts-ticket.ensures.task in
    sound_back inside c.self.invariant job c.hand_in_watch.new.self c.bring_back.new.boxes c.end.new.self own c.bring_back.ensures.kept (watch_handed_in_spans inside.windows c.hand_in_watch.new.self _ _ c.hand_in_watch.ensures)
    quiet comes (c.end.ensures.exact ∙ ap (λ n. ended n inside.tickets) c.into_parts-ticket.ensures.ticket) c.end.ensures.kept
