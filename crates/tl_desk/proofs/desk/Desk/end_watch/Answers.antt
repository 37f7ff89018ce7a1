use Rattle.std.proofs.Common.{◌≡◌, sym, ap, subst, ◌∙◌}
use Rattle.tl_monitor.specs.Boxes.{brought_back}
use Rattle.tl_desk.specs.MonitorJobs.{MonitorJobData}
use Rattle.tl_board.specs.Windows.{key_of}
use Rattle.tl_board.specs.WatchTasks.{WatchTaskData}
use Rattle.tl_desk.specs.Core.{Core}
use Rattle.tl_desk.specs.Jobs.{IsOwn, UnmarksWatch, ended, watch_key_for}
use Rattle.tl_desk.proofs.JobLemmas.{own_back, watch_unmarked, watch_unmarked_spans, sound_back}
use Rattle.tl_desk.proofs.desk.Desk.end_watch.Goals as goal

pub bring_back-requires : goal.bring_back-requires
bring_back-requires g c =
    let inside : Core = record { windows = c.self.inside.windows; boxes = c.self.inside.boxes; reports = c.self.inside.reports.items; tickets = c.self.inside.tickets } in
    own_back inside c.args.job _ _ (subst (λ (k : Core). IsOwn k c.args.job) (sym c.self.view_is) c.requires)
    (ap (λ (t : WatchTaskData). t.number) c.into_parts-ticket.ensures.task) (ap (λ (t : WatchTaskData). t.held) c.into_parts-ticket.ensures.task)

pub invariant_of-self : goal.invariant_of-self
invariant_of-self g c =
    let inside : Core = record { windows = c.self.inside.windows; boxes = c.self.inside.boxes; reports = c.self.inside.reports.items; tickets = c.self.inside.tickets } in
    let job : MonitorJobData = c.args.job in
    let own : IsOwn inside job = subst (λ (k : Core). IsOwn k job) (sym c.self.view_is) c.requires in
    let made : UnmarksWatch inside.windows (watch_key_for job) job.ticket c.unmark.new.windows =
    subst (λ k. UnmarksWatch inside.windows k job.ticket c.unmark.new.windows) (c.watch_key.ensures ∙ ap (λ (t : WatchTaskData). key_of t.number t.window) c.into_parts-ticket.ensures.task)
    (subst (λ n. UnmarksWatch inside.windows c.watch_key.result n c.unmark.new.windows) c.into_parts-ticket.ensures.ticket c.unmark.ensures.made) in
    let comes : c.bring_back.new.boxes ≡ brought_back job.task.number job.task.held inside.boxes =
    c.bring_back.ensures.exact ∙ ap (λ (t : WatchTaskData). brought_back t.number t.held inside.boxes) c.into_parts-ticket.ensures.task in
    sound_back inside c.self.invariant job c.unmark.new.windows c.bring_back.new.boxes c.end.new.self own c.bring_back.ensures.kept (watch_unmarked_spans inside.windows c.unmark.new.windows (watch_key_for job) job.ticket made)
    (watch_unmarked inside.windows c.unmark.new.windows (watch_key_for job) job.ticket made) comes (c.end.ensures.exact ∙ ap (λ n. ended n inside.tickets) c.into_parts-ticket.ensures.ticket) c.end.ensures.kept
