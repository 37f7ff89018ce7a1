use Rattle.std.proofs.Common.{◌≡◌, ◌+◌, ◌<◌, false, Some, None, length, nat_le, refl, sym, ap, subst, ◌∙◌, arith}
use Rattle.std.proofs.lemmas.Bool.Decides.{nat_tests}
use Rattle.tl_monitor.specs.Boxes.{BoxesData, held_at, taken_at}
use Rattle.tl_edits.specs.Log.{LogData}
use Rattle.tl_desk.specs.MonitorJobs.{MonitorJobData}
use Rattle.tl_monitor.specs.Held.{Held}
use Rattle.tl_pieces.specs.declared.key.PieceKey.{PieceKey}
use Rattle.tl_pieces.specs.Pieces.{IsFirstFree}
use Rattle.tl_check.specs.States.{SameSpan}
use Rattle.tl_board.specs.Spans.{SpansData}
use Rattle.tl_board.specs.Windows.{key_of}
use Rattle.tl_desk.specs.declared.tickets.Taken.{Taken}
use Rattle.tl_desk.specs.TicketData.{TicketsData, most_tickets}
use Rattle.tl_board.specs.Outside.{IsWatchTaskFor}
use Rattle.tl_board.specs.WatchTasks.{WatchWindowData, with_monitor, without_monitor}
use Rattle.tl_board.specs.Watches.{WatchesData}
use Rattle.tl_desk.specs.Core.{Core, log_of}
use Rattle.tl_desk.specs.Jobs.{IsFirstFreeWatch, TakesWatch, given, marked_watch, watch_key_for}
use Rattle.tl_desk.specs.Tickets.{watch_window_of}
use Rattle.tl_desk.proofs.JobLemmas.{sound_left, here_watch, whole_task}
use Rattle.tl_desk.proofs.desk.Desk.take_monitor.Goals as goal

pub invariant_of-self-2 : goal.invariant_of-self-2
invariant_of-self-2 g c =
    let inside : Core = record { windows = c.self.inside.windows; boxes = c.self.inside.boxes; reports = c.self.inside.reports.items; tickets = c.self.inside.tickets } in
    let key : PieceKey = c.args.key in
    let taken : Taken = record { piece = watch_window_of key; edits = c.len-edits.result } in
    let made : c.set_live_watch.new.self ≡ marked_watch key (Some (inside.tickets.last + 1)) inside.windows = c.set_live_watch.ensures ∙ ap (λ n. marked_watch key (Some n) inside.windows) c.in_ok-ticket.ensures.number in
    let edits : taken.edits ≡ length (log_of inside).edits = c.len-edits.ensures.count ∙ ap (λ (l : LogData). length l.edits) (c.log.ensures.exact ∙ ap (λ (s : SpansData). s.log) c.spans.ensures.exact) in
    sound_left inside c.self.invariant key c.unwrap-monitor.result taken c.set_live_watch.new.self c.take_box.new.self c.give.new.self refl edits c.in_ok-ticket.ensures.ok c.give.ensures.kept made
    (sym c.take_box.ensures.monitor ∙ c.unwrap-monitor.ensures) (c.take_box.ensures.rest ∙ ap (λ n. taken_at key.owner n inside.boxes) c.in_ok-ticket.ensures.number)

-- The monitor has the watch of its window.
pub for_monitor-requires : goal.for_monitor-requires
for_monitor-requires g c =
    let inside : Core = record { windows = c.self.inside.windows; boxes = c.self.inside.boxes; reports = c.self.inside.reports.items; tickets = c.self.inside.tickets } in
    here_watch inside c.args.key.owner c.unwrap-monitor.result c.in_ok-window.window.watch c.self.invariant (sym c.take_box.ensures.monitor ∙ c.unwrap-monitor.ensures) c.in_ok-window.ensures.watch

pub returns-clause-step : goal.returns-clause-step
returns-clause-step g c =
    let inside : Core = record { windows = c.self.inside.windows; boxes = c.self.inside.boxes; reports = c.self.inside.reports.items; tickets = c.self.inside.tickets } in
    let key : PieceKey = c.args.key in
    let held : Held = c.unwrap-monitor.result in
    let window : WatchWindowData = c.in_ok-window.window in
    let job : MonitorJobData = record { ticket = c.in_ok-ticket.ticket; task = with_monitor window held } in
    let new : Core = record { windows = c.set_live_watch.new.self; boxes = c.take_box.new.self; reports = inside.reports; tickets = c.give.new.self } in
    let here : held_at key.owner inside.boxes.slots ≡ Some held = sym c.take_box.ensures.monitor ∙ c.unwrap-monitor.ensures in
    let watch : held.watch ≡ window.watch = here_watch inside key.owner held window.watch c.self.invariant here c.in_ok-window.ensures.watch in
    let edits : c.len-edits.result ≡ length (log_of inside).edits = c.len-edits.ensures.count ∙ ap (λ (l : LogData). length l.edits) (c.log.ensures.exact ∙ ap (λ (s : SpansData). s.log) c.spans.ensures.exact) in
    let tickets : c.give.new.self ≡ given (watch_window_of key) (length (log_of inside).edits) inside.tickets = c.in_ok-ticket.ensures.ok ∙ ap (λ n. given (watch_window_of key) n inside.tickets) edits in
    let left : nat_le most_tickets inside.tickets.last ≡ false = sym c.are_spent.ensures.exact ∙ c.if-are_spent.false in
    let rest : new ≡ record { windows = marked_watch key (Some job.ticket) inside.windows; boxes = taken_at key.owner job.ticket inside.boxes; reports = inside.reports; tickets = given (watch_window_of key) (length (log_of inside).edits) inside.tickets } =
    ap (λ (w : WatchesData). record { windows = w; boxes = c.take_box.new.self; reports = inside.reports; tickets = c.give.new.self }) c.set_live_watch.ensures
    ∙ ap (λ (b : BoxesData). record { windows = marked_watch key (Some job.ticket) inside.windows; boxes = b; reports = inside.reports; tickets = c.give.new.self }) c.take_box.ensures.rest
    ∙ ap (λ (t : TicketsData). record { windows = marked_watch key (Some job.ticket) inside.windows; boxes = taken_at key.owner job.ticket inside.boxes; reports = inside.reports; tickets = t }) tickets in
    let takes : TakesWatch inside job.ticket key new = record {
      none = subst (λ (k : Core). IsFirstFree SameSpan k.windows.spans.board None) (sym c.self.view_is) c.requires.none;
      first = subst (λ (k : Core). IsFirstFreeWatch k (Some key)) (sym c.self.view_is) c.requires.first;
      few = (let lt : inside.tickets.last < most_tickets = grind (arith, nat_tests) in lt);
      next = c.in_ok-ticket.ensures.number;
      rest = rest;
    } in
    let task : IsWatchTaskFor inside.windows key (without_monitor job.task) = whole_task inside.windows key window held watch c.in_ok-window.ensures in
    let same_key : key ≡ watch_key_for job = sym (ap (λ o. key_of o window.window) c.in_ok-window.ensures.number ∙ ap (λ w. key_of key.owner w) c.in_ok-window.ensures.window) in
    let all : TakesWatch inside job.ticket (watch_key_for job) new × IsWatchTaskFor inside.windows (watch_key_for job) (without_monitor job.task) × (held_at job.task.number inside.boxes.slots ≡ Some job.task.held) =
    (subst (λ (k : PieceKey). TakesWatch inside job.ticket k new) same_key takes, subst (λ (k : PieceKey). IsWatchTaskFor inside.windows k (without_monitor job.task)) same_key task, ap (λ n. held_at n inside.boxes.slots) c.in_ok-window.ensures.number ∙ here) in
    let made : c.new.result ≡ job = c.new.ensures ∙ ap (λ t. record { ticket = c.in_ok-ticket.ticket; task = t }) c.for_monitor.ensures in
    subst (λ (j : MonitorJobData). TakesWatch c.args.self.now j.ticket (watch_key_for j) new × IsWatchTaskFor c.args.self.now.windows (watch_key_for j) (without_monitor j.task) × (held_at j.task.number c.args.self.now.boxes.slots ≡ Some j.task.held)) (sym made)
    (subst (λ (k : Core). TakesWatch k job.ticket (watch_key_for job) new × IsWatchTaskFor k.windows (watch_key_for job) (without_monitor job.task) × (held_at job.task.number k.boxes.slots ≡ Some job.task.held)) c.self.view_is all)
