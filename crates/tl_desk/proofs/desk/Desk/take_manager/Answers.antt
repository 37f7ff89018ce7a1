use Rattle.std.proofs.Common.{◌≡◌, ◌+◌, ◌<◌, false, Some, length, nat_le, sym, ap, subst, ◌∙◌, arith}
use Rattle.std.proofs.lemmas.Bool.Decides.{nat_tests}
use Rattle.tl_edits.specs.Log.{LogData}
use Rattle.tl_desk.specs.JobData.{JobData}
use Rattle.tl_pieces.specs.declared.key.PieceKey.{PieceKey}
use Rattle.tl_pieces.specs.Pieces.{IsFirstFree}
use Rattle.tl_check.specs.States.{SameSpan}
use Rattle.tl_board.specs.Spans.{SpansData}
use Rattle.tl_board.specs.Tickets.{IsTaskFor}
use Rattle.tl_board.specs.Windows.{key_of}
use Rattle.tl_desk.specs.declared.tickets.Taken.{Taken}
use Rattle.tl_desk.specs.declared.piece.Piece.TheVariants as piece
use Rattle.tl_desk.specs.TicketData.{TicketsData, most_tickets}
use Rattle.tl_board.specs.Watches.{WatchesData}
use Rattle.tl_desk.specs.Core.{Core, log_of}
use Rattle.tl_desk.specs.Jobs.{Takes, given, key_for, marked, with_spans}
use Rattle.tl_desk.specs.Tickets.{window_of}
use Rattle.tl_desk.proofs.JobLemmas.{sound_taken}
use Rattle.tl_desk.proofs.desk.Desk.take_manager.Goals as goal

pub invariant_of-self-2 : goal.invariant_of-self-2
invariant_of-self-2 g c =
    let inside : Core = record { windows = c.self.inside.windows; boxes = c.self.inside.boxes; reports = c.self.inside.reports.items; tickets = c.self.inside.tickets } in
    let key : PieceKey = c.args.key in
    let taken : Taken = record { piece = piece.Manager c.manager.result c.window.result; edits = c.len-edits.result } in
    let made : c.set_live_span.new.self ≡ record inside.windows { spans = marked key (Some (inside.tickets.last + 1)) inside.windows.spans } =
    c.set_live_span.ensures ∙ ap (λ n. record inside.windows { spans = marked key (Some n) inside.windows.spans }) c.in_ok-ticket.ensures.number in
    let window : taken.piece ≡ window_of key =
    ap (λ n. piece.Manager n c.window.result) (c.manager.ensures.exact ∙ c.in_ok-task.ensures.owner) ∙ ap (λ n. piece.Manager key.owner n) (c.window.ensures ∙ c.in_ok-task.ensures.window) in
    let edits : taken.edits ≡ length (log_of inside).edits = c.len-edits.ensures.count ∙ ap (λ (l : LogData). length l.edits) (c.log.ensures.exact ∙ ap (λ (s : SpansData). s.log) c.spans.ensures.exact) in
    sound_taken inside c.self.invariant key taken c.set_live_span.new.self c.give.new.self window edits c.in_ok-ticket.ensures.ok c.give.ensures.kept made

pub returns-clause-step : goal.returns-clause-step
returns-clause-step g c =
    let inside : Core = record { windows = c.self.inside.windows; boxes = c.self.inside.boxes; reports = c.self.inside.reports.items; tickets = c.self.inside.tickets } in
    let key : PieceKey = c.args.key in
    let job : JobData = record { ticket = c.in_ok-ticket.ticket; task = c.in_ok-task.task } in
    let new : Core = record { windows = c.set_live_span.new.self; boxes = inside.boxes; reports = inside.reports; tickets = c.give.new.self } in
    let window : piece.Manager c.manager.result c.window.result ≡ window_of key =
    ap (λ n. piece.Manager n c.window.result) (c.manager.ensures.exact ∙ c.in_ok-task.ensures.owner) ∙ ap (λ n. piece.Manager key.owner n) (c.window.ensures ∙ c.in_ok-task.ensures.window) in
    let edits : c.len-edits.result ≡ length (log_of inside).edits = c.len-edits.ensures.count ∙ ap (λ (l : LogData). length l.edits) (c.log.ensures.exact ∙ ap (λ (s : SpansData). s.log) c.spans.ensures.exact) in
    let tickets : c.give.new.self ≡ given (window_of key) (length (log_of inside).edits) inside.tickets =
    c.in_ok-ticket.ensures.ok ∙ ap (λ p. given p c.len-edits.result inside.tickets) window ∙ ap (λ n. given (window_of key) n inside.tickets) edits in
    let left : nat_le most_tickets inside.tickets.last ≡ false = sym c.are_spent.ensures.exact ∙ c.if-are_spent.false in
    let rest : new ≡ record (with_spans (marked key (Some job.ticket) inside.windows.spans) inside) { tickets = given (window_of key) (length (log_of inside).edits) inside.tickets } =
    ap (λ (w : WatchesData). record { windows = w; boxes = inside.boxes; reports = inside.reports; tickets = c.give.new.self }) c.set_live_span.ensures
    ∙ ap (λ (t : TicketsData). record { windows = record inside.windows { spans = marked key (Some job.ticket) inside.windows.spans }; boxes = inside.boxes; reports = inside.reports; tickets = t }) tickets in
    let takes : Takes inside job.ticket key new = record {
      first = subst (λ (k : Core). IsFirstFree SameSpan k.windows.spans.board (Some key)) (sym c.self.view_is) c.requires.first;
      few = (let lt : inside.tickets.last < most_tickets = grind (arith, nat_tests) in lt);
      next = c.in_ok-ticket.ensures.number;
      rest = rest;
    } in
    let same_key : key ≡ key_for job = sym (ap (λ o. key_of o job.task.window) c.in_ok-task.ensures.owner ∙ ap (λ w. key_of key.owner w) c.in_ok-task.ensures.window) in
    let both : Takes inside job.ticket (key_for job) new × IsTaskFor inside.windows.spans (key_for job) job.task =
    subst (λ (k : PieceKey). Takes inside job.ticket k new × IsTaskFor inside.windows.spans k job.task) same_key (takes, c.in_ok-task.ensures) in
    subst (λ (j : JobData). Takes c.args.self.now j.ticket (key_for j) new × IsTaskFor c.args.self.now.windows.spans (key_for j) j.task) (sym c.new.ensures)
    (subst (λ (k : Core). Takes k job.ticket (key_for job) new × IsTaskFor k.windows.spans (key_for job) job.task) c.self.view_is both)
