use Rattle.std.proofs.Common.{Some, sym, ap, ◌∙◌}
use Rattle.tl_edits.specs.Inputs.{watch_at}
use Rattle.tl_pieces.specs.Marks.{pass_of}
use Rattle.tl_board.specs.Spans.{standing}
use Rattle.tl_board.proofs.RecheckLemmas.{in_error}
use Rattle.tl_board.proofs.OutsideLemmas.{window_passes, left_amid, left_so}
use Rattle.tl_board.proofs.PassLemmas.{one_watch}
use Rattle.tl_board.proofs.watches.Watches.judged.Goals as goal

-- The monitor has the watch of the window.
pub check-requires : goal.check-requires
check-requires g c = one_watch (watch_at c.args.key.owner (standing c.args.self.now.spans).monitors) c.in_ok-window.window.watch c.args.monitor.now.watch c.in_ok-window.ensures.watch c.requires.watch

pub returns-clause-of_window : goal.returns-clause-of_window
returns-clause-of_window g c =
    window_passes c.args.self.now c.args.key c.in_ok-window.window c.args.monitor.now (pass_of c.in_ok-stored.stored) c.in_ok-window.ensures
    (one_watch (watch_at c.args.key.owner (standing c.args.self.now.spans).monitors) c.in_ok-window.window.watch c.args.monitor.now.watch c.in_ok-window.ensures.watch c.requires.watch) c.in_ok-stored.ensures.pass

pub returns-clause-entry : goal.returns-clause-entry
returns-clause-entry g c = c.in_ok-window.ensures.entry ∙ ap Some (sym c.in_ok-stored.ensures.entry)

pub returns-clause-tally : goal.returns-clause-tally
returns-clause-tally g c = left_amid c.args.self.now c.args.key c.in_ok-window.window c.args.monitor.now.watch c.check.new.monitor.tally c.in_ok-window.ensures c.in_ok-stored.ensures.behind

pub returns-in_err-stored-clause-left : goal.returns-in_err-stored-clause-left
returns-in_err-stored-clause-left g c = in_error c.from_residual-in_err-stored.result _ (left_so c.args.self.now c.args.key c.in_ok-window.window c.args.monitor.now c.check.new.monitor.tally c.in_ok-window.ensures c.check.ensures.left)
