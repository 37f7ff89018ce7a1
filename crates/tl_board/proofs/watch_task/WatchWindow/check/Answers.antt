use Rattle.std.proofs.Common.{sym, subst, ◌∙◌}
use Rattle.tl_definitions.specs.Tallies.{AreOfOneLink}
use Rattle.tl_board.proofs.watch_task.WatchWindow.check.Goals as goal

pub monitor_check-requires-clause-link : goal.monitor_check-requires-clause-link
monitor_check-requires-clause-link g c = subst AreOfOneLink (sym (c.deref-2.ensures.value ∙ c.in_ok-beats.ensures)) c.self.invariant.beats.link
