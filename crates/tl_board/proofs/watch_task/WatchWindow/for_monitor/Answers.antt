use Rattle.std.proofs.Common.{subst}
use Rattle.tl_board.specs.WatchTasks.{IsWatchWindow}
use Rattle.tl_board.proofs.WatchTaskLemmas.{with_its_monitor}
use Rattle.tl_board.proofs.watch_task.WatchWindow.for_monitor.Goals as goal

pub invariant_of-result : goal.invariant_of-result
invariant_of-result g c = with_its_monitor c.args.self c.args.monitor (subst IsWatchWindow c.self.view_is c.self.invariant) c.requires
