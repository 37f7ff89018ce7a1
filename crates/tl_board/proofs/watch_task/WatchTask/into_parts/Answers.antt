use Rattle.std.proofs.Common.{ap, ◌∙◌}
use Rattle.tl_board.specs.WatchTasks.{without_monitor}
use Rattle.tl_board.proofs.WatchTaskLemmas.{parted}
use Rattle.tl_board.proofs.watch_task.WatchTask.into_parts.Goals as goal

pub returns-clause-window : goal.returns-clause-window
returns-clause-window g c = parted c.self.inside.window c.self.inside.monitor c.self.invariant.1 ∙ ap without_monitor c.self.view_is
