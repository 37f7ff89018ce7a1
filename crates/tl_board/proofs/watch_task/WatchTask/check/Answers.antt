use Rattle.tl_board.proofs.WatchTaskLemmas.{still_task}
use Rattle.tl_board.proofs.watch_task.WatchTask.check.Goals as goal

pub invariant_of-self : goal.invariant_of-self
invariant_of-self g c = still_task c.self.inside.window c.self.inside.monitor c.check.new.monitor c.self.invariant.0 c.self.invariant.1 c.check.ensures.held
