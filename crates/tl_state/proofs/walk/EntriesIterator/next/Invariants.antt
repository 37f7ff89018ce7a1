use Rattle.std.proofs.Common.{◌≡◌, length}
use Rattle.tl_state.specs.Walk.{entries_left}
use Rattle.tl_state.proofs.walk.EntriesIterator.next.Given as goal

abbrev pub invariant-loop-leaf : goal.invariant-loop-leaf
invariant-loop-leaf g l = entries_left l.initial.self ≡ entries_left l.self

abbrev pub decreases-loop-leaf : goal.decreases-loop-leaf
decreases-loop-leaf g l = length l.self.leaves.now
