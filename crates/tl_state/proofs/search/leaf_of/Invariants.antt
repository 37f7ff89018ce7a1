use Rattle.std.proofs.Common.{◌≤◌, length, take, drop, ◌-◌}
use Rattle.tl_state.specs.Leaves.{leaf_entries, all_entries}
use Rattle.tl_state.specs.KeyOrder.{Below, StopsLeaf}
use Rattle.tl_state.proofs.search.leaf_of.Given as goal

abbrev pub invariant-loop-low : goal.invariant-loop-low
invariant-loop-low g l = record {
  ordered : l.low ≤ l.high;
  within : l.high ≤ length l.leaves;
  below : Below g.K.Ord.cmp l.key (all_entries (take l.low l.leaves));
  stops : StopsLeaf g.K.Ord.cmp l.key leaf_entries (drop l.high l.leaves);
}

abbrev pub decreases-loop-low : goal.decreases-loop-low
decreases-loop-low g l = l.high - l.low
