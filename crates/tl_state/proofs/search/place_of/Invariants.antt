use Rattle.std.proofs.Common.{◌≤◌, length, take, drop, ◌-◌}
use Rattle.tl_state.specs.KeyOrder.{Below, Stops}
use Rattle.tl_state.proofs.search.place_of.Given as goal

abbrev pub invariant-loop-low : goal.invariant-loop-low
invariant-loop-low g l = record {
  ordered : l.low ≤ l.high;
  within : l.high ≤ length l.entries;
  below : Below g.K.Ord.cmp l.key (take l.low l.entries);
  stops : Stops g.K.Ord.cmp l.key (drop l.high l.entries);
}

abbrev pub decreases-loop-low : goal.decreases-loop-low
decreases-loop-low g l = l.high - l.low
