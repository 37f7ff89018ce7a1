use Rattle.std.proofs.Common.{◌≡◌, ◌++◌, drop}
use Rattle.tl_board.specs.TouchedWatches.{watchers}
use Rattle.tl_board.proofs.touched_watches.watchers.Given as goal

-- those so far and those of the watches that are left are all
abbrev pub invariant-loop-number : goal.invariant-loop-number
invariant-loop-number l =
    l.owners.items ++ watchers l.inputs.topo l.link (drop l.number-index l.number-items) ≡ watchers l.inputs.topo l.link l.number-items
