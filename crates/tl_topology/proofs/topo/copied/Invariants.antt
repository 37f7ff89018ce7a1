use Rattle.std.proofs.Common.{◌≡◌, take}
use Rattle.tl_topology.proofs.topo.copied.Given as goal

abbrev pub invariant-loop-number : goal.invariant-loop-number
invariant-loop-number g l = l.copy.entries ≡ take l.number l.named.entries
