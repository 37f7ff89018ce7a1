use Rattle.std.proofs.Common.{◌≡◌, ◌+◌, ◌≤◌, length}
use Rattle.tl_text.specs.Words.{lines_of, IsBehind}
use Rattle.tl_topology.specs.Reading.{topology_from, topology_in}
use Rattle.tl_topology.proofs.reading.topology_of.Given as goal

abbrev pub invariant-loop-next : goal.invariant-loop-next
invariant-loop-next l = record {
  read : topology_from l.version l.topo l.number (lines_of l.rest) ≡ topology_in (lines_of l.bytes);
  counted : l.number + length l.rest ≤ length l.bytes + 1;
  behind : IsBehind l.bytes l.rest;
}

abbrev pub decreases-loop-next : goal.decreases-loop-next
decreases-loop-next l = length l.rest
