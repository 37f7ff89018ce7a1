use Rattle.std.proofs.Common.{◌≡◌, length}
use Rattle.tl_advice.specs.LinkCounts.{AreInOrder}
use Rattle.tl_advice.proofs.links.link_counts.Given as goal

-- the links so far, in their order
abbrev pub invariant-loop-link : goal.invariant-loop-link
invariant-loop-link l = record {
  so_far : length l.counts.items ≡ l.link;
  each : AreInOrder l.topo l.present l.counts.items;
}
