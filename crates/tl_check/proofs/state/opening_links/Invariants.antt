use Rattle.std.proofs.Common.{◌≡◌, length}
use Rattle.tl_check.specs.Links.{AreOpening}
use Rattle.tl_check.proofs.state.opening_links.Given as goal

-- so many states, each without beats
abbrev pub invariant-loop : goal.invariant-loop
invariant-loop l = record {
  count : length l.links.items ≡ l.counter;
  each : AreOpening l.links.items;
}
