use Rattle.std.proofs.Common.{◌≡◌, length}
use Rattle.std.specs.List.{AllByRecursion}
use Rattle.tl_rows.specs.States.{IsOpening}
use Rattle.tl_rows.proofs.manager.opening_links.Given as goal

-- so many states, each without beats
abbrev pub invariant-loop : goal.invariant-loop
invariant-loop l = record {
  count : length l.links.items ≡ l.counter;
  each : AllByRecursion IsOpening l.links.items;
}
