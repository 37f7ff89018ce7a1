use Rattle.std.proofs.Common.{◌≡◌, [], length}
use Rattle.std.specs.List.{AllByRecursion}
use Rattle.tl_client_rules.specs.Client.{StandsFor}
use Rattle.tl_client_rules.proofs.manager.opening_states.Given as goal

-- so many states, each before all messages
abbrev pub invariant-loop : goal.invariant-loop
invariant-loop l = record {
  count : length l.states.items ≡ l.counter;
  each : AllByRecursion (λ state. StandsFor l.exponent state []) l.states.items;
}
