use Rattle.std.proofs.Common.{◌≡◌, ℕ, ◌<◌, length}
use Rattle.std.specs.Prelude.{slice_index_or}
use Rattle.tl_client_rules.specs.declared.client.ClientState.{ClientState}
use Rattle.tl_client_rules.specs.Client.{SameClient}
use Rattle.tl_client_rules.proofs.manager.copied.Given as goal

-- the copies so far show the same
abbrev pub invariant-loop-state : goal.invariant-loop-state
invariant-loop-state l = record {
  count : length l.copy.items ≡ l.state-index;
  each : (n : ℕ) (d : ClientState) → n < l.state-index → SameClient (slice_index_or l.states n d) (slice_index_or l.copy.items n d);
}
