use Rattle.std.proofs.Common.{◌≡◌, ℕ, ◌<◌, length}
use Rattle.std.specs.Prelude.{slice_index_or}
use Rattle.tl_client_rules.specs.Bounds.{IsSettled}
use Rattle.tl_client_rules.specs.Client.{SameClient}
use Rattle.tl_client_rules.specs.declared.client.ClientState.{ClientState}
use Rattle.tl_client_rules.proofs.manager.settle_all.Given as goal

-- all show the same, and those so far are settled
abbrev pub invariant-loop-place : goal.invariant-loop-place
invariant-loop-place l = record {
  count : length l.states.items ≡ length l.initial.states.items;
  each : (n : ℕ) (d : ClientState) → n < length l.states.items → SameClient (slice_index_or l.initial.states.items n d) (slice_index_or l.states.items n d);
  settled : (n : ℕ) (d : ClientState) → n < l.place → IsSettled (slice_index_or l.states.items n d).bounds;
}
