use Rattle.std.proofs.Common.{◌≡◌, false, take}
use Rattle.std.specs.Prelude.{is_some}
use Rattle.std.specs.List.{list_any}
use Rattle.tl_client_rules.specs.Manager.{past_at}
use Rattle.tl_client_rules.proofs.manager.ManagerState.any_probe_open.Given as goal

-- none of the clients tried so far has one
abbrev pub invariant-loop-place : goal.invariant-loop-place
invariant-loop-place l = list_any (λ client. is_some ((past_at l.self client).probe l.block)) (take l.place l.self.clients) ≡ false
