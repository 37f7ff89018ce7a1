use Rattle.std.proofs.Common.{◌≡◌, false, take}
use Rattle.std.specs.Prelude.{nat_lt}
use Rattle.std.specs.List.{list_any}
use Rattle.tl_client_rules.specs.Manager.{past_at}
use Rattle.tl_client_rules.proofs.manager.ManagerState.any_grant_open.Given as goal

-- none of the clients tried so far has one
abbrev pub invariant-loop-place : goal.invariant-loop-place
invariant-loop-place l = list_any (λ client. nat_lt 0 ((past_at l.self client).grants l.block)) (take l.place l.self.clients) ≡ false
