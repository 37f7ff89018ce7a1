use Rattle.std.proofs.Common.{◌≡◌, ◌==◌, ◌&&◌, not, false, take}
use Rattle.std.specs.List.{list_any}
use Rattle.tl_tables.specs.Kinds.{conflicts}
use Rattle.tl_client_rules.specs.Manager.{past_at}
use Rattle.tl_client_rules.proofs.manager.ManagerState.conflicts_with_other.Given as goal

-- none of the clients tried so far forbids it
abbrev pub invariant-loop-place : goal.invariant-loop-place
invariant-loop-place l = list_any (λ client. not (client == l.link) && conflicts l.set ((past_at l.self client).bound l.block)) (take l.place l.self.clients) ≡ false
