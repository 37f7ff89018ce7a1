use Rattle.std.proofs.Common.{take}
use Rattle.tl_check.specs.Captured.{areas_at}
use Rattle.tl_check.specs.Found.{AreFound}
use Rattle.tl_check.specs.Managers.{captures_at}
use Rattle.tl_check.proofs.managers.rows_of_managers.Given as goal

-- what is found so far is what the managers so far find
abbrev pub invariant-loop-manager : goal.invariant-loop-manager
invariant-loop-manager l = AreFound (captures_at l.topo (areas_at l.regions) l.present (take l.manager-index l.managers)) l.rows.items
