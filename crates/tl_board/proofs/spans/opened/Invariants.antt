use Rattle.std.proofs.Common.{◌≡◌, []}
use Rattle.tl_board.specs.Spans.{HasManagers}
use Rattle.tl_board.proofs.spans.opened.Given as goal

-- those so far have their opening states, and there are no pieces
abbrev pub invariant-loop-manager : goal.invariant-loop-manager
invariant-loop-manager l = HasManagers l.topo l.manager l.map × (l.map.pieces ≡ [])
