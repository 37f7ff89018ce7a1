use Rattle.tl_board.proofs.OpenLemmas.{sound_at_first}
use Rattle.tl_board.proofs.spans.Spans.new.Goals as goal

pub invariant_of-result : goal.invariant_of-result
invariant_of-result c = sound_at_first c.args.topo c.in_ok-new.field-0 c.in_ok-pieces.pieces c.in_ok-new.ensures c.in_ok-pieces.ensures.managers c.in_ok-pieces.ensures.pieces
