use Rattle.std.proofs.Common.{true, ◌≡◌, subst}
use Rattle.std.specs.Prelude.{is_some}
use Rattle.std.specs.Option.{IfSome}
use Rattle.tl_pieces.specs.Pieces.{piece_at}
use Rattle.tl_board.specs.Spans.{SpansData}
use Rattle.tl_board.proofs.TicketLemmas.{free_there}
use Rattle.tl_board.proofs.spans.Spans.first_free.Goals as goal

pub returns-clause-there : goal.returns-clause-there
returns-clause-there c = subst (λ (s : SpansData). IfSome c.first_free.result (λ key. is_some (piece_at key s.board) ≡ true)) c.self.view_is (free_there c.self.inside.pieces c.first_free.result c.first_free.ensures.first)
