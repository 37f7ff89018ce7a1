use Rattle.std.proofs.Common.{◌≡◌, true, subst}
use Rattle.std.specs.Prelude.{is_some}
use Rattle.std.specs.Option.{IfSome}
use Rattle.tl_edits.specs.Inputs.{watch_at}
use Rattle.tl_pieces.specs.Pieces.{piece_at}
use Rattle.tl_board.specs.Spans.{standing}
use Rattle.tl_board.specs.Watches.{WatchesData}
use Rattle.tl_board.proofs.OutsideLemmas.{key_there, key_attached}
use Rattle.tl_board.proofs.watches.Watches.first_free_watch.Goals as goal

pub returns-clause-there : goal.returns-clause-there
returns-clause-there c = subst (λ (w : WatchesData). IfSome c.first_free.result (λ key. is_some (piece_at key w.board) ≡ true)) c.self.view_is (key_there c.self.inside.pieces _ c.first_free.result c.first_free.ensures.first)

pub returns-clause-attached : goal.returns-clause-attached
returns-clause-attached c = subst (λ (w : WatchesData). IfSome c.first_free.result (λ key. is_some (watch_at key.owner (standing w.spans).monitors) ≡ true)) c.self.view_is
    (key_attached (standing c.self.inside.spans) c.self.inside.pieces c.self.invariant c.len.ensures.kept _ c.first_free.result c.first_free.ensures.first)
