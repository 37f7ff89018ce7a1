use Rattle.std.proofs.Common.{◌≡◌, None, true, sym, subst, ◌∙◌}
use Rattle.std.specs.Prelude.{is_some, IfSome}
use Rattle.tl_pieces.specs.Pieces.{IsWanted, piece_at}
use Rattle.tl_pieces.proofs.ReadyLemmas.{if_some}
use Rattle.tl_edits.specs.Inputs.{watch_at}
use Rattle.tl_board.specs.Spans.{standing}
use Rattle.tl_board.proofs.CheckLemmas.{first_there, owner_of}
use Rattle.tl_board.specs.Tally.{SameTally}
use Rattle.tl_board.specs.Watches.{WatchesData}
use Rattle.tl_pieces.specs.Pieces.{IsFirstWanted}
use Rattle.tl_board.proofs.watches.Watches.next_watch.Goals as goal

pub returns-clause-there : goal.returns-clause-there
returns-clause-there c = subst (λ (w : WatchesData). IfSome c.first_wanted.result (λ key. is_some (piece_at key w.board) ≡ true)) c.self.view_is
    (if_some c.first_wanted.result _ (λ key at. first_there (IsWanted SameTally c.self.inside.pieces.openings) None c.self.inside.pieces.pieces key (subst (IsFirstWanted SameTally c.self.inside.pieces) at c.first_wanted.ensures.first)))

pub returns-clause-attached : goal.returns-clause-attached
returns-clause-attached c = subst (λ (w : WatchesData). IfSome c.first_wanted.result (λ key. is_some (watch_at key.owner (standing w.spans).monitors) ≡ true)) c.self.view_is
    (if_some c.first_wanted.result _ (λ key at. sym (c.self.invariant.owners key.owner) ∙ owner_of c.self.inside.pieces c.len.ensures.kept key
    (first_there (IsWanted SameTally c.self.inside.pieces.openings) None c.self.inside.pieces.pieces key (subst (IsFirstWanted SameTally c.self.inside.pieces) at c.first_wanted.ensures.first))))
