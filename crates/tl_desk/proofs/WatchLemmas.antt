-- One more window of a monitor is checked.
use Rattle.std.proofs.Common.{◌≡◌, ◌++◌, ◌∷◌, [], List, Option, Some, None, refl, sym, ap, subst}
use Rattle.std.specs.Prelude.{IfSome}
use Rattle.tl_beats.specs.declared.Row.{Row}
use Rattle.tl_monitor.specs.Boxes.{BoxesData}
use Rattle.tl_pieces.specs.declared.key.PieceKey.{PieceKey}
use Rattle.tl_pieces.specs.Pieces.{Board, IsFirstWanted, HasTrueEntry}
use Rattle.tl_board.proofs.RecheckLemmas.{IsUnderWay, one_more}
use Rattle.tl_board.specs.declared.tally.Tally.{Tally}
use Rattle.tl_board.specs.Tally.{SameTally}
use Rattle.tl_board.specs.Watches.{WatchesData, ChecksWatch}
use Rattle.tl_desk.specs.Steps.{IsOut, NoneIsOut}
use Rattle.tl_desk.proofs.FirstLemmas.{none_checked, first_other}

pub checked_one : (keys : List PieceKey) (start : Board Tally (List Row)) (old mid new : WatchesData) (found : Option PieceKey) (key : PieceKey) → IsUnderWay SameTally keys start old.board
    → IsFirstWanted SameTally old.board found → found ≡ Some key → IfSome found (HasTrueEntry SameTally old.board) → mid ≡ old → ChecksWatch mid key new → IsUnderWay SameTally (keys ++ key ∷ []) start new.board
checked_one keys start old mid new found key way first is ready same checked =
    one_more SameTally keys start mid.board new.board (subst (λ (w : WatchesData). IsUnderWay SameTally keys start w.board) (sym same) way) key checked.result refl
    (subst (λ (w : WatchesData). IsFirstWanted SameTally w.board (Some key)) (sym same) (subst (IsFirstWanted SameTally old.board) is first))
    (subst (λ (w : WatchesData). HasTrueEntry SameTally w.board key) (sym same) (subst (λ f. IfSome f (HasTrueEntry SameTally old.board)) is ready)) checked.entry (ap (λ (w : WatchesData). w.board) checked.rest)

-- The first that is wanted is of a monitor that is not out.
pub first_is_here : (boxes : BoxesData) (board : Board Tally (List Row)) (found : Option PieceKey) (key : PieceKey) → NoneIsOut boxes board → IsFirstWanted SameTally board found → found ≡ Some key → IsOut boxes key.owner → ⊥
first_is_here boxes board found key none first is = first_other SameTally board.openings (IsOut boxes) key None board.pieces none (subst (IsFirstWanted SameTally board) is first)

-- After its check none that is wanted is of a monitor that is out.
pub none_is_out : (boxes : BoxesData) (old mid new : WatchesData) (found : Option PieceKey) (key : PieceKey) → NoneIsOut boxes old.board → IsFirstWanted SameTally old.board found → found ≡ Some key → mid ≡ old → ChecksWatch mid key new
    → NoneIsOut boxes new.board
none_is_out boxes old mid new found key none first is same checked =
    subst (λ (b : Board Tally (List Row)). NoneIsOut boxes b) (sym (ap (λ (w : WatchesData). w.board) checked.rest))
    (none_checked SameTally mid.board.openings (IsOut boxes) key checked.result
    (first_is_here boxes old.board found key none first is) mid.board.pieces (subst (λ (w : WatchesData). NoneIsOut boxes w.board) (sym same) none))
