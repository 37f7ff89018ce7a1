-- Laws about boards.
use Rattle.std.specs.Prelude.{◌≡◌, Some}
use Rattle.std.specs.declared.cmp.Ordering.TheVariants.{Less}
use Rattle.tl_pieces.specs.declared.key.PieceKey.{PieceKey}
use Rattle.tl_pieces.specs.Keys.{key_cmp, change}
use Rattle.tl_pieces.specs.Pieces.{Pass, Board, IsBoard, IsFirstWanted, entry_for, with_result, with_pieces}

-- Where the first piece that is wanted gets a result whose entry is what a job for it starts from, the first that is wanted then
-- stands after it.
abbrev pub ResultsMoveOn : (S R : Type 0) → (S → S → Type 0) → Type 0
ResultsMoveOn S R same = (b : Board S R) (key next : PieceKey) (r : Pass S R) (entry : S) → IsBoard b → IsFirstWanted same b (Some key) → entry_for key b ≡ Some entry
    → same r.entry entry → IsFirstWanted same (with_pieces b (change key (with_result r) b.pieces)) (Some next) → key_cmp key next ≡ Less
