-- What a walk over the pieces has left.
use Rattle.std.specs.Prelude.{List}
use Rattle.std.specs.Option.{option_map}
use Rattle.tl_pieces.specs.declared.key.PieceKey.{PieceKey}
use Rattle.tl_pieces.specs.declared.walk.PieceRef.{PieceRef}
use Rattle.tl_pieces.specs.declared.walk.Pieces.{Pieces}
use Rattle.tl_pieces.specs.Pieces.{Piece}
use Rattle.tl_pieces.specs.Marks.{pass_of, shown}

module _ {S R : Type 0} where
  -- the key of a piece and the piece, as an item shows them
  abbrev pub piece_seen : PieceRef S R → PieceKey × Piece S R
  piece_seen p = (p.key, record { result = option_map (λ r. pass_of r.now) p.result; live = p.live })

  -- the pieces that it still gives, in their order
  abbrev pub pieces_left : Pieces S R → List (PieceKey × Piece S R)
  pieces_left walk = shown walk.slots
