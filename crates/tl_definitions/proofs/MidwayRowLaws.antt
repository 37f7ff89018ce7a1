-- What is printed is computed.
use Rattle.std.proofs.Common.{refl}
use Rattle.tl_tables.specs.Messages.{op_at}
use Rattle.tl_definitions.specs.MidwayRows.{KeyRows, ReadingRows, BoundRows}

pub key_rows : KeyRows
unfolding op_at
key_rows = (refl, refl, refl, refl, refl)

pub reading_rows : ReadingRows
unfolding op_at
reading_rows = (refl, refl, refl, refl, refl, refl, refl)

pub bound_rows : BoundRows
unfolding op_at
bound_rows = (refl, refl, refl, refl, refl)
