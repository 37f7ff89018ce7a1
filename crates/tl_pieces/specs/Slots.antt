-- The slots of a map: the pieces, each with a mark of whether it is wanted.
use Rattle.std.specs.Prelude.{ℕ, Bool, true, false, ◌&&◌, ◌||◌, ◌==◌, nat_eq, is_none, cond, List, [], ◌∷◌, Option, Some, None}
use Rattle.std.specs.Option.{option_or}
use Rattle.tl_pieces.specs.declared.key.PieceKey.{PieceKey}
use Rattle.tl_pieces.specs.declared.slot.Stored.{Stored}
use Rattle.tl_pieces.specs.declared.slot.Slot.{Slot}
use Rattle.tl_pieces.specs.declared.slot.Mark.{Mark}
use Rattle.tl_pieces.specs.declared.slot.Mark.TheVariants as mark
use Rattle.tl_pieces.specs.declared.slot.Change.{Change}
use Rattle.tl_pieces.specs.declared.slot.Change.TheVariants as to
use Rattle.tl_pieces.specs.declared.slots.Turn.{Turn}
use Rattle.tl_pieces.specs.declared.tally.Tally.{Tally}
use Rattle.tl_pieces.specs.Keys.{from}
use Rattle.tl_pieces.specs.Tallies.{IsTally}

module _ {S R : Type 0} where
  -- whether a slot has the mark
  abbrev pub passes : Mark → Slot S R → Bool
  passes mark.Wanted s = s.wanted
  passes mark.Free s = s.wanted && is_none s.live

  abbrev pub blank : Slot S R
  blank = record { result = None; live = None; wanted = true }

  abbrev pub changed : Change S R → Slot S R → Slot S R
  changed (to.Wanted w) s = record s { wanted = w }
  changed (to.Live t) s = record s { live = t }
  changed (to.Result r) s = record s { result = Some r }
  changed to.Touched s = blank

  -- what a change does to the marks of a slot
  abbrev pub turn : (Slot S R → Slot S R) → Slot S R → Turn
  turn f s =
      record { was_wanted = passes mark.Wanted s; is_wanted = passes mark.Wanted (f s); was_free = passes mark.Free s; is_free = passes mark.Free (f s) }

  -- whether a slot is there and wanted
  abbrev pub wanted_of : Option (Slot S R) → Bool
  wanted_of None = false
  wanted_of (Some s) = s.wanted

  -- whether some are wanted
  abbrev pub some_wanted : List (PieceKey × Slot S R) → Bool
  some_wanted [] = false
  some_wanted (e ∷ es) = e.1.wanted || some_wanted es

  -- the first with the mark
  abbrev pub first : Mark → List (PieceKey × Slot S R) → Option PieceKey
  first m [] = None
  first m (e ∷ es) = cond (passes m e.1) (Some e.0) (first m es)

  -- the first from the cursor on
  abbrev pub first_from : Mark → Option PieceKey → List (PieceKey × Slot S R) → Option PieceKey
  first_from m None es = None
  first_from m (Some c) es = first m (from c es)

  -- the same, where it is known how many there are
  abbrev pub found : Mark → Tally → List (PieceKey × Slot S R) → Option PieceKey
  found m t es = cond (nat_eq t.count 0) None (first_from m t.cursor es)

  -- the last result of an owner
  abbrev pub last_result : ℕ → List (PieceKey × Slot S R) → Option (Stored S R)
  last_result o [] = None
  last_result o (e ∷ es) = option_or (last_result o es) (cond (e.0.owner == o) e.1.result None)

  -- what is true of the fields of the slots
  pub record AreTallied (es : List (PieceKey × Slot S R)) (w f : Tally) : Type 0 where
    pub wanted : IsTally (passes mark.Wanted) es w
    pub free : IsTally (passes mark.Free) es f
