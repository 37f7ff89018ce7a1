-- What a beat is by its readings.
use Rattle.std.specs.Prelude.{◌≡◌, ◌&&◌, not, Bool, true, false, List, [], ◌∷◌, filter, map}
use Rattle.std.specs.List.{list_any, list_all}
use Rattle.tl_tables.specs.declared.Rule.{Rule}
use Rattle.tl_topology.specs.declared.LinkDecl.{LinkDecl}
use Rattle.tl_beats.specs.declared.Beat.{Beat}
use Rattle.tl_definitions.specs.Breaks.{later_order}
use Rattle.tl_definitions.specs.Readings.{Reading, may_begin, must_begin, reading_after, told}
use Rattle.tl_midway.specs.Reading.{breaks_as, may_as}
use Rattle.tl_midway.specs.Readings.{Has}
use Rattle.tl_midway.specs.declared.readings.Readings.{Readings}
use Rattle.tl_midway.specs.declared.standing.Standing.{Standing}
use Rattle.tl_midway.specs.declared.standing.Standing.TheVariants as standing

-- The rules of later beats that a beat breaks by each of its readings.
abbrev pub later_broken : LinkDecl → Beat → List Reading → List Rule
later_broken link beat readings = filter (λ r. list_all (breaks_as link beat r) readings) later_order

-- By its readings the beat begins a message, it may, or it is a later beat; in the last three cases it breaks these rules, or none.
abbrev pub IsStanding : LinkDecl → Beat → List Reading → Standing → Type 0
IsStanding link beat readings standing.Head = (must_begin readings ≡ true) × (may_begin readings ≡ true)
IsStanding link beat readings (standing.Either rules) =
    (must_begin readings ≡ false) × (may_begin readings ≡ true) × (rules ≡ later_broken link beat readings)
IsStanding link beat readings (standing.Later rules) =
    (must_begin readings ≡ false) × (may_begin readings ≡ false) × (rules ≡ later_broken link beat readings)
IsStanding link beat readings standing.GoesOn = (must_begin readings ≡ false) × (may_begin readings ≡ false) × ([] ≡ later_broken link beat readings)

-- The state has the readings of a channel's next beat, whatever they are, after some beats.
abbrev pub IsKnown : Readings → Type 0
IsKnown state = (readings : List Reading) × (before : List Beat) × Has state readings before

-- This is what the channel's next beat is, whatever readings the old state has after whatever beats; and the new state has
-- those of the beat after it.
abbrev pub Takes : LinkDecl → Bool → Beat → Readings → Standing → Readings → Type 0
Takes link by_fields beat old result new = (readings : List Reading) (before : List Beat) → Has old readings before
    → IsStanding link beat (told by_fields link beat before readings) result
    × Has new (map (reading_after link beat) (told by_fields link beat before readings)) (beat ∷ before)

-- Some readings of a beat let it break the rule of later beats, and not by each it surely does.
abbrev pub later_open : LinkDecl → Beat → Rule → List Reading → Bool
later_open link beat r readings = list_any (may_as link beat r) readings && not (list_all (breaks_as link beat r) readings)
