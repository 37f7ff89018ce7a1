-- What one reading of a beat shows, and what a beat breaks by it.
use Rattle.std.specs.Prelude.{ℕ, not, Bool, false, List, Some, None, nat_le, filter}
use Rattle.std.specs.Option.{option_map_or}
use Rattle.std.specs.List.{Contains}
use Rattle.tl_tables.specs.declared.Rule.{Rule}
use Rattle.tl_topology.specs.declared.LinkDecl.{LinkDecl}
use Rattle.tl_beats.specs.Beats.{IsWellFormed}
use Rattle.tl_beats.specs.declared.Beat.{Beat}
use Rattle.tl_definitions.specs.Heads.{message_of}
use Rattle.tl_definitions.specs.Breaks.{is_alike, breaks_later}
use Rattle.tl_definitions.specs.Readings.{Reading, due, rest, or_all}
use Rattle.tl_definitions.specs.Printed.{breaks_past}
use Rattle.tl_midway.specs.Unjudged.{may_break_past}
use Rattle.tl_midway.specs.declared.reading.Reading.{Reading as Kept}
use Rattle.tl_midway.specs.declared.reading.Reading.TheVariants as kept

-- What a reading shows.
abbrev pub shown_reading : Kept → Reading
shown_reading kept.Due = due
shown_reading (kept.Rest missing head) = rest missing head

-- The head, where the capture has it, is well-formed.
abbrev pub IsFormed : Reading → Type 0
IsFormed due = Unit {0}
IsFormed (rest missing None) = Unit {0}
IsFormed (rest missing (Some head)) = IsWellFormed head

abbrev pub AreFormed : List Reading → Type 0
AreFormed readings = (reading : Reading) → Contains readings reading → IsFormed reading

-- The fields of a beat speak against a reading, where of a message of the past fewer than `room` beats can be missing.
abbrev pub refuted_by : Beat → ℕ → Reading → Bool
refuted_by beat room due = false
refuted_by beat room (rest missing None) = nat_le room missing
refuted_by beat room (rest missing (Some head)) = not (is_alike head beat)

-- They don't, so it is kept; and the readings that are kept of some, or all where none is.
abbrev pub is_kept : Beat → ℕ → Reading → Bool
is_kept beat room reading = not (refuted_by beat room reading)

abbrev pub kept_of : Beat → ℕ → List Reading → List Reading
kept_of beat room readings = or_all (filter (is_kept beat room) readings) readings

-- The beat breaks a rule of later beats by a reading: as a later beat of a message of the past, of a head of the capture, or of
-- itself.
abbrev pub breaks_as : LinkDecl → Beat → Rule → Reading → Bool
breaks_as link beat r due = option_map_or (λ o. breaks_later link o beat beat r) (message_of link beat) false
breaks_as link beat r (rest missing None) = breaks_past link beat r
breaks_as link beat r (rest missing (Some head)) = option_map_or (λ o. breaks_later link o head beat r) (message_of link head) false

-- The beat may break such a rule by a reading.
abbrev pub may_as : LinkDecl → Beat → Rule → Reading → Bool
may_as link beat r (rest missing None) = may_break_past beat r
may_as link beat r due = breaks_as link beat r due
may_as link beat r (rest missing (Some head)) = breaks_as link beat r (rest missing (Some head))
