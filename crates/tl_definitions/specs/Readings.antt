-- What a beat of a channel may be, where the capture begins in the middle of a run: the first beat of a message, or a later
-- one, of a message of the capture or of the past. `before` are the beats of one channel of one link, the newest first.
use Rattle.std.specs.Prelude.{ℕ, zero, suc, ◌+◌, ◌-◌, ◌==◌, ◌&&◌, ◌||◌, not, Bool, true, false, List, [], ◌∷◌, length, Option, Some, None, if◌then◌else◌, nat_lt, nat_le, filter, map}
use Rattle.std.specs.Option.{option_map_or}
use Rattle.std.specs.List.{list_any, list_all}
use Rattle.tl_tables.specs.Messages.{carries_data_of}
use Rattle.tl_topology.specs.declared.LinkDecl.{LinkDecl}
use Rattle.tl_beats.specs.declared.Beat.{Beat}
use Rattle.tl_definitions.specs.Heads.{message_of, beat_count}
use Rattle.tl_definitions.specs.Breaks.{is_alike}

-- One reading of the next beat. Due: it begins a message. Rest: it is one of so many beats that a message still lacks, 1 at
-- least; the message began with this beat of the capture or, with None, before the capture.
pub data Reading : Type 0 where
  due : Reading
  rest : ℕ → Option Beat → Reading

abbrev pub is_due : Reading → Bool
is_due due = true
is_due (rest missing head) = false

-- How many beats are missing before the next head.
abbrev pub missing_of : Reading → ℕ
missing_of due = 0
missing_of (rest missing head) = missing

abbrev pub lacking : ℕ → Option Beat → Reading
lacking missing head = if nat_lt 0 missing then rest missing head else due

-- A reading after one more beat of the channel.
abbrev pub reading_after : LinkDecl → Beat → Reading → Reading
reading_after link beat due = lacking (beat_count link beat - 1) (Some beat)
reading_after link beat (rest missing head) = lacking (missing - 1) head

-- The readings of the first beat: the past left a message without its last beats, `most` or fewer, or it left none.
abbrev pub first_readings : ℕ → List Reading
first_readings zero = due ∷ []
first_readings (suc most) = rest (suc most) None ∷ first_readings most

-- The next beat may begin a message; it does by every reading.
abbrev pub may_begin : List Reading → Bool
may_begin readings = list_any is_due readings

abbrev pub must_begin : List Reading → Bool
must_begin readings = list_all is_due readings

-- Two readings have other numbers of missing beats, so the channel's heads aren't known yet. Beats with such readings are the
-- channel's lead-in.
abbrev pub in_lead_in : List Reading → Bool
in_lead_in readings = list_any (λ one. list_any (λ other. not (missing_of one == missing_of other)) readings) readings

-- The first beat of the channel.
abbrev pub first_of : Beat → List Beat → Beat
first_of beat [] = beat
first_of beat (earlier ∷ before) = first_of earlier before

abbrev pub has_data : LinkDecl → Beat → Bool
has_data link beat = option_map_or carries_data_of (message_of link beat) false

-- The fields of a beat speak against a reading: by it, the beat isn't like its head. Of a head in the past, which nobody
-- recorded, three things are known: it carries data; the channel's first beat is one of its beats, and so like it; and it
-- has at least the beats that the capture has of it, those that are missing, and itself.
abbrev pub is_refuted : LinkDecl → Beat → List Beat → Reading → Bool
is_refuted link beat before due = false
is_refuted link beat before (rest missing (Some head)) = not (is_alike head beat)
is_refuted link beat before (rest missing None) =
    not (has_data link beat) || not (is_alike (first_of beat before) beat) || nat_le (beat_count link beat) (missing + length before)

abbrev pub or_all : List Reading → List Reading → List Reading
or_all [] all = all
or_all (reading ∷ kept) all = reading ∷ kept

-- The readings of a beat, from those of the channel's next beat. Where bursts are told by their fields, the fields of a beat
-- of the lead-in drop the readings that they speak against; where they speak against all, they drop none.
abbrev pub told : Bool → LinkDecl → Beat → List Beat → List Reading → List Reading
told by_fields link beat before readings =
    if by_fields && in_lead_in readings then or_all (filter (λ reading. not (is_refuted link beat before reading)) readings) readings
    else readings

-- The readings of the channel's next beat, after these.
abbrev pub readings_after : LinkDecl → ℕ → Bool → List Beat → List Reading
readings_after link most by_fields [] = first_readings most
readings_after link most by_fields (beat ∷ before) =
    map (reading_after link beat) (told by_fields link beat before (readings_after link most by_fields before))

-- The readings of a beat that stands after these.
abbrev pub readings_at : LinkDecl → ℕ → Bool → Beat → List Beat → List Reading
readings_at link most by_fields beat before = told by_fields link beat before (readings_after link most by_fields before)
