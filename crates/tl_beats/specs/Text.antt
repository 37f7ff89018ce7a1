-- The one spelling of a fragment.
use Rattle.std.specs.Prelude.{ℕ, ◌≤◌, List, [], ◌∷◌, ◌++◌, length, take, map, codes, Option}
use Rattle.std.specs.List.{flat_map}
use Rattle.std.specs.Io.KnownBytes.{Appends}
use Rattle.tl_text.specs.Numbers.{numeral}
use Rattle.tl_text.specs.Names.{bit}
use Rattle.tl_text.specs.Words.{◌␣◌, ended}
use Rattle.tl_tables.specs.declared.Chan.{Chan}
use Rattle.tl_tables.specs.declared.Chan.TheVariants as chan
use Rattle.tl_beats.specs.declared.Beat.{Beat}
use Rattle.tl_beats.specs.Fragments.{Frag}

abbrev pub chan_text : Chan → List ℕ
chan_text chan.A = codes "A"
chan_text chan.B = codes "B"
chan_text chan.C = codes "C"
chan_text chan.D = codes "D"
chan_text chan.E = codes "E"

-- what channels A to D begin with
abbrev pub message_text : Beat → List ℕ → List ℕ
message_text b rest = numeral 10 b.opcode ␣ numeral 10 b.param ␣ numeral 10 b.size ␣ numeral 10 b.source ␣ rest

-- what stands after the channel
abbrev pub fields_text : Chan → Beat → List ℕ
fields_text chan.A b = message_text b (numeral 16 b.address ␣ numeral 16 b.mask ␣ bit b.corrupt)
fields_text chan.B b = message_text b (numeral 16 b.address ␣ numeral 16 b.mask ␣ bit b.corrupt)
fields_text chan.C b = message_text b (numeral 16 b.address ␣ bit b.corrupt)
fields_text chan.D b = message_text b (numeral 10 b.sink ␣ bit b.denied ␣ bit b.corrupt)
fields_text chan.E b = numeral 10 b.sink

unfoldable pub beat_text : Beat → List ℕ
beat_text b = numeral 10 b.cycle ␣ chan_text b.chan ␣ fields_text b.chan b

unfoldable pub header_text : Frag → List ℕ
header_text f = codes "fragment" ␣ f.link ␣ numeral 10 f.number ␣ numeral 10 f.first ␣ numeral 10 f.last

-- the header, a line for each beat, and the line "end"
abbrev pub fragment_lines : Frag → List (List ℕ)
fragment_lines f = header_text f ∷ (map beat_text f.beats ++ codes "end" ∷ [])

unfoldable pub fragment_text : Frag → List ℕ
fragment_text f = flat_map ended (fragment_lines f)

-- A front of these bytes was written.
abbrev pub IsFront : Option (List ℕ) → Option (List ℕ) → List ℕ → Type 0
IsFront old new bytes = (n : ℕ) × (n ≤ length bytes) × Appends old new (take n bytes)
