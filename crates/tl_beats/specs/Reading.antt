-- Reading a fragment from its first line on, up to the first fault.
use Rattle.std.specs.Prelude.{ℕ, ◌+◌, ◌-◌, ◌^◌, ◌==◌, ◌||◌, Bool, true, false, List, [], ◌∷◌, ◌++◌, length, codes, Option, Some, None, Result, Ok, Err, nat_lt, nat_le, if◌then◌else◌, slice_get}
use Rattle.std.specs.Str.{bytes_eq}
use Rattle.tl_text.specs.Words.{◌>>=◌, word_at, lines_of}
use Rattle.tl_text.specs.Numbers.{number_at}
use Rattle.tl_text.specs.Names.{bit_at}
use Rattle.tl_text.specs.Readings.{◌>>>◌, or_fault}
use Rattle.tl_tables.specs.declared.Chan.{Chan}
use Rattle.tl_tables.specs.declared.Chan.TheVariants as chan
use Rattle.tl_text.specs.Naming.{name_at}
use Rattle.tl_beats.specs.declared.Beat.{Beat}
use Rattle.tl_beats.specs.declared.beat_line.Message.{Message}
use Rattle.tl_beats.specs.declared.reading.Header.{Header}
use Rattle.tl_beats.specs.declared.fault.FragmentFault.{FragmentFault}
use Rattle.tl_beats.specs.declared.fault.FragmentFault.TheVariants as fault
use Rattle.tl_beats.specs.Beats.{rises}
use Rattle.tl_beats.specs.Fragments.{Frag}

-- ---- the spelling of one beat

-- opcode, param, size and source, and the words after them
unfoldable pub message_at : List ℕ → Option (Message × List ℕ)
message_at words = do
  opcode ← word_at words
  o ← number_at 10 7 opcode.0
  param ← word_at opcode.1
  p ← number_at 10 7 param.0
  size ← word_at param.1
  z ← number_at 10 15 size.0
  source ← word_at size.1
  s ← number_at 10 65535 source.0
  Some (record { opcode = o; param = p; size = z; source = s }, source.1)

-- address, mask and corrupt, after the message: channels A and B
unfoldable pub access_at : Chan → ℕ → List ℕ → Option Beat
access_at c cycle words = do
  message ← message_at words
  address ← word_at message.1
  a ← number_at 16 (2 ^ 64 - 1) address.0
  mask ← word_at address.1
  m ← number_at 16 (2 ^ 64 - 1) mask.0
  corrupt ← bit_at mask.1
  Some (record { cycle = cycle; chan = c; opcode = message.0.opcode; param = message.0.param; size = message.0.size; source = message.0.source; sink = 0; address = a; mask = m; denied = false; corrupt = corrupt })

-- address and corrupt, after the message: channel C
unfoldable pub release_at : ℕ → List ℕ → Option Beat
release_at cycle words = do
  message ← message_at words
  address ← word_at message.1
  a ← number_at 16 (2 ^ 64 - 1) address.0
  corrupt ← bit_at address.1
  Some (record { cycle = cycle; chan = chan.C; opcode = message.0.opcode; param = message.0.param; size = message.0.size; source = message.0.source; sink = 0; address = a; mask = 0; denied = false; corrupt = corrupt })

-- sink, denied and corrupt, after the message: channel D
unfoldable pub reply_at : ℕ → List ℕ → Option Beat
reply_at cycle words = do
  message ← message_at words
  sink ← word_at message.1
  s ← number_at 10 65535 sink.0
  denied ← word_at sink.1
  d ← bit_at denied.0
  corrupt ← bit_at denied.1
  Some (record { cycle = cycle; chan = chan.D; opcode = message.0.opcode; param = message.0.param; size = message.0.size; source = message.0.source; sink = s; address = 0; mask = 0; denied = d; corrupt = corrupt })

-- the sink alone: channel E
unfoldable pub grant_ack_at : ℕ → List ℕ → Option Beat
grant_ack_at cycle words = do
  s ← number_at 10 65535 words
  Some (record { cycle = cycle; chan = chan.E; opcode = 0; param = 0; size = 0; source = 0; sink = s; address = 0; mask = 0; denied = false; corrupt = false })

-- the fields of the channel that a word names
abbrev pub fields_at : List ℕ → ℕ → List ℕ → Option Beat
fields_at [] cycle words = None
fields_at (b ∷ c ∷ name) cycle words = None
fields_at (b ∷ []) cycle words = if b == 65 then access_at chan.A cycle words
    else (if b == 66 then access_at chan.B cycle words
    else (if b == 67 then release_at cycle words
    else (if b == 68 then reply_at cycle words
    else (if b == 69 then grant_ack_at cycle words else None))))

unfoldable pub beat_at : List ℕ → Option Beat
beat_at line = do
  cycle ← word_at line
  n ← number_at 10 (2 ^ 64 - 1) cycle.0
  name ← word_at cycle.1
  fields_at name.0 n name.1

-- ---- the header

-- number, first and last cycle, which are in order
unfoldable pub range_at : List ℕ → Option (ℕ × ℕ × ℕ)
range_at words = do
  number ← word_at words
  n ← number_at 10 (2 ^ 32 - 1) number.0
  first ← word_at number.1
  f ← number_at 10 (2 ^ 64 - 1) first.0
  l ← number_at 10 (2 ^ 64 - 1) first.1
  if nat_lt l f then None else Some (n, f, l)

unfoldable pub header_at : List ℕ → Option Header
header_at line = do
  word ← word_at line
  link ← (if bytes_eq word.0 (codes "fragment") then word_at word.1 else None)
  name ← name_at link.0
  range ← range_at link.1
  Some (record { link = name; number = range.0; first = range.1; last = range.2 })

-- ---- lines

-- the beat stands after the one before, if there is one
abbrev pub rises_behind : Option Beat → Beat → Bool
rises_behind None beat = true
rises_behind (Some before) beat = rises before beat

-- line n's beat, where there is room after the beats before it, in the range, and after the last of them
abbrev pub placed_at : ℕ → ℕ → ℕ → List Beat → Beat → Result Beat FragmentFault
placed_at first last n before beat = if nat_le 65536 (length before) then Err fault.TooManyBeats
    else (if nat_lt beat.cycle first || nat_lt last beat.cycle then Err (fault.OutOfRange n)
    else (if rises_behind (slice_get before (length before - 1)) beat then Ok beat else Err (fault.NotRising n)))

-- the beat of line n, in its place
unfoldable pub next_at : ℕ → ℕ → ℕ → List Beat → List ℕ → Result Beat FragmentFault
next_at first last n before line = or_fault (beat_at line) (fault.BadField n) >>> λ beat. placed_at first last n before beat

-- the beats from line n on, after those before, and the lines after the end
unfoldable pub beats_from : ℕ → ℕ → ℕ → List Beat → List (List ℕ) → Result (List Beat × List (List ℕ)) FragmentFault
beats_from first last n before [] = Err (fault.Truncated n)
beats_from first last n before (line ∷ []) = Err (fault.Truncated n)
beats_from first last n before (line ∷ next ∷ lines) = if bytes_eq line (codes "end") then Ok (before, next ∷ lines)
    else (next_at first last n before line >>> λ beat. beats_from first last (n + 1) (before ++ beat ∷ []) (next ∷ lines))

-- the same of a text, after all beats of the fragment so far: they are those of lines 2 and on
abbrev pub read_on : ℕ → ℕ → List Beat → List ℕ → Result (List Beat × List (List ℕ)) FragmentFault
read_on first last before text = beats_from first last (length before + 2) before (lines_of text)

-- a fragment's beats and what follows, after its header
unfoldable pub fragment_behind : Header → List (List ℕ) → Result (Frag × List (List ℕ)) FragmentFault
fragment_behind header lines = beats_from header.first header.last 2 [] lines >>> λ beats.
    Ok (record { link = header.link; number = header.number; first = header.first; last = header.last; beats = beats.0 }, beats.1)

-- a fragment, and the lines after it
unfoldable pub fragment_in : List (List ℕ) → Result (Frag × List (List ℕ)) FragmentFault
fragment_in [] = Err (fault.Truncated 1)
fragment_in (line ∷ []) = Err (fault.Truncated 1)
fragment_in (line ∷ next ∷ lines) = or_fault (header_at line) fault.BadHeader >>> λ header. fragment_behind header (next ∷ lines)

-- nothing stands after the last newline
abbrev pub is_end : List (List ℕ) → Bool
is_end ([] ∷ []) = true
is_end _ = false

-- a fragment with nothing after it; what follows is a bad line
unfoldable pub whole_fragment_in : List (List ℕ) → Result Frag FragmentFault
whole_fragment_in lines = fragment_in lines >>> λ read. if is_end read.1 then Ok read.0 else Err (fault.BadField (length read.0.beats + 3))
