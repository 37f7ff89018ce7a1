-- The beats of one channel of one link: which of them begin a message. `before` are its beats so far, the newest first, so
-- the index of the next beat is their number. [TileLink 1.8: serialization, beats of a burst]
use Rattle.std.specs.Prelude.{ℕ, ◌+◌, ◌-◌, ◌/◌, ◌^◌, ◌==◌, ◌&&◌, ◌||◌, max, Bool, List, [], ◌∷◌, length, Option, Some, None, if◌then◌else◌, nat_lt, slice_index}
use Rattle.std.specs.Option.{option_map, option_map_or}
use Rattle.std.specs.List.{list_any}
use Rattle.tl_tables.specs.declared.Chan.{Chan}
use Rattle.tl_tables.specs.declared.Op.{Op}
use Rattle.tl_tables.specs.Messages.{op_at, carries_data_of, same_chan}
use Rattle.tl_topology.specs.declared.LinkDecl.{LinkDecl}
use Rattle.tl_beats.specs.declared.Beat.{Beat}
use Rattle.tl_beats.specs.declared.Placed.{Placed}
use Rattle.tl_definitions.specs.declared.Unfinished.{Unfinished}

-- The message of a beat that is read as a head; None where the opcode is no message of the channel at the link's level.
abbrev pub message_of : LinkDecl → Beat → Option Op
message_of link beat = op_at link.level beat.chan beat.opcode

-- How many beats a message has that begins with this beat. Without data it has one; with data, as many as the link's width
-- asks. [TileLink 1.8: serialization; own profile: one beat where there is no message]
abbrev pub beat_count : LinkDecl → Beat → ℕ
beat_count link beat = option_map_or (λ o. if carries_data_of o then max 1 (2 ^ beat.size / link.width) else 1) (message_of link beat) 1

-- The beats of one channel of one link, among those of a manager.
abbrev pub before_on : ℕ → Chan → List Placed → List Beat
before_on link chan [] = []
before_on link chan (p ∷ before) = if (p.link == link) && same_chan p.beat.chan chan then p.beat ∷ before_on link chan before else before_on link chan before

-- An index is a head's when it is 0, or where the burst of a head ends.
abbrev pub begins : ℕ → List ℕ → Bool
begins k ends = (k == 0) || list_any (λ end. end == k) ends

abbrev pub with_end : ℕ → ℕ → List ℕ → List ℕ
with_end k count ends = if begins k ends then (k + count) ∷ ends else ends

-- For each head, its index and its number of beats, added.
abbrev pub ends : LinkDecl → List Beat → List ℕ
ends link [] = []
ends link (beat ∷ before) = with_end (length before) (beat_count link beat) (ends link before)

-- The next beat is a head.
abbrev pub is_head : LinkDecl → List Beat → Bool
is_head link before = begins (length before) (ends link before)

-- The newest head.
abbrev pub last_head : LinkDecl → List Beat → Option Beat
last_head link [] = None
last_head link (beat ∷ before) = if is_head link before then Some beat else last_head link before

-- The burst that these beats leave unfinished.
abbrev pub unfinished : LinkDecl → List Beat → Option Unfinished
unfinished link before =
    if is_head link before then None
    else option_map (λ head. record { head = head; missing = slice_index (ends link before) 0 - length before }) (last_head link before)

abbrev pub left : Beat → ℕ → Option Unfinished
left head missing = if nat_lt 0 missing then Some (record { head = head; missing = missing }) else None

-- The unfinished burst after one more beat, from the one before it.
abbrev pub after_beat : LinkDecl → Beat → Option Unfinished → Option Unfinished
after_beat link beat None = left beat (beat_count link beat - 1)
after_beat link beat (Some burst) = left burst.head (burst.missing - 1)
