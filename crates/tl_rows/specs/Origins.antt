-- Messages with the place of their head: the beats that a reason can name.
use Rattle.std.specs.Prelude.{ℕ, ◌==◌, ◌&&◌, Bool, List, [], ◌∷◌, Option, Some, None, if◌then◌else◌, map, find, min}
use Rattle.std.specs.Option.{option_map_or, option_and_then}
use Rattle.tl_tables.specs.declared.Chan.{Chan}
use Rattle.tl_tables.specs.declared.Op.{Op}
use Rattle.tl_tables.specs.Messages.{same_chan}
use Rattle.tl_beats.specs.declared.Placed.{Placed}
use Rattle.tl_definitions.specs.OpenTables.{Table, open_at, open_keys}
use Rattle.tl_definitions.specs.Heads.{message_of}
use Rattle.tl_definitions.specs.Messages.{Message, Links, request_of, at_head}
use Rattle.tl_definitions.specs.Laws.{sets_block}
use Rattle.tl_rows.specs.declared.origin.Origin.{Origin}

abbrev pub message : Origin → Message
message origin = record { op = origin.op; beat = origin.place.beat; request = origin.request }

-- The message that begins with this beat, after these of its link, the newest first.
abbrev pub origin_at : List Origin → Placed → Op → Origin
origin_at before p o = record { place = p; op = o; request = request_of (map message before) o p.beat }

abbrev pub with_origin : Placed → Option Op → List Origin → List Origin
with_origin p found before = option_map_or (λ o. origin_at before p o ∷ before) found before

-- The messages of one link, among the beats of a manager, each with its place.
abbrev pub origins_on : Links → ℕ → List Placed → List Origin
origins_on links link [] = []
origins_on links link (p ∷ before) =
    if (p.link == link) && at_head links before p then with_origin p (message_of (links link) p.beat) (origins_on links link before)
    else origins_on links link before

-- The newest head on a channel of a link.
abbrev pub head_before : Links → ℕ → Chan → List Placed → Option Placed
head_before links link chan [] = None
head_before links link chan (p ∷ before) =
    if ((p.link == link) && same_chan p.beat.chan chan) && at_head links before p then Some p else head_before links link chan before

-- A table of messages, of messages with their places.
abbrev pub placed : Table Message → Table Origin
placed table = record {
  opens = λ origin. table.opens (message origin);
  closes = λ origin. table.closes (message origin);
  key = λ origin. table.key (message origin);
}

abbrev pub least : List ℕ → Option ℕ
least [] = None
least (key ∷ keys) = Some (option_map_or (min key) (least keys) key)

-- The opener that is open on the least of the keys whose opener is open and passes the test.
abbrev pub first_open : Table Message → (Message → Bool) → List Origin → Option Origin
first_open table test before = option_and_then (λ key. open_at (placed table) key before) (least (open_keys table test (map message before)))

-- The last message that sets the bound of the block.
abbrev pub last_setter : ℕ → List Origin → ℕ → Option Origin
last_setter exponent before block = find (λ origin. sets_block exponent block (message origin)) before
