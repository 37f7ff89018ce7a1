-- Which rules a beat breaks, by all beats of its manager before it, the newest first.
use Rattle.std.specs.Prelude.{◌≡◌, ◌==◌, ◌&&◌, not, Bool, true, false, List, [], ◌∷◌, ◌++◌, Option, Some, None, if◌then◌else◌, filter, map, reverse}
use Rattle.std.specs.Option.{option_map_or}
use Rattle.std.specs.List.{Contains}
use Rattle.tl_tables.specs.declared.Chan.TheVariants as chan
use Rattle.tl_tables.specs.declared.Op.{Op}
use Rattle.tl_tables.specs.declared.Rule.{Rule}
use Rattle.tl_tables.specs.declared.Rule.TheVariants as rule
use Rattle.tl_tables.specs.Messages.{same_chan}
use Rattle.tl_topology.specs.declared.LinkDecl.{LinkDecl}
use Rattle.tl_beats.specs.declared.Beat.{Beat}
use Rattle.tl_beats.specs.declared.Placed.{Placed}
use Rattle.tl_beats.specs.declared.Row.{Row}
use Rattle.tl_definitions.specs.Heads.{message_of, before_on, last_head}
use Rattle.tl_definitions.specs.Messages.{message_at, at_head, messages_on}
use Rattle.tl_definitions.specs.Past.{pasts_of}
use Rattle.tl_definitions.specs.Rules.{Manager, breaks_mask, breaks_denied, rules_of_message}

abbrev pub same_bit : Bool → Bool → Bool
same_bit true b = b
same_bit false b = not b

-- The fields that all beats of a burst share. [TileLink 1.8: serialization, signals held through a burst]
abbrev pub same_request : Beat → Beat → Bool
same_request head beat =
    (head.opcode == beat.opcode) && (head.param == beat.param) && (head.size == beat.size) && (head.source == beat.source) && (head.address == beat.address)

abbrev pub same_reply : Beat → Beat → Bool
same_reply head beat =
    (head.opcode == beat.opcode) && (head.param == beat.param) && (head.size == beat.size) && (head.source == beat.source) && (head.sink == beat.sink)
    && same_bit head.denied beat.denied

abbrev pub is_alike : Beat → Beat → Bool
is_alike head beat = if same_chan head.chan chan.D then same_reply head beat else same_request head beat

-- Rules of a later beat, by its head and the message of that.
-- F5: on A and B its mask isn't the active lanes of its head; of a PutPartialData, isn't within them. [byte lanes]
-- F7: it is denied and not corrupt, in a reply with data. [denied and corrupt fields; own profile: for a denied Grant]
-- U1: it differs from its head in a field that all beats of a burst share. [serialization]
abbrev pub breaks_later : LinkDecl → Op → Beat → Beat → Rule → Bool
breaks_later link o head beat rule.F5 = breaks_mask link o head beat
breaks_later link o head beat rule.F7 = breaks_denied o head beat
breaks_later link o head beat rule.U1 = not (is_alike head beat)
breaks_later link o head beat _ = false

abbrev pub later_order : List Rule
later_order = rule.F5 ∷ rule.F7 ∷ rule.U1 ∷ []

-- A head without a message has no later beats, so the last case is of none.
abbrev pub later_rules : LinkDecl → Beat → Beat → List Rule
later_rules link beat head = option_map_or (λ o. filter (breaks_later link o head beat) later_order) (message_of link head) []

-- The rules of a head. One without a message breaks F1 alone.
abbrev pub head_rules : Manager → List Placed → Placed → Option Op → List Rule
head_rules m before p None = rule.F1 ∷ []
head_rules m before p (Some o) = rules_of_message m (pasts_of m.links m.exponent before) p.link (message_at (messages_on m.links p.link before) p.beat o)

-- The rules that a beat breaks after these, in the order of reports.
abbrev pub rules_at : Manager → List Placed → Placed → List Rule
rules_at m before p =
    if at_head m.links before p then head_rules m before p (message_of (m.links p.link) p.beat)
    else option_map_or (later_rules (m.links p.link) p.beat) (last_head (m.links p.link) (before_on p.link p.beat.chan before)) []

-- The row of a report that says that the beat breaks the rule.
abbrev pub row_of : Placed → Rule → Row
row_of p broken = record { link = p.link; cycle = p.beat.cycle; chan = p.beat.chan; rule = broken; monitor = None; fragment = p.fragment; line = p.line }

-- The row is of a beat of the manager, and of a rule that this beat breaks after all beats before it.
abbrev pub Breaks : Manager → List Placed → Row → Type 0
Breaks m beats row = (earlier later : List Placed) × (p : Placed) × (beats ≡ earlier ++ p ∷ later)
    × Contains (rules_at m (reverse earlier) p) row.rule × (row ≡ row_of p row.rule)

-- All rows of beats in their order that come after others.
abbrev pub rows_after : Manager → List Placed → List Placed → List Row
rows_after m before [] = []
rows_after m before (p ∷ beats) = map (row_of p) (rules_at m before p) ++ rows_after m (p ∷ before) beats

abbrev pub rows_in : Manager → List Placed → List Row
rows_in m beats = rows_after m [] beats
