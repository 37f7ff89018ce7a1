-- The lines of a row: its beat in words, its rule, the earlier beat that makes it so, and what was expected.
use Rattle.std.specs.Prelude.{ℕ, ◌<◌, ◌==◌, nat_le, Bool, false, List, [], ◌∷◌, ◌++◌, codes, Option, Some, None, if◌then◌else◌, length, map, slice_index_or}
use Rattle.std.specs.Fmt.{decimal, digits}
use Rattle.std.specs.Option.{option_map_or}
use Rattle.tl_tables.specs.declared.Chan.{Chan}
use Rattle.tl_tables.specs.declared.Chan.TheVariants as chan
use Rattle.tl_tables.specs.declared.Op.{Op}
use Rattle.tl_tables.specs.declared.Rule.{Rule}
use Rattle.tl_tables.specs.declared.Rule.TheVariants as rule
use Rattle.tl_tables.specs.Kinds.{is_put_partial}
use Rattle.tl_tables.specs.Messages.{op_at, same_chan}
use Rattle.tl_tables.specs.Rules.{rule_text_of, rule_line_of}
use Rattle.tl_topology.specs.Topology.{Topology}
use Rattle.tl_topology.specs.declared.LinkDecl.{LinkDecl}
use Rattle.tl_beats.specs.Beats.{IsWellFormed}
use Rattle.tl_beats.specs.declared.Beat.{Beat}
use Rattle.tl_beats.specs.declared.Placed.{Placed}
use Rattle.tl_definitions.specs.Heads.{message_of}
use Rattle.tl_definitions.specs.Positions.{links_of}
use Rattle.tl_definitions.specs.Managers.{declared_links}
use Rattle.tl_definitions.specs.Rules.{active_lanes}
use Rattle.tl_rows.specs.declared.reason.Reason.{Reason}
use Rattle.tl_rows.specs.declared.reason.Reason.TheVariants as why
use Rattle.tl_rows.specs.declared.telling.Told.{Told}
use Rattle.tl_rows.specs.Words.{joined, beat_text_of, bytes_text_of}

abbrev pub newline : List ℕ
newline = 10 ∷ []

abbrev pub link_at : Topology → ℕ → LinkDecl
link_at topo link = links_of (declared_links topo) link

-- A beat in words.
abbrev pub words_of : Topology → Placed → List ℕ
words_of topo p = beat_text_of (message_of (link_at topo p.link) p.beat) p.beat

-- The line of the row's own beat, and that of its rule.
unfoldable pub beat_line_of : Topology → Placed → List ℕ
beat_line_of topo p = joined (codes "  " ∷ (link_at topo p.link).name ∷ codes " line " ∷ decimal p.line ∷ codes ", cycle " ∷ decimal p.beat.cycle ∷ codes ": " ∷ words_of topo p ∷ newline ∷ [])

unfoldable pub rule_row_of : Rule → List ℕ
rule_row_of broken = joined (codes "  " ∷ rule_text_of broken ∷ codes ": " ∷ rule_line_of broken ∷ newline ∷ [])

-- Where a beat stands, and its words.
unfoldable pub place_text_of : Topology → Placed → List ℕ
place_text_of topo p =
    joined ((link_at topo p.link).name ∷ codes " fragment " ∷ decimal p.fragment ∷ codes " line " ∷ decimal p.line ∷ codes ", cycle " ∷ decimal p.beat.cycle ∷ codes ": " ∷ words_of topo p ∷ [])

-- The line of an earlier beat after what it is.
unfoldable pub named_line_of : List ℕ → Topology → Placed → List ℕ
named_line_of label topo p = joined (codes "  " ∷ label ∷ codes ": " ∷ place_text_of topo p ∷ newline ∷ [])

-- The line where there is none.
abbrev pub missing_of : Rule → List ℕ
missing_of rule.S1 = codes "no request is open on its source"
missing_of rule.S2 = codes "no request is open on its source"
missing_of rule.S3 = codes "no request is open on its source"
missing_of rule.S4 = codes "no request is open on its source"
missing_of rule.S5 = codes "no Release is open on its source"
missing_of rule.S6 = codes "no Release is open on its source"
missing_of rule.S7 = codes "no Release is open on its source"
missing_of rule.S8 = codes "no Grant is open on its sink"
missing_of rule.S9 = codes "no Grant is open on its sink"
missing_of rule.P1 = codes "nothing set what its client may hold of the block"
missing_of rule.P2 = codes "nothing set what its client may hold of the block"
missing_of rule.P3 = codes "no Probe of the block is open"
missing_of rule.P4 = codes "no Probe of the block is open"
missing_of rule.P5 = codes "no Probe of the block is open"
missing_of _ = codes "there is no such beat"

unfoldable pub missing_line_of : Rule → List ℕ
missing_line_of broken = joined (codes "  none before: " ∷ missing_of broken ∷ newline ∷ [])

-- The line of the earlier beat that makes the beat break its rule, if it does not by itself.
abbrev pub reason_line_of : Topology → Rule → Reason → List ℕ
reason_line_of topo broken why.ByItself = []
reason_line_of topo broken why.NoneBefore = missing_line_of broken
reason_line_of topo broken (why.Head p) = named_line_of (codes "head") topo p
reason_line_of topo broken (why.Request p) = named_line_of (codes "open request") topo p
reason_line_of topo broken (why.Release p) = named_line_of (codes "open Release") topo p
reason_line_of topo broken (why.Probe p) = named_line_of (codes "open Probe") topo p
reason_line_of topo broken (why.Grant p) = named_line_of (codes "open Grant") topo p
reason_line_of topo broken (why.Setter p) = named_line_of (codes "last set by") topo p
reason_line_of topo broken (why.Rival p) = named_line_of (codes "other client last set by") topo p

-- What was expected of the size, the mask, the block and the source.
unfoldable pub most_line_of : ℕ → List ℕ
most_line_of size = joined (codes "  expected: at most " ∷ bytes_text_of size ∷ newline ∷ [])

unfoldable pub block_line_of : ℕ → List ℕ
block_line_of size = joined (codes "  expected: " ∷ bytes_text_of size ∷ newline ∷ [])

unfoldable pub within_line_of : ℕ → List ℕ
within_line_of lanes = joined (codes "  expected: a mask within " ∷ digits 16 false lanes ∷ newline ∷ [])

unfoldable pub mask_line_of : ℕ → List ℕ
mask_line_of lanes = joined (codes "  expected: mask " ∷ digits 16 false lanes ∷ newline ∷ [])

unfoldable pub source_line_of : ℕ → List ℕ
source_line_of sources = joined (codes "  expected: a source below " ∷ decimal sources ∷ newline ∷ [])

-- The message that a beat belongs to begins with this one.
abbrev pub head_of : Placed → Reason → Beat
head_of p (why.Head head) = head.beat
head_of p _ = p.beat

abbrev pub is_partial : LinkDecl → Beat → Bool
is_partial link head = option_map_or is_put_partial (message_of link head) false

unfoldable pub lanes_line_of : LinkDecl → Beat → List ℕ
lanes_line_of link head =
    if is_partial link head then within_line_of (active_lanes link.width head.size head.address) else mask_line_of (active_lanes link.width head.size head.address)

-- The first field that a later beat has other than its head.
abbrev pub own_field_of : Beat → Beat → List ℕ
own_field_of head beat =
    if same_chan head.chan chan.D then (if head.sink == beat.sink then codes "denied" else codes "sink") else codes "address"

unfoldable pub field_of : Beat → Beat → List ℕ
field_of head beat =
    if head.opcode == beat.opcode
    then (if head.param == beat.param then (if head.size == beat.size then (if head.source == beat.source then own_field_of head beat else codes "source") else codes "size") else codes "param")
    else codes "opcode"

unfoldable pub differs_line_of : Beat → Beat → List ℕ
differs_line_of head beat = joined (codes "  differs from its head in: " ∷ field_of head beat ∷ newline ∷ [])

-- The exponent of the block of a link's manager.
abbrev pub block_at : Topology → LinkDecl → ℕ
block_at topo link = slice_index_or (map (λ p. p.1) topo.managers) link.manager 0

abbrev pub expected_line_of : Topology → LinkDecl → Rule → Placed → Reason → List ℕ
expected_line_of topo link rule.F4 p reason = most_line_of link.max_size
expected_line_of topo link rule.F5 p reason = lanes_line_of link (head_of p reason)
expected_line_of topo link rule.F8 p reason = if nat_le (block_at topo link) 15 then block_line_of (block_at topo link) else []
expected_line_of topo link rule.F9 p reason = source_line_of link.sources
expected_line_of topo link rule.U1 p reason = differs_line_of (head_of p reason) p.beat
expected_line_of topo link _ p reason = []

-- All lines of a row.
unfoldable pub told_lines_of : Topology → Told → List ℕ
told_lines_of topo told =
    joined (beat_line_of topo told.place ∷ rule_row_of told.row.rule ∷ reason_line_of topo told.row.rule told.reason
    ∷ expected_line_of topo (link_at topo told.place.link) told.row.rule told.place told.reason ∷ [])

-- The lines of a row without the earlier beat that makes it so.
unfoldable pub bare_lines_of : Topology → Placed → Rule → List ℕ
bare_lines_of topo p broken = joined (beat_line_of topo p ∷ rule_row_of broken ∷ [])

-- The place is of a link of the topology, and its beat a beat of a fragment.
abbrev pub IsStanding : Topology → Placed → Type 0
IsStanding topo p = (p.link < length topo.links) × IsWellFormed p.beat

-- It holds of what the reason names, if anything.
abbrev pub IsKept : (Placed → Type 0) → Reason → Type 0
IsKept P why.ByItself = Unit {0}
IsKept P why.NoneBefore = Unit {0}
IsKept P (why.Head p) = P p
IsKept P (why.Request p) = P p
IsKept P (why.Release p) = P p
IsKept P (why.Probe p) = P p
IsKept P (why.Grant p) = P p
IsKept P (why.Setter p) = P p
IsKept P (why.Rival p) = P p

-- So are what is told and what its reason names.
abbrev pub IsNaming : Topology → Reason → Type 0
IsNaming topo reason = IsKept (IsStanding topo) reason

abbrev pub IsSoundTold : Topology → Told → Type 0
IsSoundTold topo told = IsStanding topo told.place × IsNaming topo told.reason
