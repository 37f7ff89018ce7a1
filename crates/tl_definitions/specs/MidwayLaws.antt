-- The laws of captures that begin in the middle of a run.
use Rattle.std.specs.Prelude.{◌≡◌, ℕ, ◌⊎◌, true, false, List, ◌∷◌, ◌++◌, map, reverse, Option, Some}
use Rattle.std.specs.List.{Contains}
use Rattle.std.specs.List.Sorted.{IsStrictlySortedBy}
use Rattle.tl_tables.specs.declared.Chan.TheVariants as chan
use Rattle.tl_tables.specs.declared.Rule.TheVariants as rule
use Rattle.tl_beats.specs.declared.Beat.{Beat}
use Rattle.tl_beats.specs.declared.Placed.{Placed}
use Rattle.tl_beats.specs.declared.Request.{Request}
use Rattle.tl_beats.specs.declared.Row.{Row}
use Rattle.tl_definitions.specs.Heads.{before_on}
use Rattle.tl_definitions.specs.Rules.{Manager}
use Rattle.tl_definitions.specs.Breaks.{Breaks, rules_at, rows_in}
use Rattle.tl_definitions.specs.Judging.{snapshot}
use Rattle.tl_definitions.specs.Report.{by_number}
use Rattle.tl_definitions.specs.Readings.{in_lead_in, readings_after}
use Rattle.tl_definitions.specs.Known.{known, Beginning, known_pasts, known_snapshot}
use Rattle.tl_definitions.specs.Printed.{printed_rules, printed_rows}
use Rattle.tl_definitions.specs.Lawful.{IsLawful, LeavesAtMost, any_past, told_bursts, at_heads, Allows}

-- A lawful past leaves at most `most_missing` beats of a message missing, on each channel.
abbrev pub LawfulPastsLeaveAtMost : Type 0
LawfulPastsLeaveAtMost = (m : Manager) (past : List Placed) → IsLawful m past → LeavesAtMost m (any_past m) past

-- The known snapshot after a front of the capture allows the snapshot of each lawful past followed by that front.
abbrev pub KnownSnapshotsAllow : Type 0
KnownSnapshotsAllow = (m : Manager) (start : Beginning) (past front : List Placed) → start.by_fields ≡ false → IsLawful m past → LeavesAtMost m start past
    → Allows m (known_snapshot m start (reverse front)) (snapshot m (reverse (past ++ front)))

-- A printed row is a row of each lawful past, that leaves no more beats missing, followed by the capture.
abbrev pub PrintedRowsAreCertain : Type 0
PrintedRowsAreCertain = (m : Manager) (start : Beginning) (past beats : List Placed) → start.by_fields ≡ false → IsLawful m past → LeavesAtMost m start past
    → (row : Row) → Contains (printed_rows m start beats) row → Breaks m (past ++ beats) row

-- Of any lawful past.
abbrev pub AnyPastHasPrintedRows : Type 0
AnyPastHasPrintedRows = (m : Manager) (past beats : List Placed) → IsLawful m past
    → (row : Row) → Contains (printed_rows m (any_past m) beats) row → Breaks m (past ++ beats) row

-- Of any lawful past that ends between messages on each channel.
abbrev pub PastsOfWholeMessagesHavePrintedRows : Type 0
PastsOfWholeMessagesHavePrintedRows = (m : Manager) (past beats : List Placed) → IsLawful m past → LeavesAtMost m at_heads past
    → (row : Row) → Contains (printed_rows m at_heads beats) row → Breaks m (past ++ beats) row

-- The empty past is lawful: printed rows are among those of the capture judged as if nothing came before it.
abbrev pub PrintedRowsAreOfThePlainReport : Type 0
PrintedRowsAreOfThePlainReport = (m : Manager) (start : Beginning) (beats : List Placed) → start.by_fields ≡ false
    → (row : Row) → Contains (printed_rows m start beats) row → Contains (rows_in m beats) row

-- A beat of a capture stands in the lead-in of its channel.
abbrev pub IsInLeadIn : Manager → Beginning → List Placed → Placed → Type 0
IsInLeadIn m start before p =
    in_lead_in (readings_after (m.links p.link) (start.most p.link p.beat.chan) start.by_fields (before_on p.link p.beat.chan before)) ≡ true

-- A beat of a lead-in differs from its head, in the past followed by the capture.
abbrev pub DiffersInLeadIn : Manager → Beginning → List Placed → List Placed → Type 0
DiffersInLeadIn m start past beats = (earlier later : List Placed) × (p : Placed) × (beats ≡ earlier ++ p ∷ later) × IsInLeadIn m start (reverse earlier) p
    × Contains (rules_at m (reverse (past ++ earlier)) p) rule.U1

-- Where bursts are told by their fields: of any lawful past, a beat of a lead-in differs from its head, or each printed row is
-- a row of the past followed by the capture.
abbrev pub ToldRowsAreCertain : Type 0
ToldRowsAreCertain = (m : Manager) (past beats : List Placed) → IsLawful m past
    → DiffersInLeadIn m (told_bursts m) past beats ⊎ ((row : Row) → Contains (printed_rows m (told_bursts m) beats) row → Breaks m (past ++ beats) row)

-- The printed rules of a beat stand in the order of reports, each once.
abbrev pub PrintedRulesRise : Type 0
PrintedRulesRise = (m : Manager) (start : Beginning) (before : List Placed) (p : Placed) → IsStrictlySortedBy by_number (printed_rules m start before p)

-- A key that is known to be open was opened by a beat of the capture: a request by one of channel A with that source, a Release
-- by one of channel C, and a Grant by one of channel D with that sink. So no key but those of such beats need be looked at for
-- an Acquire, a Release or a Grant that is open on a block.
abbrev pub KnownKeysAreOfTheCapture : Type 0
KnownKeysAreOfTheCapture = (m : Manager) (start : Beginning) (before : List Placed) (link key : ℕ) →
    ((request : Request) → (known_pasts m start before link).flow.source key ≡ known (Some request) → Contains (map (λ (b : Beat). b.source) (before_on link chan.A before)) key)
    × ((request : Request) → (known_pasts m start before link).flow.release key ≡ known (Some request) → Contains (map (λ (b : Beat). b.source) (before_on link chan.C before)) key)
    × ((block : Option ℕ) → (known_pasts m start before link).client.granted key ≡ known (Some block) → Contains (map (λ (b : Beat). b.sink) (before_on link chan.D before)) key)
