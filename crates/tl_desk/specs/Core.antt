-- A desk as plain data.
use Rattle.std.specs.Prelude.{ℕ, zero, suc, ◌≡◌, ◌<◌, ◌≤◌, ◌-◌, true, List, [], ◌∷◌, length, take, Option, None, slice_get, is_some}
use Rattle.std.specs.List.{All, AllByRecursion}
use Rattle.tl_beats.specs.declared.Row.{Row}
use Rattle.tl_monitor.specs.Boxes.{BoxesData, IsBoxes, place_at, away_at, attached_watch}
use Rattle.tl_definitions.specs.Report.{IsReport}
use Rattle.tl_topology.specs.Topology.{Topology}
use Rattle.tl_edits.specs.Inputs.{InputData, watch_at, was_attached}
use Rattle.tl_edits.specs.Log.{LogData, inputs_after}
use Rattle.tl_pieces.specs.Pieces.{IsBoard, IsSettled}
use Rattle.tl_check.specs.Captured.{captures_after}
use Rattle.tl_check.specs.Output.{ReportData}
use Rattle.tl_board.specs.Spans as spans
use Rattle.tl_check.specs.States.{SameSpan}
use Rattle.tl_board.specs.Tally.{SameTally}
use Rattle.tl_board.specs.Watches.{WatchesData, AreWatches}
use Rattle.tl_desk.specs.TicketData.{TicketsData}
use Rattle.tl_desk.specs.Ends.{HaveEnded}
use Rattle.tl_desk.specs.Tickets.{HoldsTickets}

-- The log of edits with the windows, the monitors with what they told, all reports, the oldest first, and the tickets that are out.
pub record Core : Type 0 where
  pub windows : WatchesData
  pub boxes : BoxesData
  pub reports : List ReportData
  pub tickets : TicketsData

-- the log, and what it leaves
abbrev pub log_of : Core → LogData
log_of core = core.windows.spans.log

abbrev pub standing : Core → InputData
standing core = spans.standing core.windows.spans

-- The topology has the links of the rows.
abbrev pub AreLinked : Topology → List Row → Type 0
AreLinked topo rows = All (λ row. row.link < length topo.links) rows

-- The report speaks of so many edits of the log, and its rows are those that the definitions find in what these leave.
abbrev pub IsOf : LogData → ReportData → Type 0
IsOf log report = (report.edit ≤ length log.edits) × IsReport (captures_after (inputs_after log.topo (take report.edit log.edits))) report.rows × AreLinked log.topo report.rows

-- The report names a number of edits of the log, and its rows are exactly those that the definitions find in what these leave.
abbrev pub IsOfEdits : LogData → ReportData → Type 0
IsOfEdits log report = (report.edit ≤ length log.edits) × IsReport (captures_after (inputs_after log.topo (take report.edit log.edits))) report.rows

-- The versions are these numbers, one after the other.
abbrev pub AreVersions : ℕ → List ReportData → Type 0
AreVersions from [] = Unit {0}
AreVersions from (report ∷ reports) = (report.version ≡ from) × AreVersions (suc from) reports

-- The monitors, here or out, that were not detached are those that are attached, each with its watch.
abbrev pub AreAttached : InputData → BoxesData → Type 0
AreAttached now boxes = (number : ℕ) → attached_watch number boxes ≡ watch_at number now.monitors

-- Each monitor, here or out, was attached once, under a number of 32 bits.
abbrev pub AreKnown : InputData → BoxesData → Type 0
AreKnown now boxes = (number : ℕ) → is_some (place_at number boxes.slots) ≡ true → (was_attached number now.monitors ≡ true) × (number < 4294967296)

-- Numbers of monitors have 32 bits.
abbrev pub HaveNumbers : BoxesData → Type 0
HaveNumbers boxes = (number : ℕ) → is_some (place_at number boxes.slots) ≡ true → number < 4294967296

-- No monitor is out.
abbrev pub AllHere : BoxesData → Type 0
AllHere boxes = (number : ℕ) → away_at number boxes.slots ≡ None

-- As many reports as are published in all.
abbrev pub most_versions : ℕ
most_versions = 65536

-- What every desk keeps: its monitors are those that are attached, each of its reports is that of its edits, each live ticket is out for
-- its window, which is since then what it was, each monitor that is out is so under one ticket that is out, and each that ended told
-- once what it had just before its end.
pub record IsSound (core : Core) : Type 0 where
  pub attached : AreAttached (standing core) core.boxes
  pub known : AreKnown (standing core) core.boxes
  pub reports : AllByRecursion (IsOf (log_of core)) core.reports
  pub versions : AreVersions 1 core.reports
  pub few : length core.reports ≤ most_versions
  pub tickets : HoldsTickets (log_of core) core.windows.spans.board core.windows.board core.boxes core.tickets
  pub ends : HaveEnded (log_of core) core.boxes

-- What is true of every desk: what it keeps, and what its windows and its monitors keep. Its managers and the monitors that are attached open as
-- the topology and the watches say, a window is there exactly where it has a beat, and each result that is stored is the pass of its window.
pub record IsDesk (core : Core) : Type 0 where
  pub kept : IsSound core
  pub managers : spans.IsSound core.windows.spans
  pub monitors : AreWatches (standing core) core.windows.board
  pub manager_keys : IsBoard core.windows.spans.board
  pub monitor_keys : IsBoard core.windows.board
  pub boxes : IsBoxes core.boxes

-- the last report, and the one of a version
abbrev pub latest_of : List ReportData → Option ReportData
latest_of reports = slice_get reports (length reports - 1)

abbrev pub report_of : ℕ → List ReportData → Option ReportData
report_of zero reports = None
report_of (suc version) reports = slice_get reports version

-- All windows are settled, of managers and of monitors: each has a result, and begins with what the one before it ended with.
abbrev pub AllSettled : Core → Type 0
AllSettled core = IsSettled SameSpan core.windows.spans.board × IsSettled SameTally core.windows.board

-- Nothing was edited, attached, published or given out.
pub record IsNew (topo : Topology) (core : Core) : Type 0 where
  pub log : log_of core ≡ record { topo = topo; edits = [] }
  pub spans : core.windows.spans.board.pieces ≡ []
  pub watches : core.windows.board ≡ record { openings = []; pieces = [] }
  pub boxes : core.boxes ≡ record { slots = []; ended = [] }
  pub reports : core.reports ≡ []
  pub tickets : core.tickets ≡ record { out = []; last = 0 }
