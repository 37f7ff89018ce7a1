-- The rows of a report, each with its lines after it.
use Rattle.std.specs.Prelude.{ℕ, ◌≡◌, ◌+◌, ◌-◌, ◌==◌, ◌&&◌, Bool, true, false, List, [], ◌∷◌, ◌++◌, codes, Option, Some, None, if◌then◌else◌, find, length, take, drop, reverse, min, map, slice_index_or}
use Rattle.std.specs.Fmt.{decimal}
use Rattle.std.specs.List.{flat_map}
use Rattle.std.specs.Option.{option_map_or}
use Rattle.tl_tables.specs.Messages.{same_chan}
use Rattle.tl_tables.specs.Rules.{rule_number}
use Rattle.tl_topology.specs.Topology.{Topology}
use Rattle.tl_beats.specs.declared.Placed.{Placed}
use Rattle.tl_beats.specs.declared.Row.{Row}
use Rattle.tl_definitions.specs.Captures.{manager_beats}
use Rattle.tl_definitions.specs.Managers.{declared_links}
use Rattle.tl_definitions.specs.Positions.{Recorded, clients_of}
use Rattle.tl_definitions.specs.Rules.{Manager}
use Rattle.tl_rows.specs.Counts.{heads_after, AreOpen}
use Rattle.tl_rows.specs.States.{manager_with}
use Rattle.tl_rows.specs.Telling.{told_after}
use Rattle.tl_rows.specs.declared.telling.Told.{Told}
use Rattle.tl_check.specs.Output.{row_text}
use Rattle.tl_capture.specs.Windows.{AreWindows}
use Rattle.tl_rows.specs.Words.{joined}
use Rattle.tl_show.specs.Lines.{newline, told_lines_of}
use Rattle.tl_show.specs.declared.survey.Counts.{Counts}
use Rattle.tl_show.specs.declared.survey.Survey.{Survey}

-- It tells of this row.
abbrev pub same_monitor : Option ℕ → Option ℕ → Bool
same_monitor None None = true
same_monitor (Some monitor) (Some other) = monitor == other
same_monitor _ _ = false

abbrev pub is_of_beat : Row → Told → Bool
is_of_beat row told = ((told.row.link == row.link) && (told.row.cycle == row.cycle)) && same_chan told.row.chan row.chan

abbrev pub is_of_rule : Row → Told → Bool
is_of_rule row told = (rule_number told.row.rule == rule_number row.rule) && same_monitor told.row.monitor row.monitor

abbrev pub is_row : Row → Told → Bool
is_row row told = is_of_beat row told && is_of_rule row told

-- The lines after a row, and the row with them.
abbrev pub lines_for : Topology → List Told → Row → List ℕ
lines_for topo told row = option_map_or (told_lines_of topo) (find (is_row row) told) []

abbrev pub shown_row : Topology → List Told → Row → List ℕ
shown_row topo told row = row_text topo row ++ lines_for topo told row

unfoldable pub rest_line_of : ℕ → List ℕ
rest_line_of count = if count == 0 then [] else joined (codes "  rows that are not shown: " ∷ decimal count ∷ newline ∷ [])

unfoldable pub checked_text_of : Counts → List ℕ
checked_text_of counts = joined (codes "  checked: beats " ∷ decimal counts.beats ∷ codes ", heads " ∷ decimal counts.heads ∷ codes ", windows " ∷ decimal counts.windows ∷ [])

unfoldable pub asked_text_of : Counts → List ℕ
asked_text_of counts =
    joined (codes "; open: requests " ∷ decimal counts.still_open.requests ∷ codes ", Releases " ∷ decimal counts.still_open.releases ∷ codes ", Probes " ∷ decimal counts.still_open.probes ∷ [])

unfoldable pub given_text_of : Counts → List ℕ
given_text_of counts = joined (codes ", Grants " ∷ decimal counts.still_open.grants ∷ codes ", bursts " ∷ decimal counts.still_open.bursts ∷ newline ∷ [])

unfoldable pub counts_line_of : Counts → List ℕ
counts_line_of counts = joined (checked_text_of counts ∷ asked_text_of counts ∷ given_text_of counts ∷ [])

-- How many rows are shown.
abbrev pub shown_count : List Row → ℕ
shown_count rows = min (length rows) 1000

-- The first 1,000 rows with their lines, and the others without.
unfoldable pub shown_rows : Topology → List Told → List Row → List ℕ
shown_rows topo told rows = flat_map (shown_row topo told) (take (shown_count rows) rows) ++ flat_map (row_text topo) (drop (shown_count rows) rows)

-- The same after a first line, then how many are not shown, and how much was checked.
unfoldable pub shown_bytes : Topology → List ℕ → List Told → Counts → List Row → List ℕ
shown_bytes topo head told counts rows = joined (head ∷ shown_rows topo told rows ∷ rest_line_of (length rows - shown_count rows) ∷ counts_line_of counts ∷ [])

-- ---- what the beats tell

-- A manager of the topology without regions, which are no part of a reason.
abbrev pub manager_of : Topology → ℕ → Manager
manager_of topo manager = manager_with topo (slice_index_or (map (λ p. p.1) topo.managers) manager 0) (clients_of manager (declared_links topo))

-- What the beats of one manager tell of some rows.
abbrev pub told_in : Topology → List Recorded → List Row → ℕ → List Told
told_in topo fragments rows manager = told_after (manager_of topo manager) rows [] (manager_beats topo fragments manager)

-- Those of all managers, one after the other; from a number on.
abbrev pub told_from : {X : Type 0} → Topology → List Recorded → List Row → ℕ → List X → List Told
told_from topo fragments rows number [] = []
told_from topo fragments rows number (manager ∷ managers) = told_in topo fragments rows number ++ told_from topo fragments rows (number + 1) managers

abbrev pub told_of_all : Topology → List Recorded → List Row → List Told
told_of_all topo fragments rows = told_from topo fragments rows 0 topo.managers

-- What the beats of one manager tell of some rows, and how many beats, heads and windows they are, and how much is open.
pub record IsSurvey (topo : Topology) (fragments : List Recorded) (manager : ℕ) (rows : List Row) (survey : Survey) : Type 0 where
  pub told : survey.told.items ≡ told_in topo fragments rows manager
  pub beats : survey.counts.beats ≡ length (manager_beats topo fragments manager)
  pub heads : survey.counts.heads ≡ heads_after (manager_of topo manager).links [] (manager_beats topo fragments manager)
  pub windows : (windows : List ℕ) × AreWindows (manager_beats topo fragments manager) windows × (survey.counts.windows ≡ length windows)
  pub still_open : AreOpen (manager_of topo manager) (reverse (manager_beats topo fragments manager)) survey.counts.still_open

-- The text of rows after a first line: each of the first 1,000 with what the beats of these fragments tell of it.
abbrev pub IsShown : Topology → List Recorded → List ℕ → List Row → List ℕ → Type 0
IsShown topo fragments head rows text = (counts : Counts) × (text ≡ shown_bytes topo head (told_of_all topo fragments (take (shown_count rows) rows)) counts rows)
