-- Streams of some managers' fragments, beside one of all.
use Rattle.std.specs.Prelude.{ℕ, ◌≡◌, ◌↔◌, List}
use Rattle.std.specs.List.{Contains}
use Rattle.std.specs.List.Sorted.{IsStrictlySortedBy}
use Rattle.tl_topology.specs.Regions.{Area}
use Rattle.tl_topology.specs.Topology.{Topology}
use Rattle.tl_beats.specs.declared.Row.{Row}
use Rattle.tl_definitions.specs.Positions.{Recorded}
use Rattle.tl_definitions.specs.Report.{row_order}
use Rattle.tl_capture.specs.Present.{IsPresent}
use Rattle.tl_check.specs.Captured.{areas_at}
use Rattle.tl_stream.specs.Laws.{IsTold}
use Rattle.tl_formats.specs.Parts.{Share, own_fragments, own_rows}

-- The rows are those that a stream of these fragments tells, in the order of reports.
pub record AreTold (topo : Topology) (fragments : List Recorded) (regions : List (List (ℕ × Area))) (rows : List Row) : Type 0 where
  pub present : IsPresent fragments
  pub rises : IsStrictlySortedBy row_order rows
  pub members : (row : Row) → Contains rows row ↔ IsTold topo (areas_at regions) fragments row

-- What a stream of a share's fragments tells are exactly those rows of what one of all fragments tells that are of its links.
abbrev pub StreamsAreApart : Type 0
StreamsAreApart = (topo : Topology) (fragments : List Recorded) (regions : List (List (ℕ × Area))) (share : Share) (whole part : List Row)
    → AreTold topo fragments regions whole → AreTold topo (own_fragments topo share fragments) regions part → part ≡ own_rows topo share whole
