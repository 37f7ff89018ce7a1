-- Rows in any order.
use Rattle.std.specs.Prelude.{◌↔◌, List}
use Rattle.std.specs.List.{Contains}
use Rattle.tl_beats.specs.declared.Row.{Row}
use Rattle.tl_definitions.specs.Report.{Capture, FindsIn}

-- The rows are those of the captures, in any order and any number of times.
abbrev pub AreFound : List Capture → List Row → Type 0
AreFound captures rows = (row : Row) → Contains rows row ↔ FindsIn captures row
