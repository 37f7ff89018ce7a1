-- The text of rows.
use Rattle.std.specs.Prelude.{◌≡◌, ℕ, List}
use Rattle.tl_topology.specs.Topology.{Topology}
use Rattle.tl_beats.specs.declared.Row.{Row}
use Rattle.tl_check.specs.Output.{report_bytes, audit_bytes}
use Rattle.tl_rows.specs.declared.format.Format.{Format}
use Rattle.tl_rows.specs.declared.format.Format.TheVariants as format
use Rattle.tl_formats.specs.declared.output.Title.{Title}
use Rattle.tl_formats.specs.declared.output.Title.TheVariants as title

-- The rows under the line that they stand under, which counts them.
abbrev pub text_under : Topology → Title → List Row → List ℕ
text_under topo (title.Report version edit) rows = report_bytes topo (record { version = version; edit = edit; rows = rows })
text_under topo (title.Audit edit) rows = audit_bytes topo edit rows

-- What is written of rows as text are these bytes.
abbrev pub IsPrinted : Format → Topology → Title → List Row → List ℕ → Type 0
IsPrinted format.Text topo head rows bytes = bytes ≡ text_under topo head rows
IsPrinted format.Shown topo head rows bytes = Unit {0}
IsPrinted format.Json topo head rows bytes = Unit {0}
IsPrinted format.Junit topo head rows bytes = Unit {0}
IsPrinted format.Html topo head rows bytes = Unit {0}
