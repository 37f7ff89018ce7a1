use Rattle.std.proofs.Common.{take}
use Rattle.std.specs.Prelude.{string_bytes}
use Rattle.std.specs.List.{flat_map}
use Rattle.tl_check.specs.Notes.{IsNoted}
use Rattle.tl_check.specs.Output.{row_text}
use Rattle.tl_show.proofs.streaming.ShownStreamRowForm.rows.Given as goal

abbrev pub invariant-loop-index : goal.invariant-loop-index
invariant-loop-index l = IsNoted (flat_map (row_text l.topo) (take l.index l.rows)) (string_bytes l.text)
