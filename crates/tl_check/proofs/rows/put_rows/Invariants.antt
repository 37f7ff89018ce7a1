use Rattle.std.proofs.Common.{◌≡◌, ◌++◌, take, map}
use Rattle.tl_definitions.specs.Breaks.{row_of}
use Rattle.tl_check.proofs.rows.put_rows.Given as goal

abbrev pub invariant-loop-rule : goal.invariant-loop-rule
invariant-loop-rule l = l.rows.items ≡ l.fn.rows.items ++ map (row_of l.at) (take l.rule-index l.fn.rules)
