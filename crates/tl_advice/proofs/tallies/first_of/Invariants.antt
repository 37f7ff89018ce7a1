use Rattle.std.proofs.Common.{take}
use Rattle.tl_advice.specs.Tallies.{IsFirst}
use Rattle.tl_advice.proofs.tallies.first_of.Given as goal

-- the first of the rows so far
abbrev pub invariant-loop-row : goal.invariant-loop-row
invariant-loop-row l = IsFirst l.rule (take l.row-index l.rows) l.first
