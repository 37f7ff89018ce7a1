use Rattle.tl_rows.proofs.TellingLaws.{cycle_more}
use Rattle.tl_rows.proofs.telling.cycles_of.Goals as goal

pub loop-row-preserved : goal.loop-row-preserved
loop-row-preserved c cycle = cycle_more c.args.rows.now c.loop-row.row-index _ cycle _ _ c.loop-row-test.true (c.in_ok-insert.ensures.updates.0 cycle) (c.loop-row.invariant cycle)
