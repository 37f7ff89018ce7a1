use Rattle.tl_advice.proofs.TallyLaws.{first_next, first_all}
use Rattle.tl_advice.proofs.tallies.first_of.Goals as goal

pub loop-row-preserved : goal.loop-row-preserved
loop-row-preserved c =
    first_next c.args.rule c.args.rows.now c.loop-row.row-index _ c.loop-row.first c.first_with-first.result c.loop-row-test.true c.loop-row.invariant c.first_with-first.ensures

pub returns : goal.returns
returns c = first_all c.args.rule c.args.rows.now c.loop-row.row-index c.loop-row.first c.loop-row-test.false c.loop-row.invariant
