use Rattle.tl_advice.proofs.TallyLaws.{tallied_next, tallied_all}
use Rattle.tl_advice.proofs.tallies.tallies_of.Goals as goal

pub loop-rule-preserved : goal.loop-rule-preserved
loop-rule-preserved c linked =
    tallied_next c.args.topo.now c.args.rules.now c.loop-rule.rule-index _ c.args.rows.now c.loop-rule.tallies.items _ c.tally_of.result c.loop-rule-test.true (c.loop-rule.invariant linked) (c.tally_of.ensures linked)
    c.in_ok-push_found.ensures

pub returns : goal.returns
returns c linked = tallied_all c.args.topo.now c.args.rules.now c.loop-rule.rule-index c.args.rows.now c.loop-rule.tallies.items c.loop-rule-test.false (c.loop-rule.invariant linked)
