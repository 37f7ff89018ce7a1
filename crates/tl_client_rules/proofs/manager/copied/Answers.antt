use Rattle.std.proofs.Common.{rules}
use Rattle.tl_client_rules.specs.Client.{SameClient}
use Rattle.tl_client_rules.proofs.SameLaws.{pushed_same}
use Rattle.tl_client_rules.proofs.manager.copied.Goals as goal

pub loop-state-preserved : goal.loop-state-preserved
loop-state-preserved c = record {
  count = search rules;
  each = pushed_same SameClient c.args.states.now c.loop-state.copy.items c.push.new.self.items c.loop-state.state-index c.state-item.result c.in_ok-copy.field-0 (search rules) (search rules) c.loop-state-test.true (search rules) c.in_ok-copy.ensures c.loop-state.invariant.each;
}
