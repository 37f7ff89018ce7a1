use Rattle.std.proofs.Common.{[], length, arith, sym, ap, subst, length-append}
use Rattle.std.specs.List.{AllByRecursion}
use Rattle.tl_client_rules.specs.Client.{StandsFor}
use Rattle.tl_client_rules.proofs.ManagerLaws.{all_more}
use Rattle.tl_client_rules.proofs.manager.opening_states.Goals as goal

pub loop-preserved : goal.loop-preserved
loop-preserved c = record {
  count = let e = simp length-append at (ap length c.in_ok-push.ensures.items) in omega (arith, e, c.loop.invariant.count);
  each = subst (AllByRecursion (λ state. StandsFor c.args.exponent state [])) (sym c.in_ok-push.ensures.items)
      (all_more (λ state. StandsFor c.args.exponent state []) c.loop.states.items c.new.result c.loop.invariant.each c.new.ensures);
}
