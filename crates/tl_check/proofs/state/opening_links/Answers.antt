use Rattle.std.proofs.Common.{length, arith, sym, ap, subst, length-append}
use Rattle.std.specs.List.{AllByRecursion}
use Rattle.tl_check.specs.Links.{IsOpening}
use Rattle.tl_check.proofs.ListLaws.{all_more}
use Rattle.tl_check.proofs.state.opening_links.Goals as goal

pub loop-preserved : goal.loop-preserved
loop-preserved c = record {
  count = let e = simp length-append at (ap length c.in_ok-push.ensures.items) in omega (arith, e, c.loop.invariant.count);
  each = subst (AllByRecursion IsOpening) (sym c.in_ok-push.ensures.items) (all_more IsOpening c.loop.links.items c.new.result c.loop.invariant.each c.new.ensures);
}
