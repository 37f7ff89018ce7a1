use Rattle.std.proofs.Common.{length, get_or, arith, sym, ap, subst, length-append}
use Rattle.tl_check.specs.Links.{SameLink}
use Rattle.tl_check.proofs.ListLaws.{same_more, same_item}
use Rattle.tl_check.proofs.state.copied_links.Goals as goal

pub loop-link-preserved : goal.loop-link-preserved
loop-link-preserved c = record {
  count = let e = simp length-append at (ap length c.in_ok-push.ensures.items) in omega (arith, e, c.loop-link.invariant.count);
  each = λ n d below. subst (λ copies. SameLink (get_or c.args.links.now n d) (get_or copies n d)) (sym c.in_ok-push.ensures.items)
      (same_more SameLink c.args.links.now c.loop-link.copies.items c.link-item.result c.in_ok-copy.field-0 c.loop-link.link-index c.loop-link.invariant.count
      (λ e. same_item c.args.links.now c.loop-link.link-index c.link-item.result e c.loop-link-test.true c.link-item.is) c.in_ok-copy.ensures c.loop-link.invariant.each n d below);
}
