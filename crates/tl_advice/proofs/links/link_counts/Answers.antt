use Rattle.std.proofs.Common.{◌≡◌, ◌+◌, ◌≤◌, ◌∷◌, ◌++◌, [], length, length-append, sym, ap, subst, arith}
use Rattle.tl_advice.specs.LinkCounts.{IsCountOf, AreInOrder}
use Rattle.tl_advice.proofs.CountLaws.{each_more}
use Rattle.tl_advice.proofs.links.link_counts.Goals as goal

pub loop-link-preserved : goal.loop-link-preserved
loop-link-preserved c =
    let topo = c.args.topo.now in
    let fragments = c.args.present.now in
    let counts = c.loop-link.counts.items in
    let own = c.in_ok-count.count in
    let is : c.push.new.self.items ≡ counts ++ own ∷ [] = c.in_ok-push.ensures.items in
    let more : length (counts ++ own ∷ []) ≡ length counts + length (own ∷ []) = length-append counts (own ∷ []) in
    let so_far : length counts ≡ c.loop-link.link = c.loop-link.invariant.so_far in
    let long : length c.push.new.self.items ≡ length (counts ++ own ∷ []) = ap length is in
    record {
      so_far = omega (arith, long, more, so_far);
      each = subst (AreInOrder topo fragments) (sym is)
          (each_more (λ link count. IsCountOf topo fragments link count) counts own c.loop-link.invariant.each (subst (λ link. IsCountOf topo fragments link own) (sym so_far) c.in_ok-count.ensures));
    }

pub returns : goal.returns
returns c =
    let end : c.link_count-link-end.result ≡ length c.args.topo.now.links = c.link_count-link-end.ensures.count in
    let past : c.link_count-link-end.result ≤ c.loop-link.link = c.loop-link-test.false in
    let within : c.loop-link.link ≤ c.link_count-link-end.result = c.loop-link.auto.link-end in
    record {
      all = (let so_far = c.loop-link.invariant.so_far in omega (arith, so_far, end, past, within));
      each = c.loop-link.invariant.each;
    }
