use Rattle.tl_apart.proofs.GoesLaws.{one_judged}
use Rattle.tl_apart.proofs.apart.Apart.judge_to.Goals as goal

pub loop-link-preserved : goal.loop-link-preserved
loop-link-preserved c topo fs judged is low =
    let had = c.loop-link.invariant topo fs judged is low in
    let next = c.in-Some.ensures.next topo fs had.0 had.1.is low in
    one_judged topo fs c.args.manager c.args.until judged c.args.self.now had.0 c.loop-link.self c.judge_next.new.self c.in-Some.link had.1 next
    (c.in_ok-judge_next.ensures.next topo fs had.0 had.1.is low next.0)

pub returns : goal.returns
returns c = record {
  on = λ topo fs judged is low. (let had = c.loop-link.invariant topo fs judged is low in (had.0, had.1, c.in_default.ensures.next topo fs had.0 had.1.is low));
}
