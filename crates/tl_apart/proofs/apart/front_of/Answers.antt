use Rattle.std.proofs.Common.{◌≡◌, ℕ, ◌≤◌, min, subst, arith}
use Rattle.std.proofs.lemmas.List.{take_all}
use Rattle.tl_apart.specs.Apart.{HaveComeTo}
use Rattle.tl_apart.proofs.FrontLaws.{come_more}
use Rattle.tl_apart.proofs.apart.front_of.Goals as goal

low_of_two : (next front own : ℕ) → next ≡ min front own → (next ≤ front) × (next ≤ own)
low_of_two next front own is = (omega (arith, is), omega (arith, is))

pub loop-client-preserved : goal.loop-client-preserved
loop-client-preserved c =
    let low = low_of_two c.min-front.result c.loop-client.front c.in_ok-end_of.field-0 c.min-front.ensures in
    come_more c.args.topo.now c.args.feeds.now c.args.clients.now c.loop-client.client-index c.loop-client.front c.in_ok-end_of.field-0 c.min-front.result c.loop-client-test.true c.loop-client.invariant
    c.in_ok-end_of.ensures low.0 low.1

pub returns : goal.returns
returns c = subst (λ links. HaveComeTo c.args.topo.now c.args.feeds.now links c.loop-client.front) (take_all c.loop-client.client-index c.args.clients.now c.loop-client-test.false) c.loop-client.invariant
