use Rattle.tl_rows.specs.Counts.{IsOpenCount}
use Rattle.tl_rows.specs.States.{manager_with}
use Rattle.tl_rows.proofs.CountLaws.{total_next, total_all}
use Rattle.tl_rows.proofs.manager.ManagerOrigins.total.Goals as goal

pub returns : goal.returns
returns c exponent before stands =
    total_all (IsOpenCount (manager_with c.args.topo.now exponent c.args.clients.now) before c.args.opened) c.args.clients.now c.loop-client.client-index c.loop-client.total c.loop-client-test.false
    (c.loop-client.invariant exponent before stands)

pub loop-client-preserved : goal.loop-client-preserved
loop-client-preserved c exponent before stands =
    total_next (IsOpenCount (manager_with c.args.topo.now exponent c.args.clients.now) before c.args.opened) c.args.clients.now c.loop-client.client-index _ c.loop-client.total c.open_at-open.result
    c.in_ok-total.total c.loop-client-test.true (c.open_at-open.ensures exponent c.args.clients.now before stands) c.in_ok-total.ensures (c.loop-client.invariant exponent before stands)
