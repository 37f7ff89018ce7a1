use Rattle.std.proofs.Common.{subst}
use Rattle.tl_topology.specs.Topology.{Topology}
use Rattle.tl_definitions.specs.Positions.{placed_beats}
use Rattle.tl_capture.specs.Present.{recorded}
use Rattle.tl_capture.specs.Windows.{HasBeat}
use Rattle.tl_board.specs.Touched.{IsLinkOf}
use Rattle.tl_board.proofs.TouchedLemmas.{own_windows, on_link_exact}
use Rattle.tl_board.proofs.touched.by_adding.Goals as goal

pub returns : goal.returns
returns c =
    let is : IsLinkOf c.args.inputs.now.topo c.args.fragment.now.link c.in-Some.field-0-0 c.in-Some.manager =
    subst (λ (t : Topology). IsLinkOf t c.args.fragment.now.link c.in-Some.field-0-0 c.in-Some.manager) c.topo.ensures
    (subst (λ n. IsLinkOf c.topo.result.now n c.in-Some.field-0-0 c.in-Some.manager) c.link.ensures c.in-Some.ensures) in
    record {
      exact = on_link_exact c.args.inputs.now.topo c.args.fragment.now.link c.in-Some.field-0-0 c.in-Some.manager is (λ l window. HasBeat (placed_beats (recorded l c.args.fragment.now)) window) c.in_ok-windows.windows.items
          (own_windows c.args.fragment.now c.in_ok-windows.windows.items c.in_ok-windows.ensures c.in-Some.field-0-0);
      sure = is.manages;
    }
