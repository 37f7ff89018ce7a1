use Rattle.std.proofs.Common.{◌≡◌, Some, subst, rules}
use Rattle.tl_topology.specs.Topology.{Topology}
use Rattle.tl_beats.specs.Fragments.{Frag}
use Rattle.tl_edits.specs.Inputs.{InputData}
use Rattle.tl_capture.specs.Present.{recorded, numbered}
use Rattle.tl_board.specs.Touch.{StandsIn}
use Rattle.tl_board.specs.Touched.{IsLinkOf}
use Rattle.tl_board.proofs.TouchedLemmas.{standing_windows, on_link_exact}
use Rattle.tl_board.proofs.touched.by_withdrawing.Goals as goal

pub returns : goal.returns
returns c =
    let now : InputData = c.args.inputs.now in
    let is : IsLinkOf now.topo c.args.name.now c.in-Some.link c.in-Some.manager = subst (λ (t : Topology). IsLinkOf t c.args.name.now c.in-Some.link c.in-Some.manager) c.topo.ensures c.in-Some.ensures in
    let fragment : Frag = c.deref.result.now in
    let at : numbered c.in-Some.link c.args.number now.fragments ≡ Some (recorded c.in-Some.link fragment) = search rules in
    record {
      exact = on_link_exact now.topo c.args.name.now c.in-Some.link c.in-Some.manager is (λ l window. StandsIn now.fragments c.args.number window l) c.in_ok-windows.windows.items
          (standing_windows now.fragments c.in-Some.link c.args.number fragment c.in_ok-windows.windows.items at c.in_ok-windows.ensures);
      sure = is.manages;
    }
