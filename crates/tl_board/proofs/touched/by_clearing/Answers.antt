use Rattle.std.proofs.Common.{[], ◌∷◌, refl, subst, ◌∙◌}
use Rattle.tl_topology.specs.Topology.{Topology}
use Rattle.tl_definitions.specs.Positions.{beats_of, beats_of_all}
use Rattle.tl_edits.specs.Inputs.{InputData}
use Rattle.tl_capture.specs.Present.{IsPresent}
use Rattle.tl_capture.specs.Windows.{HasBeat, AreWindows}
use Rattle.tl_board.specs.Touched.{IsLinkOf}
use Rattle.tl_board.proofs.TouchedLemmas.{link_windows, on_link_exact}
use Rattle.tl_board.proofs.touched.by_clearing.Goals as goal

pub returns : goal.returns
returns c =
    let now : InputData = c.args.inputs.now in
    let is : IsLinkOf now.topo c.args.name.now c.in-Some.link c.in-Some.manager = subst (λ (t : Topology). IsLinkOf t c.args.name.now c.in-Some.link c.in-Some.manager) c.topo.ensures c.in-Some.ensures in
    let present : IsPresent now.fragments = subst IsPresent c.present.ensures c.kept.ensures.kept in
    record {
      exact = on_link_exact now.topo c.args.name.now c.in-Some.link c.in-Some.manager is (λ l window. HasBeat (beats_of l now.fragments) window) c.in_ok-windows.windows.items
          (link_windows now.fragments c.in-Some.link (c.in-Some.link ∷ []) c.in_ok-windows.windows.items present refl (subst (λ fs. AreWindows (beats_of_all (c.in-Some.link ∷ []) fs) c.in_ok-windows.windows.items) (c.kept.ensures.same ∙ c.present.ensures) c.in_ok-windows.ensures));
      sure = is.manages;
    }
