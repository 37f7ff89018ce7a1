use Rattle.std.proofs.Common.{◌≡◌, ◌⊎◌, ◌++◌, Some, None, ap, subst, ◌∙◌, rules}
use Rattle.tl_topology.specs.Topology.{Topology}
use Rattle.tl_beats.specs.Fragments.{Frag}
use Rattle.tl_definitions.specs.Positions.{placed_beats}
use Rattle.tl_edits.specs.Inputs.{InputData}
use Rattle.tl_capture.specs.Present.{recorded, numbered}
use Rattle.tl_capture.specs.Windows.{HasBeat}
use Rattle.tl_board.specs.Touch.{StandsIn}
use Rattle.tl_board.specs.Touched.{IsLinkOf}
use Rattle.tl_board.proofs.TouchedLemmas.{both_windows, new_windows, on_link_exact}
use Rattle.tl_board.proofs.touched.by_replacing.Goals as goal

pub returns-in_default-get : goal.returns-in_default-get
returns-in_default-get c =
    let now : InputData = c.args.inputs.now in
    let f : Frag = c.args.fragment.now in
    let is : IsLinkOf now.topo f.link c.in-Some.link c.in-Some.manager = subst (λ (t : Topology). IsLinkOf t f.link c.in-Some.link c.in-Some.manager) c.topo.ensures
    (subst (λ n. IsLinkOf c.topo.result.now n c.in-Some.link c.in-Some.manager) c.link.ensures c.in-Some.ensures) in
    let none : numbered c.in-Some.link f.number now.fragments ≡ None = search rules in
    record {
      exact = on_link_exact now.topo f.link c.in-Some.link c.in-Some.manager is (λ l window. HasBeat (placed_beats (recorded l f)) window ⊎ StandsIn now.fragments f.number window l) c.in_ok-windows.windows.items
          (new_windows now.fragments c.in-Some.link f c.in_ok-windows.windows.items c.in_ok-windows.ensures none);
      sure = is.manages;
    }

pub returns : goal.returns
returns c =
    let now : InputData = c.args.inputs.now in
    let f : Frag = c.args.fragment.now in
    let is : IsLinkOf now.topo f.link c.in-Some.link c.in-Some.manager = subst (λ (t : Topology). IsLinkOf t f.link c.in-Some.link c.in-Some.manager) c.topo.ensures
    (subst (λ n. IsLinkOf c.topo.result.now n c.in-Some.link c.in-Some.manager) c.link.ensures c.in-Some.ensures) in
    let before : Frag = c.deref.result.now in
    let at : numbered c.in-Some.link f.number now.fragments ≡ Some (recorded c.in-Some.link before) = search rules in
    record {
      exact = on_link_exact now.topo f.link c.in-Some.link c.in-Some.manager is (λ l window. HasBeat (placed_beats (recorded l f)) window ⊎ StandsIn now.fragments f.number window l) c.extend_from_slice.new.self.items
          (both_windows now.fragments c.in-Some.link f before c.in_ok-windows.windows.items c.in_ok-old.old.items c.extend_from_slice.new.self.items c.in_ok-windows.ensures at c.in_ok-old.ensures
          (c.in_ok-extend_from_slice.ensures.items ∙ ap (λ ws. c.in_ok-windows.windows.items ++ ws) c.deref-2.ensures.value));
      sure = is.manages;
    }
