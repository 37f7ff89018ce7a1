use Rattle.std.proofs.Common.{◌≡◌, Some, sym, ap, ◌∙◌}
use Rattle.std.specs.Arc.{arc_value}
use Rattle.tl_topology.specs.Topology.{Topology, number_of_name}
use Rattle.tl_beats.specs.Fragments.{Frag}
use Rattle.tl_pass.proofs.link_pass.LinkPassPass.accept.Goals as goal

pub returns : goal.returns
returns c midway topo fs had =
    let f : Frag = arc_value c.args.fragment in
    let named : number_of_name topo.links f.link ≡ Some c.go_to.new.self.link =
    ap (λ (t : Topology). number_of_name t.links f.link) (sym (c.deref.ensures ∙ had.on)) ∙ ap (λ (g : Frag). number_of_name c.deref.result.now.links g.link) (sym c.deref-2.ensures)
    ∙ ap (number_of_name c.deref.result.now.links) (sym c.link.ensures) ∙ sym c.link_of.ensures.exact ∙ c.in-Some.is ∙ ap Some (sym c.in_ok-go_to.ensures.link) in
    (c.go_to.new.self.link, named, c.in_ok-put.ensures midway topo fs (c.in_ok-go_to.ensures.come midway topo fs had))
