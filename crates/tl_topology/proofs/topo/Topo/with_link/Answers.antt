use Rattle.std.proofs.Common.{◌<◌, ◌∙◌, ap, length, subst, sym, rules}
use Rattle.tl_text.specs.Names.{is_name}
use Rattle.tl_topology.specs.Topology.{Topology}
use Rattle.tl_topology.proofs.Declaring.{link_declared, topology_with_link}
use Rattle.tl_topology.proofs.topo.Topo.with_link.Goals as goal

pub invariant_of-self : goal.invariant_of-self
invariant_of-self c =
    let named : c.in-Some.manager < length c.args.self.managers = search rules in
    let managed : c.in_ok-decl.decl.manager < length c.args.self.managers = subst (λ m. m < length c.args.self.managers) (sym c.in_ok-decl.ensures.managed) named in
    topology_with_link c.self.inside.managers.entries c.self.inside.links.entries c.insert.new.self.entries c.args.self c.args.link.name _ c.self.view_is
    (sym c.is_named.ensures ∙ c.if-is_named.false) c.self.invariant (search rules) (ap is_name c.in_ok-decl.ensures.named ∙ c.requires.named)
    (subst (λ (t : Topology). c.in_ok-decl.decl.manager < length t.managers) (sym c.self.view_is) managed) (search rules) c.in_ok-insert.ensures.entries

pub returns : goal.returns
returns c =
    link_declared c.args.self c.self.inside.managers.entries c.self.inside.links.entries c.insert.new.self.entries c.args.link c.args.line (c.in-Some.manager, c.in-Some.exponent) c.in_ok-decl.decl c.self.view_is
    (sym c.is_named.ensures ∙ c.if-is_named.false) (search rules) (sym c.in_ok-decl.ensures.exact) (search rules) c.in_ok-insert.ensures.entries
