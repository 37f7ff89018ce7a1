use Rattle.std.proofs.Common.{◌∙◌, sym, rules}
use Rattle.tl_topology.proofs.Declaring.{manager_declared}
use Rattle.tl_topology.proofs.topo.Topo.with_manager.Goals as goal

pub returns : goal.returns
returns c =
    manager_declared c.args.self c.self.inside.managers.entries c.self.inside.links.entries c.insert.new.self.entries c.args.manager c.args.line c.in-Some.exponent c.self.view_is
    (sym c.is_named.ensures ∙ c.if-is_named.false) (search rules) c.if-exponent-lt-LEAST_BLOCK.false (search rules) c.in_ok-insert.ensures.entries
