use Rattle.std.proofs.Common.{sym, ap, ◌∙◌}
use Rattle.std.specs.Option.{option_copied}
use Rattle.tl_topology.specs.declared.LinkDecl.{LinkDecl}
use Rattle.tl_check.proofs.PassLaws.{declared}
use Rattle.tl_pass.proofs.part.manager_of.Goals as goal

pub returns-in-Some : goal.returns-in-Some
returns-in-Some c = ap (λ (d : LinkDecl). d.manager) (declared c.args.topo.now c.args.link c.in-Some.decl.now (sym (ap option_copied c.in-Some.is) ∙ c.link.ensures.exact))
