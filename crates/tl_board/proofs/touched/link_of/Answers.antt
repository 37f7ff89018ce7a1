use Rattle.std.proofs.Common.{sym, ap, subst, ◌∙◌}
use Rattle.std.proofs.Common.{Bor, ◌<◌, length}
use Rattle.tl_topology.specs.declared.LinkDecl.{LinkDecl}
use Rattle.std.specs.Option.{IfSome, option_copied}
use Rattle.tl_board.proofs.TouchedLemmas.{is_link_of}
use Rattle.tl_board.proofs.touched.link_of.Goals as goal

pub returns : goal.returns
returns c =
    is_link_of c.args.topo.now c.args.name.now c.in_ok-number.number c.unwrap-link.result.now (sym c.in_ok-number.ensures.exact) (sym c.link.ensures.exact ∙ ap option_copied c.unwrap-link.ensures)
    (subst (λ found. IfSome found (λ (d : Bor LinkDecl). d.now.manager < length c.args.topo.now.managers)) c.unwrap-link.ensures c.link.ensures.managed)
