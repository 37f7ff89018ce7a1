use Rattle.std.proofs.Common.{◌+◌, ◌<◌, ℕ, List, length, get_or, ap, subst, ◌∙◌, arith}
use Rattle.std.specs.Prelude.{not}
use Rattle.std.specs.List.{Contains}
use Rattle.std.proofs.lemmas.List.{length-map}
use Rattle.std.proofs.lemmas.List.Elements.{Contains-get_or}
use Rattle.tl_topology.specs.declared.LinkDecl.{LinkDecl}
use Rattle.tl_definitions.specs.Managers.{declared_links}
use Rattle.tl_definitions.proofs.Lists.{kept_from}
use Rattle.tl_client_rules.proofs.ClientsLaws.{clients_below}
use Rattle.tl_check.specs.Managers.{has_caches, plain_links}
use Rattle.tl_check.proofs.PassLaws.{plain_each}
use Rattle.tl_check.proofs.managers.plain_links_of.Goals as goal

pub returns-clause-exact : goal.returns-clause-exact
returns-clause-exact c = c.in_ok-plain.ensures ∙ ap (plain_links c.args.topo.now) (c.deref.ensures.value ∙ c.in_ok-links.ensures)

pub returns-clause-plain : goal.returns-clause-plain
returns-clause-plain c k d below =
    let links : List ℕ = c.in_ok-plain.plain.items in
    plain_each c.args.topo.now c.deref.result.now (get_or links k d)
    (subst (λ ls. Contains ls (get_or links k d)) c.in_ok-plain.ensures (Contains-get_or links k d below))

pub returns-clause-within : goal.returns-clause-within
returns-clause-within c k d below =
    let topo = c.args.topo.now in
    let links : List ℕ = c.in_ok-plain.plain.items in
    let link : ℕ = get_or links k d in
    let kept = kept_from (λ link. not (has_caches topo link)) c.deref.result.now link
    (subst (λ ls. Contains ls link) c.in_ok-plain.ensures (Contains-get_or links k d below)) in
    let less : link < 0 + length (declared_links topo) =
    clients_below c.args.manager 0 (declared_links topo) link (subst (λ ls. Contains ls link) (c.deref.ensures.value ∙ c.in_ok-links.ensures) kept.0) in
    omega (arith, less, length-map topo.links (λ (p : List ℕ × LinkDecl). p.1))
