use Rattle.std.proofs.Common.{◌≡◌, ℕ, ◌≤◌, [], List, Some, refl, sym, ap, subst, ◌∙◌}
use Rattle.std.specs.Prelude.{slice_get}
use Rattle.std.proofs.lemmas.Option.{slice_get-map}
use Rattle.tl_topology.specs.Topology.{Topology, number_of_name}
use Rattle.tl_topology.specs.declared.LinkDecl.{LinkDecl}
use Rattle.tl_beats.specs.Fragments.{Frag}
use Rattle.tl_definitions.specs.Managers.{declared_links}
use Rattle.tl_client_rules.proofs.DeclaredLaws.{declared_is_client}
use Rattle.tl_pass.specs.Solo.{without_beats, HasFound}
use Rattle.tl_pass.proofs.SoloLaws.{no_beats_of, no_pieces}
use Rattle.tl_pass.proofs.solo.Solo.new.Goals as goal

pub returns-clause-begun : goal.returns-clause-begun
returns-clause-begun c =
    let topo : Topology = c.args.topo.now in
    let piece : Frag = c.args.piece.now in
    let link : ℕ = c.in-Some.link in
    let decl : LinkDecl = c.in-Some-link.decl.now in
    let at : slice_get (declared_links topo) link ≡ Some decl = slice_get-map (λ (p : List ℕ × LinkDecl). p.1) topo.links link ∙ sym c.in-Some-link.ensures.exact in (
      without_beats piece,
      record {
        named = ap (number_of_name topo.links) (sym c.link.ensures) ∙ sym c.link_of.ensures.exact ∙ c.in-Some.is;
        managed = c.in-Some-link.ensures.managed;
        client = declared_is_client decl.manager link (declared_links topo) decl at refl;
        number = sym c.number.ensures;
        first = sym c.first.ensures.exact;
        last = sym c.last.ensures.exact;
        own = no_beats_of link piece (subst (λ n. n ≤ piece.last) c.first.ensures.exact c.first.ensures.order);
        count = refl;
        newest = refl;
        found = subst (HasFound topo decl.manager link [] c.in_ok-left.left) (sym c.new.ensures.items) (c.in_ok-left.ensures link);
      },
      no_pieces piece,
    )
