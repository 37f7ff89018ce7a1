use Rattle.std.proofs.Common.{◌≡◌, ℕ, ◌<◌, ◌++◌, List, length, Some, refl, sym, ap, subst, ◌∙◌}
use Rattle.std.specs.Prelude.{slice_get, IfSome}
use Rattle.std.specs.Arc.{arc_value}
use Rattle.std.specs.Option.{option_map, option_copied}
use Rattle.std.proofs.lemmas.Option.{slice_get-map}
use Rattle.tl_topology.specs.Topology.{Topology, number_of_name}
use Rattle.tl_topology.specs.declared.LinkDecl.{LinkDecl}
use Rattle.tl_beats.specs.Fragments.{Frag}
use Rattle.tl_beats.specs.declared.Row.{Row}
use Rattle.tl_definitions.specs.Managers.{declared_links}
use Rattle.tl_client_rules.proofs.DeclaredLaws.{declared_is_client}
use Rattle.tl_capture.specs.Present.{recorded, put_in}
use Rattle.tl_stream.specs.Streams.{StreamData, Accepts, IsOn}
use Rattle.tl_pass.specs.ManagerPass.{HasTold}
use Rattle.tl_pass.proofs.ManagerPassLaws.{told_more}
use Rattle.tl_pass.proofs.manager_pass.ManagerPassPass.accept.Goals as goal

one_number : (a b : ℕ) → Some a ≡ Some b → a ≡ b
one_number a b e = cc

pub returns : goal.returns
returns c midway topo fs had =
    let old : StreamData = c.args.self.now.stream in
    let f : Frag = arc_value c.args.fragment in
    let rows : List Row = c.args.self.now.rows.items in
    let is : Accepts fs old f c.accept.new.self c.in_ok-rows.rows.items = c.in_ok-rows.ensures.ok fs had.2.accepted in
    let link : ℕ = c.in-Some.link in
    let decl : LinkDecl = c.unwrap.result.now in
    let named : number_of_name old.topo.links f.link ≡ Some link =
    ap (λ (t : Topology). number_of_name t.links f.link) (sym c.topo-topo.ensures) ∙ ap (λ (g : Frag). number_of_name c.topo-topo.result.now.links g.link) (sym c.deref.ensures)
    ∙ ap (number_of_name c.topo-topo.result.now.links) (sym c.link.ensures) ∙ sym c.link_of.ensures.exact ∙ c.in-Some.is in
    let same : link ≡ is.link = one_number link is.link (sym named ∙ is.named) in
    let declared : slice_get (declared_links old.topo) link ≡ Some decl =
    slice_get-map (λ p. p.1) old.topo.links link ∙ ap (λ (t : Topology). option_map (λ (p : List ℕ × LinkDecl). p.1) (slice_get t.links link)) (sym c.topo-topo.ensures)
    ∙ sym c.link-2.ensures.exact ∙ ap option_copied c.unwrap.ensures in
    let managed : decl.manager < length c.topo-topo.result.now.managers = subst (λ o. IfSome o (λ l. l.now.manager < length c.topo-topo.result.now.managers)) c.unwrap.ensures c.link-2.ensures.managed in
    let below : decl.manager < length old.topo.managers = subst (λ (t : Topology). decl.manager < length t.managers) c.topo-topo.ensures managed in
    let on : IsOn old.topo is.link decl.manager = subst (λ l. IsOn old.topo l decl.manager) same (declared_is_client decl.manager link (declared_links old.topo) decl declared refl) in
    let items = c.in_ok-extend_from_slice.ensures.items ∙ ap (λ rs. rows ++ rs) c.deref-2.ensures.value in (
      is.link,
      subst (λ (t : Topology). number_of_name t.links f.link ≡ Some is.link) had.1 is.named,
      (
        is.midway ∙ had.0,
        is.topo ∙ had.1,
        subst (λ rs. HasTold (put_in (recorded is.link f) fs) c.accept.new.self rs) (sym items)
            (told_more fs old f c.accept.new.self c.in_ok-rows.rows.items rows had.2 is decl.manager below on),
      ),
    )
