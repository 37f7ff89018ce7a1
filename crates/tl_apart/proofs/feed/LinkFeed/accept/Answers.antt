use Rattle.std.proofs.Common.{◌≡◌, ℕ, ◌<◌, ◌++◌, List, Some, length, refl, sym, ap, subst, ◌∙◌, arith}
use Rattle.std.specs.Prelude.{slice_get}
use Rattle.std.specs.Option.{option_map}
use Rattle.std.specs.List.{Contains}
use Rattle.std.proofs.lemmas.Bool.Decides.{nat_tests}
use Rattle.std.proofs.lemmas.Option.{slice_get-map}
use Rattle.tl_topology.specs.Regions.{areas_of}
use Rattle.tl_topology.specs.Topology.{Topology, number_of_name}
use Rattle.tl_topology.specs.declared.LinkDecl.{LinkDecl}
use Rattle.tl_beats.specs.Fragments.{Frag}
use Rattle.tl_beats.specs.declared.Placed.{Placed}
use Rattle.tl_definitions.specs.Events.{link_events}
use Rattle.tl_definitions.specs.LinkPasses.{LinkSnapshot, link_judging}
use Rattle.tl_definitions.specs.Managers.{declared_links}
use Rattle.tl_definitions.specs.Passes.{rows_judged, left_after}
use Rattle.tl_definitions.specs.Positions.{placed_beats}
use Rattle.tl_definitions.specs.Rules.{Manager}
use Rattle.tl_capture.specs.Present.{recorded}
use Rattle.tl_client_rules.proofs.DeclaredLaws.{declared_is_client}
use Rattle.tl_check.specs.States.{Serves}
use Rattle.tl_check.proofs.PassLaws.{declared, block_is}
use Rattle.tl_apart.specs.Apart.{manager_of}
use Rattle.tl_apart.specs.LinkJudge.{Shows}
use Rattle.tl_apart.specs.Told.{bare, clients}
use Rattle.tl_apart.proofs.feed.LinkFeed.accept.Goals as goal

pub returns : goal.returns
returns c =
    let topo : Topology = c.args.topo.now in
    let link : ℕ = c.args.link in
    let f : Frag = c.args.fragment.now in
    let decl : LinkDecl = c.in-Some-link.decl.now in
    let k : ℕ = decl.manager in
    let exponent : ℕ = c.in-Some-block.exponent in
    let old = c.args.self.now in
    let new = c.take.new.self in
    let beats : List Placed = placed_beats (recorded link f) in
    let m : Manager = bare topo k in
    let same : c.in-Some.own ≡ link = (let test = c.if-own-link.false in grind (arith, nat_tests)) in
    let found : Some decl ≡ option_map (λ (p : List ℕ × LinkDecl). p.1) (slice_get topo.links link) = c.in-Some-link.ensures.exact in
    let at : slice_get (declared_links topo) link ≡ Some decl = slice_get-map (λ (p : List ℕ × LinkDecl). p.1) topo.links link ∙ sym found in
    let of : manager_of topo link ≡ k = ap (λ (d : LinkDecl). d.manager) (sym (declared topo link decl found)) in
    let block : exponent ≡ m.exponent = block_is topo k exponent (sym c.in-Some-block.is ∙ c.block.ensures) in
    let serves : Serves m link decl exponent (areas_of c.new-none.result) = record {
      declared = sym (declared topo link decl found);
      block = sym block;
      regions = ap areas_of (sym c.new-none.ensures);
    } in
    let given : (s : LinkSnapshot) → Shows (bare topo (manager_of topo link)).exponent old.judge s → Shows exponent old.judge s =
    λ s was. subst (λ e. Shows e old.judge s) (sym block) (subst (λ j. Shows (bare topo j).exponent old.judge s) of was) in
    record {
      named = ap (number_of_name topo.links) (sym c.link.ensures) ∙ sym c.link_of.ensures.exact ∙ c.in-Some.is ∙ ap Some same;
      managed = subst (λ j. j < length topo.managers) (sym of) c.in-Some-link.ensures.managed;
      client = subst (λ j. Contains (clients topo j) link) (sym of) (declared_is_client k link (declared_links topo) decl at refl);
      own = c.in_ok-take.ensures.capture;
      late = sym c.is_before.ensures ∙ c.if-not-is_before.false;
      shows = λ s was. subst (λ j. Shows (bare topo j).exponent new.judge (left_after (link_judging (bare topo j)) s beats)) (sym of)
          (subst (λ e. Shows e new.judge (left_after (link_judging m) s beats)) block (c.in_ok-take.ensures.next m s serves (given s was)));
      waits = λ s was. subst (λ j. new.waiting ≡ old.waiting ++ link_events (bare topo j) s beats) (sym of) (c.in_ok-take.ensures.waiting m s serves (given s was));
      rows = λ s was. subst (λ j. new.rows ≡ old.rows ++ rows_judged (link_judging (bare topo j)) s beats) (sym of) (c.in_ok-take.ensures.rows m s serves (given s was));
      newest = c.in_ok-take.ensures.newest;
      count = c.in_ok-take.ensures.count;
    }
