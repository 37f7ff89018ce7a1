use Rattle.std.proofs.Common.{◌≡◌, ◌<◌, ℕ, List, [], ◌∷◌, length, get_or, sym, ap, subst, ◌∙◌}
use Rattle.std.specs.Prelude.{reverse}
use Rattle.std.specs.Option.{option_copied}
use Rattle.std.specs.List.Sorted.{IsStrictlySortedBy}
use Rattle.tl_topology.specs.declared.LinkDecl.{LinkDecl}
use Rattle.tl_beats.specs.declared.Placed.{Placed}
use Rattle.tl_definitions.specs.Positions.{beats_of_all}
use Rattle.tl_rows.specs.Counts.{AreOpen}
use Rattle.tl_rows.specs.States.{manager_with}
use Rattle.tl_rows.proofs.ManagerLaws.{declared}
use Rattle.tl_show.specs.Lines.{link_at, block_at}
use Rattle.tl_show.proofs.Texts.{block_some}
use Rattle.tl_advice.proofs.CountLaws.{only_one}
use Rattle.tl_advice.proofs.links.link_count.Goals as goal

pub beats-requires : goal.beats-requires
unfolding IsStrictlySortedBy
beats-requires c = (tt, tt)

pub tell-requires-clause-within : goal.tell-requires-clause-within
tell-requires-clause-within c =
    subst (λ (beats : List Placed). (k : ℕ) (d : Placed) → k < length beats → (get_or beats k d).link < length c.args.topo.now.links) (sym c.deref.ensures.value)
    (λ k d below. subst (λ n. n < length c.args.topo.now.links) (only_one c.args.link (get_or c.in_ok-beats.beats.items k d).link (c.in_ok-beats.ensures.kept.linked k d below)) c.requires)

pub returns : goal.returns
returns c =
    let topo = c.args.topo.now in
    let own : List ℕ = c.args.link ∷ [] in
    let decl = c.unwrap-decl.result.now in
    let is : link_at topo c.args.link ≡ decl = declared topo c.args.link decl (sym (ap option_copied c.unwrap-decl.ensures) ∙ c.link.ensures.exact) in
    let exponent : block_at topo (link_at topo c.args.link) ≡ c.unwrap-exponent.result =
    ap (block_at topo) is ∙ block_some topo.managers decl.manager c.unwrap-exponent.result (sym c.block.ensures ∙ c.unwrap-exponent.ensures) in
    let beats : c.in_ok-beats.beats.items ≡ beats_of_all own c.args.present.now = c.in_ok-beats.ensures.exact in
    record {
      named = ap (λ (d : LinkDecl). d.name) (sym is);
      counted = c.length_of.ensures ∙ ap length (c.deref-2.ensures.value ∙ beats);
      left_open = subst (λ e. AreOpen (manager_with topo e own) (reverse (beats_of_all own c.args.present.now)) c.in_ok-telling.telling.open) (sym exponent)
          (subst (λ (bs : List Placed). AreOpen (manager_with topo c.unwrap-exponent.result own) (reverse bs) c.in_ok-telling.telling.open) (c.deref.ensures.value ∙ beats) c.in_ok-telling.ensures.open);
    }
