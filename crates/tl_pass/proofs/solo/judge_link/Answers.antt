use Rattle.std.proofs.Common.{◌≡◌, ℕ, [], length, take, refl, sym, ap, subst, ◌∙◌, arith}
use Rattle.std.proofs.lemmas.List.{take_all}
use Rattle.tl_topology.specs.Topology.{Topology}
use Rattle.tl_topology.specs.declared.LinkDecl.{LinkDecl}
use Rattle.tl_beats.specs.Fragments.{Frag}
use Rattle.tl_definitions.specs.LinkPasses.{link_judging}
use Rattle.tl_definitions.specs.Managers.{declared_links}
use Rattle.tl_definitions.specs.Positions.{links_of, placed_from}
use Rattle.tl_check.specs.Apart.{one_link}
use Rattle.tl_check.proofs.PassLaws.{declared, block_is}
use Rattle.tl_apart.specs.Told.{bare}
use Rattle.tl_pass.specs.Solo.{lone, AreJudged}
use Rattle.tl_pass.proofs.SoloLaws.{link_step, same_at}
use Rattle.tl_pass.proofs.solo.judge_link.Goals as goal

pub loop-index-preserved : goal.loop-index-preserved
loop-index-preserved c =
    let piece : Frag = c.args.piece.now in
    let many : length c.beats-beat-items.result.now ≡ length piece.beats = ap length c.beats-beat-items.ensures.exact in
    record {
      within = omega (arith, many);
      formed = c.in_ok-step.ensures.formed;
      judged = λ s was.
          let known = c.loop-index.invariant.judged s was in
          link_step c.in-Some.decl.now c.in-Some-block.exponent c.new-none.result s known.0 c.args.link piece.number c.loop-index.index piece.beats _ _ c.step.new.self c.loop-index.rows.items c.step.new.rows.items
          c.new-none.ensures refl c.number.ensures refl (same_at c.beats-beat-items.result.now piece.beats c.loop-index.index _ c.beats-beat-items.ensures.exact) (omega (arith, many)) known.2
          (c.in_ok-step.ensures.next known.0 known.1) (c.in_ok-step.ensures.rows known.0 known.1);
    }

pub returns-clause-found : goal.returns-clause-found
returns-clause-found c s k of was =
    let topo : Topology = c.args.topo.now in
    let link : ℕ = c.args.link in
    let piece : Frag = c.args.piece.now in
    let decl : LinkDecl = c.in-Some.decl.now in
    let known = c.loop-index.invariant.judged s was in
    let found : decl ≡ links_of (declared_links topo) link = declared topo link decl c.in-Some.ensures.exact in
    let block : c.in-Some-block.exponent ≡ (bare topo decl.manager).exponent = block_is topo decl.manager c.in-Some-block.exponent (sym c.in-Some-block.is ∙ c.block.ensures) in
    let managed : decl.manager ≡ k = ap (λ (d : LinkDecl). d.manager) found ∙ of in
    let same : one_link decl c.in-Some-block.exponent [] ≡ lone topo k link = (λ i. one_link (found i) ((block ∙ ap (λ j. (bare topo j).exponent) managed) i) []) in
    let many : length c.beats-beat-items.result.now ≡ length piece.beats = ap length c.beats-beat-items.ensures.exact in
    let all : take c.loop-index.index piece.beats ≡ piece.beats = take_all c.loop-index.index piece.beats (omega (arith, many)) in (
      known.0,
      known.1,
      subst (λ m. AreJudged (link_judging m) s (placed_from link piece.number 2 piece.beats) known.0 c.loop-index.rows.items) same
          (subst (λ beats. AreJudged (link_judging (one_link decl c.in-Some-block.exponent [])) s (placed_from link piece.number 2 beats) known.0 c.loop-index.rows.items) all known.2),
    )
