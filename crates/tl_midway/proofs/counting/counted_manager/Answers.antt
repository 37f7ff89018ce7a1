use Rattle.std.proofs.Common.{ℕ, List, [], sym, subst, ◌∙◌}
use Rattle.std.specs.List.{All}
use Rattle.std.proofs.lemmas.List.Elements.{All-contains}
use Rattle.tl_topology.specs.Regions.{areas_of}
use Rattle.tl_definitions.specs.Captures.{manager_beats}
use Rattle.tl_definitions.specs.Managers.{declared_links, manager_at}
use Rattle.tl_definitions.specs.Positions.{clients_of}
use Rattle.tl_check.specs.Managers.{IsPlain}
use Rattle.tl_check.proofs.CaptureLaws.{linked_in}
use Rattle.tl_midway.specs.Judged.{HasJudged, AreRowsOf, AddsManager}
use Rattle.tl_midway.specs.Midway.{beginning_of}
use Rattle.tl_midway.specs.Named.{BeginsAtHeads, AllBegin}
use Rattle.tl_midway.proofs.NoLeadIns.{none_counted}
use Rattle.tl_midway.proofs.Results.{whatever}
use Rattle.tl_midway.proofs.counting.counted_manager.Goals as goal

pub named_links-requires-clause-links : goal.named_links-requires-clause-links
named_links-requires-clause-links c = c.deref-then-judges_as_whole.ensures.value ∙ c.in_ok-links.ensures

pub named_links-requires-clause-plain : goal.named_links-requires-clause-plain
named_links-requires-clause-plain c =
    subst (All (IsPlain c.args.topo.now)) (c.deref.ensures.value ∙ sym c.deref-then-judges_as_whole.ensures.value) (c.judges_as_whole.ensures.plain c.if-judges_as_whole.true)

pub returns-then-judges_as_whole-clause-rows : goal.returns-then-judges_as_whole-clause-rows
returns-then-judges_as_whole-clause-rows c =
    let areas = areas_of c.args.regions.now in
    c.named_links.ensures c.args.counts.now.law
    (subst (AllBegin (beginning_of c.args.counts.now.law (manager_at c.args.topo.now c.args.manager areas))) (c.deref.ensures.value ∙ sym c.deref-then-judges_as_whole.ensures.value)
    (c.judges_as_whole.ensures.heads c.if-judges_as_whole.true c.args.manager areas))

pub returns-then-judges_as_whole-clause-counts : goal.returns-then-judges_as_whole-clause-counts
returns-then-judges_as_whole-clause-counts c =
    let topo = c.args.topo.now in
    let fs = c.args.present.now in
    let areas = areas_of c.args.regions.now in
    let law = c.args.counts.now.law in
    let m = manager_at topo c.args.manager areas in
    let links : List ℕ = clients_of c.args.manager (declared_links topo) in
    let heads : AllBegin (beginning_of law m) links =
    subst (AllBegin (beginning_of law m)) (c.deref.ensures.value ∙ c.in_ok-links.ensures) (c.judges_as_whole.ensures.heads c.if-judges_as_whole.true c.args.manager areas) in
    whatever c.named_links.result (λ n has. none_counted law m (manager_beats topo fs c.args.manager) c.args.counts.now n c.if-not-counts.true
    (λ p h. All-contains (BeginsAtHeads (beginning_of law m)) links p.link heads (linked_in topo fs c.is_empty.ensures.kept links p h)) has)

pub counted_beats-requires : goal.counted_beats-requires
counted_beats-requires c =
    let areas = areas_of c.args.regions.now in
    subst (λ n. HasJudged (manager_at c.args.topo.now n areas) c.args.counts.now.law [] c.in_ok-judged.judged) (sym c.in_ok-judged.ensures.manager) (c.in_ok-judged.ensures.none areas)

pub returns-clause-rows : goal.returns-clause-rows
returns-clause-rows c =
    subst (λ n. AreRowsOf c.args.counts.now.law c.args.topo.now (areas_of c.args.regions.now) c.args.present.now n c.counted_beats.new.judged.rows.items) c.in_ok-judged.ensures.manager c.in_ok-counted_beats.ensures.rows

pub returns-clause-counts : goal.returns-clause-counts
returns-clause-counts c =
    subst (λ n. AddsManager c.args.topo.now (areas_of c.args.regions.now) c.args.present.now n c.args.counts.now c.counted_beats.new.counts) c.in_ok-judged.ensures.manager c.in_ok-counted_beats.ensures.counts
