use Rattle.std.proofs.Common.{◌≡◌, ◌<◌, Some, length, refl, sym, ap, subst, ◌∙◌, arith, rules}
use Rattle.std.specs.Arc.{arc_value}
use Rattle.tl_topology.specs.Regions.{areas_of}
use Rattle.tl_definitions.specs.Managers.{manager_at}
use Rattle.tl_edits.specs.Inputs.{InputData, AreNumbered}
use Rattle.tl_edits.specs.Log.{LogData, inputs_after}
use Rattle.tl_pieces.specs.Pieces.{entry_for, IsBoard}
use Rattle.tl_check.specs.States.{IsOf}
use Rattle.tl_check.specs.declared.state.SpanState.{SpanState}
use Rattle.tl_board.specs.Spans.{SpansData, standing, manager_in}
use Rattle.tl_board.proofs.CheckLemmas.{owner_there, owner_below, same_manager, entry_there, some_mapped, entry_shows}
use Rattle.tl_board.proofs.TicketLemmas.{indexed, numbered}
use Rattle.tl_board.proofs.spans.Spans.task.Goals as goal

pub overflow_cast-manager : goal.overflow_cast-manager
overflow_cast-manager c =
    let below = owner_below c.args.self.now c.args.self.now refl c.log.ensures.kept c.log.ensures.board c.args.key c.requires
    c.deref.result.now (c.deref.ensures ∙ c.shared_topo-topo.ensures ∙ (c.inputs-inputs.ensures.topo ∙ ap (λ (l : LogData). l.topo) c.log.ensures.exact)) in
    omega (arith, below, c.manager_count.ensures.count, c.manager_count.ensures.limit)

pub bounds-regions-from : goal.bounds-regions-from
bounds-regions-from c =
    let below = owner_below c.args.self.now c.args.self.now refl c.log.ensures.kept c.log.ensures.board c.args.key c.requires
    c.inputs-inputs.result.now.topo (c.inputs-inputs.ensures.topo ∙ ap (λ (l : LogData). l.topo) c.log.ensures.exact) in
    omega (arith, below, c.from.ensures, c.regions.ensures.all)

pub unwrap-entry-requires : goal.unwrap-entry-requires
unwrap-entry-requires c =
    some_mapped _ c.entry_for.result (entry_for c.args.key c.self.inside.pieces) c.entry_for.ensures (entry_there c.self.inside.pieces c.args.key
    (owner_there (record { log = c.self.inside.log; board = c.self.inside.pieces }) c.args.self.now c.self.view_is c.self.invariant (subst (λ (s : SpansData). IsBoard s.board) (sym c.self.view_is) c.log.ensures.board) c.args.key c.requires))

pub new-requires-clause-manager : goal.new-requires-clause-manager
new-requires-clause-manager c =
    owner_below c.args.self.now c.args.self.now refl c.log.ensures.kept c.log.ensures.board c.args.key c.requires
    (arc_value c.shared_topo-topo.result.now) (c.shared_topo-topo.ensures ∙ (c.inputs-inputs.ensures.topo ∙ ap (λ (l : LogData). l.topo) c.log.ensures.exact))

pub new-requires-clause-entry : goal.new-requires-clause-entry
new-requires-clause-entry c =
    let inside : SpansData = record { log = c.self.inside.log; board = c.self.inside.pieces } in
    let now : InputData = standing inside in
    let read : c.inputs-inputs.result.now ≡ now = c.inputs-inputs.ensures.exact ∙ ap (λ (l : LogData). inputs_after l.topo l.edits) (c.log.ensures.exact ∙ ap (λ (s : SpansData). s.log) (sym c.self.view_is)) in
    let entry : SpanState = arc_value c.unwrap-entry.result.now in
    let found : entry_for c.args.key inside.board ≡ Some entry = search rules in
    let below = owner_below c.args.self.now c.args.self.now refl c.log.ensures.kept c.log.ensures.board c.args.key c.requires c.inputs-inputs.result.now.topo (c.inputs-inputs.ensures.topo ∙ ap (λ (l : LogData). l.topo) c.log.ensures.exact) in
    let under : c.from.result < length c.regions.result.now = omega (arith, below, c.from.ensures, c.regions.ensures.all) in
    let shows = entry_shows now inside.board c.self.invariant.covered (subst (λ (s : SpansData). IsBoard s.board) (sym c.self.view_is) c.log.ensures.board) c.args.key entry found in
    let same : manager_at (arc_value c.shared_topo-topo.result.now) c.args.key.owner (areas_of c.index-regions-from.result) ≡ manager_in now c.args.key.owner =
    same_manager now (arc_value c.shared_topo-topo.result.now) c.args.key.owner c.from.result c.regions.result.now c.index-regions-from.result _
    (c.shared_topo-topo.ensures ∙ ap (λ (i : InputData). i.topo) read) (c.regions.ensures.exact ∙ ap (λ (i : InputData). i.regions) read) c.from.ensures
    under c.index-regions-from.is in
    subst (λ m. IsOf m entry) (sym same) shows.1.0

pub new-requires-clause-numbers : goal.new-requires-clause-numbers
new-requires-clause-numbers c =
    let inside : SpansData = record { log = c.self.inside.log; board = c.self.inside.pieces } in
    let below = owner_below c.args.self.now c.args.self.now refl c.log.ensures.kept c.log.ensures.board c.args.key c.requires c.inputs-inputs.result.now.topo (c.inputs-inputs.ensures.topo ∙ ap (λ (l : LogData). l.topo) c.log.ensures.exact) in
    let under : c.from.result < length c.regions.result.now = omega (arith, below, c.from.ensures, c.regions.ensures.all) in
    numbered c.regions.result.now c.from.result c.index-regions-from.result (indexed c.regions.result.now c.from.result c.index-regions-from.result _ under c.index-regions-from.is)
    (subst AreNumbered (sym c.regions.ensures.exact) c.regions.ensures.numbers)
