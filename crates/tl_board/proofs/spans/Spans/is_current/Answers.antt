use Rattle.std.proofs.Common.{◌≡◌, ◌<◌, length, refl, sym, ap, subst, ◌∙◌, arith}
use Rattle.std.specs.Bool.{Decides}
use Rattle.tl_edits.specs.Inputs.{InputData, AreNumbered, regions_at}
use Rattle.tl_edits.specs.Log.{LogData, inputs_after}
use Rattle.tl_board.specs.Tasks.{IsCurrent}
use Rattle.tl_board.specs.Spans.{standing}
use Rattle.tl_board.specs.Windows.{key_of}
use Rattle.tl_board.proofs.CheckLemmas.{owner_below}
use Rattle.tl_board.proofs.TicketLemmas.{indexed, numbered}
use Rattle.tl_board.proofs.spans.Spans.is_current.Goals as goal

pub bounds-regions-from : goal.bounds-regions-from
bounds-regions-from c =
    let below = owner_below c.args.self.now c.args.self.now refl c.log.ensures.kept c.log.ensures.board (key_of c.args.task.now.owner c.args.task.now.window) c.requires
    c.inputs-inputs.result.now.topo (c.inputs-inputs.ensures.topo ∙ ap (λ (l : LogData). l.topo) c.log.ensures.exact) in
    omega (arith, below, c.from.ensures, c.manager.ensures.exact, c.regions.ensures.all)

pub is_current-requires : goal.is_current-requires
is_current-requires c =
    let below = owner_below c.args.self.now c.args.self.now refl c.log.ensures.kept c.log.ensures.board (key_of c.args.task.now.owner c.args.task.now.window) c.requires
    c.inputs-inputs.result.now.topo (c.inputs-inputs.ensures.topo ∙ ap (λ (l : LogData). l.topo) c.log.ensures.exact) in
    let under : c.from.result < length c.regions.result.now = omega (arith, below, c.from.ensures, c.manager.ensures.exact, c.regions.ensures.all) in
    numbered c.regions.result.now c.from.result c.index-regions-from.result (indexed c.regions.result.now c.from.result c.index-regions-from.result _ under c.index-regions-from.is)
    (subst AreNumbered (sym c.regions.ensures.exact) c.regions.ensures.numbers)

pub returns : goal.returns
returns c =
    let now : InputData = standing c.args.self.now in
    let read : c.inputs-inputs.result.now ≡ now = c.inputs-inputs.ensures.exact ∙ ap (λ (l : LogData). inputs_after l.topo l.edits) c.log.ensures.exact in
    let below = owner_below c.args.self.now c.args.self.now refl c.log.ensures.kept c.log.ensures.board (key_of c.args.task.now.owner c.args.task.now.window) c.requires
    c.inputs-inputs.result.now.topo (c.inputs-inputs.ensures.topo ∙ ap (λ (l : LogData). l.topo) c.log.ensures.exact) in
    let under : c.from.result < length c.regions.result.now = omega (arith, below, c.from.ensures, c.manager.ensures.exact, c.regions.ensures.all) in
    let owner : c.from.result ≡ c.args.task.now.owner = c.from.ensures ∙ c.manager.ensures.exact in
    let regions : c.index-regions-from.result ≡ regions_at c.args.task.now.owner now.regions =
    indexed c.regions.result.now c.from.result c.index-regions-from.result _ under c.index-regions-from.is
    ∙ ap (λ n. regions_at n c.regions.result.now) owner ∙ ap (regions_at c.args.task.now.owner) (c.regions.ensures.exact ∙ ap (λ (i : InputData). i.regions) read) in
    let topo : c.topo.result.now ≡ now.topo = c.topo.ensures ∙ ap (λ (i : InputData). i.topo) read in
    let fragments : c.present.result.now ≡ now.fragments = c.present.ensures ∙ ap (λ (i : InputData). i.fragments) read in
    subst (λ fs. Decides c.is_current.result (IsCurrent now.topo (regions_at c.args.task.now.owner now.regions) fs c.args.task.now)) fragments
    (subst (λ rs. Decides c.is_current.result (IsCurrent now.topo rs c.present.result.now c.args.task.now)) regions
    (subst (λ t. Decides c.is_current.result (IsCurrent t c.index-regions-from.result c.present.result.now c.args.task.now)) topo c.is_current.ensures))
