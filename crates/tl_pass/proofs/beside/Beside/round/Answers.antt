use Rattle.std.proofs.Common.{◌≡◌, ℕ, ◌+◌, ◌<◌, ◌++◌, List, length, refl, subst, ◌∙◌, arith}
use Rattle.std.specs.List.{flat_map}
use Rattle.std.specs.Prelude.{slice_index_or}
use Rattle.tl_beats.specs.Fragments.{Frag}
use Rattle.tl_apart.specs.Apart.{HasApart}
use Rattle.tl_apart.specs.FeedData.{FeedData}
use Rattle.tl_apart.proofs.BesideLaws.{all_follow}
use Rattle.tl_pass.specs.Beside.{AreFilled, Filled}
use Rattle.tl_pass.specs.Reports.{standing}
use Rattle.tl_pass.proofs.BesideLaws.{all_filled, each_stand}
use Rattle.tl_pass.proofs.beside.Beside.round.Goals as goal

pub returns : goal.returns
returns g c topo fs had =
    let Gives : ℕ → List Frag → Type 0 = g.L.Lanes.gives c.args.lanes.now c.args.round in
    let old = c.args.self.now.apart in
    let mid = c.fill_all.new.apart in
    let olds = old.feeds.items in
    let news = mid.feeds.items in
    let filled : AreFilled Gives topo olds news = subst (λ t. AreFilled Gives t olds news) (c.deref.ensures ∙ had.on) c.fill_all.ensures.feeds in
    let each : (i : ℕ) (d : FeedData) → i < length olds → Filled Gives topo (0 + i) (slice_index_or olds i d) (slice_index_or news i d) =
    λ i d low. (let same : i ≡ 0 + i = omega arith in subst (λ n. Filled Gives topo n (slice_index_or olds i d) (slice_index_or news i d)) same (filled.1 i d low)) in
    let took = all_filled topo Gives 0 olds news filled.0 each (c.in_default.ensures refl) in
    let stands = each_stand topo 0 took.0 olds news fs took.3 had.long in
    let came : HasApart topo (standing topo (fs ++ flat_map (λ own. own) took.0)) mid =
    subst (λ hs. HasApart topo hs mid) stands.0 (all_follow topo took.0 (standing topo fs) old mid c.fill_all.ensures.rest took.3 had.has) in (
      took.0,
      took.1 ∙ had.has.is.are.links,
      took.2,
      record { on = had.on; has = c.in_ok-catch_up_all.ensures topo (standing topo (fs ++ flat_map (λ own. own) took.0)) came; long = stands.1 },
    )
