use Rattle.std.proofs.Common.{◌≡◌, ℕ, suc, ◌+◌, ◌-◌, ◌/◌, ◌<◌, length, get_or, sym, ap, ◌∙◌, subst, arith, is_gt}
use Rattle.std.proofs.lemmas.List.Elements.{All-get_or}
use Rattle.tl_state.specs.Leaves.{leaf_entries}
use Rattle.tl_state.proofs.OrderLemmas.{not_gt}
use Rattle.tl_state.proofs.SpotLemmas.{leaves_below, leaf_stops}
use Rattle.tl_state.proofs.search.leaf_of.Goals as goal

pub loop-low-preserved-in-Greater : goal.loop-low-preserved-in-Greater
loop-low-preserved-in-Greater g c =
    let l = c.index-leaves-middle.result in
    let i : ℕ = c.loop-low.low + (c.loop-low.high - c.loop-low.low) / 2 in
    let e = c.index-entries-entries.result in
    let n : ℕ = length c.as_slice-entries.result.now - 1 in
    let inside : i < length c.args.leaves.now = omega arith in
    let own : c.as_slice-entries.result.now ≡ leaf_entries l = c.as_slice-entries.ensures.value ∙ ap (λ v. v.items) c.deref.ensures in
    let some : 0 < length (leaf_entries l) = subst (λ x. 0 < length (leaf_entries x)) (sym c.index-leaves-middle.is) (All-get_or (λ x. 0 < length (leaf_entries x)) c.args.leaves.now i l inside c.requires.full) in
    let count : length (leaf_entries l) ≡ suc n = omega (arith, ap length own) in
    record {
      ordered = omega arith;
      within = c.loop-low.invariant.within;
      below = leaves_below leaf_entries g.met.K.Ord.total c.args.key.now c.args.leaves.now i l inside c.index-leaves-middle.is n e count (c.index-entries-entries.is ∙ ap (λ t. get_or t n e) own) c.requires.rises (sym c.in-Greater.ensures);
      stops = c.loop-low.invariant.stops;
    }

pub loop-low-preserved : goal.loop-low-preserved
loop-low-preserved g c =
    let l = c.index-leaves-middle.result in
    let i : ℕ = c.loop-low.low + (c.loop-low.high - c.loop-low.low) / 2 in
    let e = c.index-entries-entries.result in
    let n : ℕ = length c.as_slice-entries.result.now - 1 in
    let inside : i < length c.args.leaves.now = omega arith in
    let own : c.as_slice-entries.result.now ≡ leaf_entries l = c.as_slice-entries.ensures.value ∙ ap (λ v. v.items) c.deref.ensures in
    let some : 0 < length (leaf_entries l) = subst (λ x. 0 < length (leaf_entries x)) (sym c.index-leaves-middle.is) (All-get_or (λ x. 0 < length (leaf_entries x)) c.args.leaves.now i l inside c.requires.full) in
    let count : length (leaf_entries l) ≡ suc n = omega (arith, ap length own) in
    record {
      ordered = omega arith;
      within = omega arith;
      below = c.loop-low.invariant.below;
      stops = leaf_stops leaf_entries g.met.K.Ord.total c.args.key.now c.args.leaves.now i l inside c.index-leaves-middle.is n e count (c.index-entries-entries.is ∙ ap (λ t. get_or t n e) own) (sym (ap is_gt c.cmp.ensures) ∙ not_gt c.cmp.result c.in_default.not-Greater);
    }
