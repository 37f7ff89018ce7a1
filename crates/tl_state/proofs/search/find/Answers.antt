use Rattle.std.proofs.Common.{◌≡◌, ◌+◌, ◌<◌, length, take, drop, get_or, sym, ap, ◌∙◌, subst, arith}
use Rattle.tl_state.specs.Leaves.{leaf_entries, all_entries, entries_of}
use Rattle.tl_state.specs.KeyOrder.{Below, Reaches, Rises}
use Rattle.tl_state.proofs.LeafLemmas.{leaf_at}
use Rattle.tl_state.proofs.OrderLemmas.{below_both}
use Rattle.tl_state.proofs.SpotLemmas.{leaf_rises, leaf_reached, place_inside, stops_first, drop_first}
use Rattle.tl_state.proofs.search.find.Goals as goal

pub place_of-place-requires : goal.place_of-place-requires
place_of-place-requires g c =
    let l = c.index-leaves-at.result in
    let own : c.as_slice-entries.result.now ≡ leaf_entries l = c.as_slice-entries.ensures.value ∙ ap (λ v. v.items) c.deref.ensures in
    subst (Rises g.K.Ord.cmp) (sym own) (leaf_rises leaf_entries g.met.K.Ord.total c.args.key.now c.args.leaves.now c.leaf_of-at.result l (omega arith) c.index-leaves-at.is c.requires.rises)

pub bounds-entries-place : goal.bounds-entries-place
bounds-entries-place g c =
    let cmp = g.K.Ord.cmp in
    let k = c.args.key.now in
    let l = c.index-leaves-at.result in
    let own : c.as_slice-entries.result.now ≡ leaf_entries l = c.as_slice-entries.ensures.value ∙ ap (λ v. v.items) c.deref.ensures in
    place_inside cmp k c.as_slice-entries.result.now c.place_of-place.result c.place_of-place.ensures.below
    (subst (Reaches cmp k) (sym own) (leaf_reached leaf_entries g.met.K.Ord.total k c.args.leaves.now c.leaf_of-at.result l (omega arith) c.index-leaves-at.is c.leaf_of-at.ensures.stops))

pub returns : goal.returns
returns g c =
    let cmp = g.K.Ord.cmp in
    let k = c.args.key.now in
    let ls = c.args.leaves.now in
    let at = c.leaf_of-at.result in
    let w = c.place_of-place.result in
    let e = c.index-entries-place.result in
    let es = c.as_slice-entries.result.now in
    let l = c.index-leaves-at.result in
    let in_leaves : at < length ls = omega arith in
    let own : es ≡ leaf_entries l = c.as_slice-entries.ensures.value ∙ ap (λ v. v.items) c.deref.ensures in
    let same : es ≡ entries_of ls at = own ∙ sym (leaf_at leaf_entries ls at in_leaves l c.index-leaves-at.is) in
    let reached : Reaches cmp k es = subst (Reaches cmp k) (sym own) (leaf_reached leaf_entries g.met.K.Ord.total k ls at l in_leaves c.index-leaves-at.is c.leaf_of-at.ensures.stops) in
    let in_entries : w < length es = place_inside cmp k es w c.place_of-place.ensures.below reached in
    let in_leaf : w < length (entries_of ls at) = omega (arith, ap length same, in_entries) in
    record {
      in_leaves = in_leaves;
      in_leaf = in_leaf;
      here = drop_first (entries_of ls at) (all_entries (drop (at + 1) ls)) w e in_leaf (c.index-entries-place.is ∙ ap (λ t. get_or t w e) same);
      below = below_both cmp k (all_entries (take at ls)) (take w (entries_of ls at)) c.leaf_of-at.ensures.below (subst (λ t. Below cmp k (take w t)) same c.place_of-place.ensures.below);
      stops = stops_first cmp k es w e in_entries c.index-entries-place.is c.place_of-place.ensures.stops;
    }
