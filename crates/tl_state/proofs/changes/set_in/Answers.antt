use Rattle.std.proofs.Common.{◌≡◌, ◌++◌, ◌∷◌, ◌+◌, sym, ap, ◌∙◌, subst, Less}
use Rattle.tl_state.specs.Leaves.{all_entries, entries_ahead, entries_behind}
use Rattle.tl_state.specs.KeyOrder.{Below}
use Rattle.tl_state.specs.Spots.{IsSpot}
use Rattle.tl_state.proofs.EntryLemmas.{is_less}
use Rattle.tl_state.proofs.MapLemmas.{added, replaced, put_in}
use Rattle.tl_state.proofs.SpotLemmas.{spot_is}
use Rattle.tl_state.proofs.changes.set_in.Goals as goal

pub returns-in_default : goal.returns-in_default
returns-in_default g c =
    let cmp = g.K.Ord.cmp in
    let below = subst (λ t. Below cmp c.args.key (all_entries t)) c.as_slice.ensures.value c.in_default.ensures in
    let r = added g.met.K.Ord.total c.args.key (all_entries c.args.leaves.now.items) (all_entries c.put_last.new.leaves.items) c.args.value below c.requires.rises c.in_ok-put_last.ensures.ok in
    record { old = r.old; ok = r.ok; rises = r.rises; full = c.in_ok-put_last.ensures.full c.requires.full; len = r.len; err = tt }

pub returns-in_ok-replace-in-Equal : goal.returns-in_ok-replace-in-Equal
returns-in_ok-replace-in-Equal g c =
    let cmp = g.K.Ord.cmp in
    let k = c.args.key in
    let ls = c.args.leaves.now.items in
    let at = c.in-Some.spot.leaf in
    let w = c.in-Some.spot.place in
    let e = c.in-Some.spot.entry in
    let s = subst (λ t. IsSpot cmp k t at w e) c.as_slice.ensures.value c.in-Some.ensures in
    let r = replaced g.met.K.Ord.total k (all_entries ls) (all_entries c.replace.new.leaves.items) (entries_ahead ls at w) e (entries_behind ls at (w + 1)) (spot_is cmp k ls at w e s) s.below c.requires.rises
    c.args.value (sym c.in-Equal.ensures) c.in_ok-replace-in-Equal.ensures.ok in
    record { old = r.old; ok = r.ok; rises = r.rises; full = c.in_ok-replace-in-Equal.ensures.full c.requires.full; len = r.len; err = tt }

pub returns-in_ok-replace-in_default-cmp : goal.returns-in_ok-replace-in_default-cmp
returns-in_ok-replace-in_default-cmp g c =
    let cmp = g.K.Ord.cmp in
    let k = c.args.key in
    let ls = c.args.leaves.now.items in
    let at = c.in-Some.spot.leaf in
    let w = c.in-Some.spot.place in
    let e = c.in-Some.spot.entry in
    let s = subst (λ t. IsSpot cmp k t at w e) c.as_slice.ensures.value c.in-Some.ensures in
    let less : cmp k e.0 ≡ Less = is_less (cmp k e.0) s.stops (λ q. c.in_default-cmp.not-Equal (c.cmp.ensures ∙ q)) in
    let r = put_in g.met.K.Ord.total k (all_entries ls) (all_entries c.replace-in_default-cmp.new.leaves.items) (entries_ahead ls at w) e (entries_behind ls at (w + 1)) (spot_is cmp k ls at w e s) s.below c.requires.rises
    c.args.value less (c.in_ok-replace-in_default-cmp.ensures.ok ∙ ap (λ t. entries_ahead ls at w ++ (k, c.args.value) ∷ t) s.here) in
    record { old = r.old; ok = r.ok; rises = r.rises; full = c.in_ok-replace-in_default-cmp.ensures.full c.requires.full; len = r.len; err = tt }
