use Rattle.std.proofs.Common.{◌≡◌, refl, Result, Ok, Err, OnErr, IsSome, ◌+◌, sym, ◌∙◌, subst, Less}
use Rattle.tl_state.specs.Leaves.{all_entries, entries_ahead, entries_behind}
use Rattle.tl_state.specs.KeyOrder.{Below}
use Rattle.tl_state.specs.Spots.{IsSpot}
use Rattle.tl_state.proofs.EntryLemmas.{is_less}
use Rattle.tl_state.proofs.MapLemmas.{value_past, value_found, value_missed, taken_out, left_alone}
use Rattle.tl_state.proofs.SpotLemmas.{spot_is}
use Rattle.tl_state.proofs.changes.remove_in.Goals as goal

pub returns-in_default : goal.returns-in_default
returns-in_default g c =
    let cmp = g.K.Ord.cmp in
    let k = c.args.key.now in
    let now = all_entries c.args.leaves.now.items in
    let below = subst (λ t. Below cmp k (all_entries t)) c.as_slice.ensures.value c.in_default.ensures in
    let r = left_alone g.met.K.Ord.total k now (value_past g.met.K.Ord.total k now below) c.requires.rises in
    record { old = r.old; ok = r.ok; rises = r.rises; full = c.requires.full; len = r.len; wanted = tt; err = tt }

pub returns-in_ok-replace-in-Equal : goal.returns-in_ok-replace-in-Equal
returns-in_ok-replace-in-Equal g c =
    let cmp = g.K.Ord.cmp in
    let k = c.args.key.now in
    let ls = c.args.leaves.now.items in
    let at = c.in-Some.spot.leaf in
    let w = c.in-Some.spot.place in
    let e = c.in-Some.spot.entry in
    let s = subst (λ t. IsSpot cmp k t at w e) c.as_slice.ensures.value c.in-Some.ensures in
    let r = taken_out g.met.K.Ord.total k (all_entries ls) (all_entries c.replace.new.leaves.items) (entries_ahead ls at w) e (entries_behind ls at (w + 1)) (spot_is cmp k ls at w e s) s.below c.requires.rises
    (sym c.in-Equal.ensures) c.in_ok-replace-in-Equal.ensures.ok in
    record { old = r.old; ok = r.ok; rises = r.rises; full = c.in_ok-replace-in-Equal.ensures.full c.requires.full; len = r.len; wanted = tt; err = tt }

on_err : {A E P : Type 0} (r : Result A E) → P → OnErr r P
on_err (Ok a) p = tt
on_err (Err e) p = p

pub returns-in_err-replace-in-Equal-clause-wanted : goal.returns-in_err-replace-in-Equal-clause-wanted
returns-in_err-replace-in-Equal-clause-wanted g c =
    let cmp = g.K.Ord.cmp in
    let k = c.args.key.now in
    let ls = c.args.leaves.now.items in
    let at = c.in-Some.spot.leaf in
    let w = c.in-Some.spot.place in
    let e = c.in-Some.spot.entry in
    let s = subst (λ t. IsSpot cmp k t at w e) c.as_slice.ensures.value c.in-Some.ensures in
    let found = value_found g.met.K.Ord.total k (all_entries ls) (entries_ahead ls at w) e (entries_behind ls at (w + 1)) (spot_is cmp k ls at w e s) s.below c.requires.rises (sym c.in-Equal.ensures) in
    on_err c.from_residual.result (subst IsSome (sym found) refl)

pub returns-in_default-cmp : goal.returns-in_default-cmp
returns-in_default-cmp g c =
    let cmp = g.K.Ord.cmp in
    let k = c.args.key.now in
    let ls = c.args.leaves.now.items in
    let at = c.in-Some.spot.leaf in
    let w = c.in-Some.spot.place in
    let e = c.in-Some.spot.entry in
    let s = subst (λ t. IsSpot cmp k t at w e) c.as_slice.ensures.value c.in-Some.ensures in
    let less : cmp k e.0 ≡ Less = is_less (cmp k e.0) s.stops (λ q. c.in_default-cmp.not-Equal (c.cmp.ensures ∙ q)) in
    let none = value_missed g.met.K.Ord.total k (all_entries ls) (entries_ahead ls at w) e (entries_behind ls at (w + 1)) (spot_is cmp k ls at w e s) s.below c.requires.rises less in
    let r = left_alone g.met.K.Ord.total k (all_entries ls) none c.requires.rises in
    record { old = r.old; ok = r.ok; rises = r.rises; full = c.requires.full; len = r.len; wanted = tt; err = tt }
