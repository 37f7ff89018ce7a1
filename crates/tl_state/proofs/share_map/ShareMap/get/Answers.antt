use Rattle.std.proofs.Common.{◌≡◌, ◌+◌, sym, ap, ◌∙◌, subst, Less}
use Rattle.tl_state.specs.Leaves.{all_entries, entries_ahead, entries_behind}
use Rattle.tl_state.specs.KeyOrder.{Below, Rises}
use Rattle.tl_state.proofs.EntryLemmas.{is_less}
use Rattle.tl_state.proofs.MapLemmas.{value_past, value_found, value_missed}
use Rattle.tl_state.proofs.SpotLemmas.{spot_is}
use Rattle.tl_state.proofs.share_map.ShareMap.get.Goals as goal

pub returns-in_err-held : goal.returns-in_err-held
returns-in_err-held g c =
    let cmp = g.K.Ord.cmp in
    let k = c.args.key.now in
    let view : all_entries c.deref.result.now ≡ c.args.self.now = ap all_entries c.deref.ensures.value ∙ c.self.view_is in
    c.from_residual.ensures ∙ sym (value_past g.met.K.Ord.total k c.args.self.now (subst (Below cmp k) view c.in_err-held.ensures))

pub returns-in-Equal : goal.returns-in-Equal
returns-in-Equal g c =
    let cmp = g.K.Ord.cmp in
    let k = c.args.key.now in
    let ls = c.deref.result.now in
    let at = c.in_ok-held.field-0.leaf in
    let w = c.in_ok-held.field-0.place in
    let e = c.in_ok-held.field-0.entry in
    let s = c.in_ok-held.ensures in
    let view : all_entries ls ≡ c.args.self.now = ap all_entries c.deref.ensures.value ∙ c.self.view_is in
    sym (value_found g.met.K.Ord.total k c.args.self.now (entries_ahead ls at w) e (entries_behind ls at (w + 1)) (sym view ∙ spot_is cmp k ls at w e s) s.below (subst (Rises cmp) c.self.view_is c.self.invariant.rises) (sym c.in-Equal.ensures))

pub returns-in_default : goal.returns-in_default
returns-in_default g c =
    let cmp = g.K.Ord.cmp in
    let k = c.args.key.now in
    let ls = c.deref.result.now in
    let at = c.in_ok-held.field-0.leaf in
    let w = c.in_ok-held.field-0.place in
    let e = c.in_ok-held.field-0.entry in
    let s = c.in_ok-held.ensures in
    let view : all_entries ls ≡ c.args.self.now = ap all_entries c.deref.ensures.value ∙ c.self.view_is in
    let less : cmp k e.0 ≡ Less = is_less (cmp k e.0) s.stops (λ q. c.in_default.not-Equal (c.cmp.ensures ∙ q)) in
    sym (value_missed g.met.K.Ord.total k c.args.self.now (entries_ahead ls at w) e (entries_behind ls at (w + 1)) (sym view ∙ spot_is cmp k ls at w e s) s.below (subst (Rises cmp) c.self.view_is c.self.invariant.rises) less)
