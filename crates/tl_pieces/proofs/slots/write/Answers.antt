use Rattle.std.proofs.Common.{◌≡◌, ◌∙◌, ap, sym, rules, Some, None}
use Rattle.std.specs.BTreeMap.{is_at}
use Rattle.std.specs.Map.{set_value}
use Rattle.tl_pieces.specs.Keys.{key_cmp, value_at}
use Rattle.tl_pieces.specs.Slots.{changed}
use Rattle.tl_pieces.proofs.TallyLemmas.{change_set, change_none}
use Rattle.tl_pieces.proofs.slots.write.Goals as goal

pub returns-in-Some-clause-entries : goal.returns-in-Some-clause-entries
returns-in-Some-clause-entries g c =
    let k = c.args.key in
    let found : value_at k c.args.map.now.entries ≡ Some c.in-Some.slot.now = search rules in
    let set : (c.get_mut.follows.lender c.turned.new.slot).entries ≡ set_value (is_at (key_cmp k)) c.args.map.now.entries c.turned.new.slot = search rules in
    set ∙ ap (set_value (is_at (key_cmp k)) c.args.map.now.entries) c.turned.ensures.slot ∙ change_set k c.in-Some.slot.now (changed c.args.what) c.args.map.now.entries found

pub returns-in-None-clause-entries : goal.returns-in-None-clause-entries
returns-in-None-clause-entries g c =
    let k = c.args.key in
    let none : value_at k c.args.map.now.entries ≡ None = search rules in
    let same : c.get_mut.follows.lender-at-none.entries ≡ c.args.map.now.entries = search rules in
    same ∙ sym (change_none k (changed c.args.what) c.args.map.now.entries none)
