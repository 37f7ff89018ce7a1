use Rattle.std.proofs.Common.{◌≡◌, ◌∙◌, ap, refl, arith, rules, None}
use Rattle.std.specs.BTreeMap.{insert_entry}
use Rattle.tl_pieces.specs.declared.slot.Mark.TheVariants as mark
use Rattle.tl_pieces.specs.Keys.{key_cmp, value_at}
use Rattle.tl_pieces.specs.Slots.{blank, passes}
use Rattle.tl_pieces.proofs.TallyLemmas.{insert_tally, count_fits}
use Rattle.tl_pieces.proofs.slots.Slots.put.Goals as goal

pub turned-self-inside-requires-clause-fits : goal.turned-self-inside-requires-clause-fits
turned-self-inside-requires-clause-fits g c = omega (arith, c.self.invariant.wanted.counted, count_fits (passes mark.Wanted) c.self.inside.map.entries)

pub turned-self-inside-requires-2-clause-fits : goal.turned-self-inside-requires-2-clause-fits
turned-self-inside-requires-2-clause-fits g c = omega (arith, c.self.invariant.free.counted, count_fits (passes mark.Free) c.self.inside.map.entries)

pub invariant_of-self-2 : goal.invariant_of-self-2
invariant_of-self-2 g c =
    let k = c.args.key in
    let es = c.self.inside.map.entries in
    let is : c.insert.new.self.entries ≡ insert_entry key_cmp es k blank = search rules in
    let none : value_at k es ≡ None = ap (value_at k) c.self.view_is ∙ c.requires.absent in
    record {
      wanted = insert_tally (passes mark.Wanted) k blank es c.insert.new.self.entries c.self.inside.wanted c.turned-self-inside.result refl none c.self.invariant.wanted c.turned-self-inside.ensures.count c.turned-self-inside.ensures.cursor is;
      free = insert_tally (passes mark.Free) k blank es c.insert.new.self.entries c.self.inside.free c.turned-self-inside-2.result refl none c.self.invariant.free c.turned-self-inside-2.ensures.count c.turned-self-inside-2.ensures.cursor is;
    }
