use Rattle.std.proofs.Common.{◌≡◌, ap, ℕ, cond, arith, rules, Some}
use Rattle.tl_pieces.specs.declared.slot.Mark.TheVariants as mark
use Rattle.tl_pieces.specs.Keys.{value_at}
use Rattle.tl_pieces.specs.Slots.{passes}
use Rattle.tl_pieces.proofs.TallyLemmas.{remove_tally, count_fits, counts_one}
use Rattle.tl_pieces.proofs.slots.Slots.take.Goals as goal

pub turned-self-inside-requires-clause-some : goal.turned-self-inside-requires-clause-some
turned-self-inside-requires-clause-some g c =
    let found : value_at c.args.key c.self.inside.map.entries ≡ Some c.in-Some.slot = search rules in
    omega (arith, c.self.invariant.wanted.counted, counts_one (passes mark.Wanted) c.args.key c.in-Some.slot c.self.inside.map.entries found, ap {B = ℕ} (λ b. cond b 1 0) c.passes-wanted.ensures)

pub turned-self-inside-requires-clause-fits : goal.turned-self-inside-requires-clause-fits
turned-self-inside-requires-clause-fits g c = omega (arith, c.self.invariant.wanted.counted, count_fits (passes mark.Wanted) c.self.inside.map.entries)

pub turned-self-inside-requires-2-clause-some : goal.turned-self-inside-requires-2-clause-some
turned-self-inside-requires-2-clause-some g c =
    let found : value_at c.args.key c.self.inside.map.entries ≡ Some c.in-Some.slot = search rules in
    omega (arith, c.self.invariant.free.counted, counts_one (passes mark.Free) c.args.key c.in-Some.slot c.self.inside.map.entries found, ap {B = ℕ} (λ b. cond b 1 0) c.passes-free.ensures)

pub turned-self-inside-requires-2-clause-fits : goal.turned-self-inside-requires-2-clause-fits
turned-self-inside-requires-2-clause-fits g c = omega (arith, c.self.invariant.free.counted, count_fits (passes mark.Free) c.self.inside.map.entries)

pub invariant_of-self-2 : goal.invariant_of-self-2
invariant_of-self-2 g c =
    let k = c.args.key in
    let es = c.self.inside.map.entries in
    let found : value_at k es ≡ Some c.in-Some.slot = search rules in
    record {
      wanted = remove_tally (passes mark.Wanted) k c.in-Some.slot es c.remove.new.self.entries c.self.inside.wanted c.turned-self-inside.result c.passes-wanted.result c.passes-wanted.ensures found c.self.invariant.wanted
          c.turned-self-inside.ensures.count c.turned-self-inside.ensures.cursor c.remove.ensures.entries;
      free = remove_tally (passes mark.Free) k c.in-Some.slot es c.remove.new.self.entries c.self.inside.free c.turned-self-inside-2.result c.passes-free.result c.passes-free.ensures found c.self.invariant.free
          c.turned-self-inside-2.ensures.count c.turned-self-inside-2.ensures.cursor c.remove.ensures.entries;
    }
