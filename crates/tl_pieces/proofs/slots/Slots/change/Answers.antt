use Rattle.std.proofs.Common.{◌∙◌, ap, sym, subst, arith, rules, List, ℕ, cond}
use Rattle.tl_pieces.specs.declared.key.PieceKey.{PieceKey}
use Rattle.tl_pieces.specs.declared.slot.Slot.{Slot}
use Rattle.tl_pieces.specs.declared.slot.Mark.TheVariants as mark
use Rattle.tl_pieces.specs.declared.slots.Turn.{Turn}
use Rattle.tl_pieces.specs.Keys.{value_at}
use Rattle.tl_pieces.specs.Slots.{changed, passes, AreTallied}
use Rattle.tl_pieces.proofs.TallyLemmas.{change_tally, change_none, count_fits, counts_one}
use Rattle.tl_pieces.proofs.SlotLemmas.{turn_found, turn_none}
use Rattle.tl_pieces.proofs.slots.Slots.change.Goals as goal

pub invariant_of-self : goal.invariant_of-self
invariant_of-self g c =
    let none = turn_none (changed c.args.what) (value_at c.args.key c.self.inside.map.entries) (search rules) in
    subst (λ (es : List (PieceKey × Slot g.row.S.Denot g.row.R.Denot)). AreTallied es c.self.inside.wanted c.self.inside.free) (sym (c.write.ensures.entries ∙ change_none c.args.key (changed c.args.what) c.self.inside.map.entries none)) c.self.invariant

pub turned-self-inside-requires-clause-some : goal.turned-self-inside-requires-clause-some
turned-self-inside-requires-clause-some g c =
    let found = turn_found (changed c.args.what) (value_at c.args.key c.self.inside.map.entries) c.in-Some.turn (search rules) in
    omega (arith, c.self.invariant.wanted.counted, counts_one (passes mark.Wanted) c.args.key found.0 c.self.inside.map.entries found.1, ap {B = ℕ} (λ (x : Turn). cond x.was_wanted 1 0) found.2)

pub turned-self-inside-requires-clause-fits : goal.turned-self-inside-requires-clause-fits
turned-self-inside-requires-clause-fits g c = omega (arith, c.self.invariant.wanted.counted, count_fits (passes mark.Wanted) c.self.inside.map.entries)

pub turned-self-inside-requires-2-clause-some : goal.turned-self-inside-requires-2-clause-some
turned-self-inside-requires-2-clause-some g c =
    let found = turn_found (changed c.args.what) (value_at c.args.key c.self.inside.map.entries) c.in-Some.turn (search rules) in
    omega (arith, c.self.invariant.free.counted, counts_one (passes mark.Free) c.args.key found.0 c.self.inside.map.entries found.1, ap {B = ℕ} (λ (x : Turn). cond x.was_free 1 0) found.2)

pub turned-self-inside-requires-2-clause-fits : goal.turned-self-inside-requires-2-clause-fits
turned-self-inside-requires-2-clause-fits g c = omega (arith, c.self.invariant.free.counted, count_fits (passes mark.Free) c.self.inside.map.entries)

pub invariant_of-self-2 : goal.invariant_of-self-2
invariant_of-self-2 g c =
    let k = c.args.key in
    let f = changed c.args.what in
    let es = c.self.inside.map.entries in
    let found = turn_found f (value_at k es) c.in-Some.turn (search rules) in
    record {
      wanted = change_tally (passes mark.Wanted) k found.0 f es c.write.new.map.entries c.self.inside.wanted c.turned-self-inside.result c.in-Some.turn.was_wanted c.in-Some.turn.is_wanted found.1 c.self.invariant.wanted
          (ap (λ (x : Turn). x.was_wanted) found.2) (ap (λ (x : Turn). x.is_wanted) found.2) c.turned-self-inside.ensures.count c.turned-self-inside.ensures.cursor c.write.ensures.entries;
      free = change_tally (passes mark.Free) k found.0 f es c.write.new.map.entries c.self.inside.free c.turned-self-inside-2.result c.in-Some.turn.was_free c.in-Some.turn.is_free found.1 c.self.invariant.free
          (ap (λ (x : Turn). x.was_free) found.2) (ap (λ (x : Turn). x.is_free) found.2) c.turned-self-inside-2.ensures.count c.turned-self-inside-2.ensures.cursor c.write.ensures.entries;
    }
