use Rattle.std.proofs.Common.{◌≡◌, ◌∙◌, sym, ◌==◌, arith, Some, true, false}
use Rattle.std.proofs.lemmas.Bool.Decides.{nat_tests}
use Rattle.tl_pieces.specs.Keys.{before, EndsWith}
use Rattle.tl_pieces.proofs.MarkLemmas.{exit_same, exit_other}
use Rattle.tl_pieces.proofs.marks.exit_before.Goals as goal

pub returns-then-at-key : goal.returns-then-at-key
returns-then-at-key g c =
    let ends : EndsWith (before c.args.key c.args.slots.now) (Some (c.in-Some.at, c.in-Some.slot.now)) = c.in-Some.ensures in
    let is : (c.in-Some.at.owner == c.args.key.owner) ≡ true = grind (arith, nat_tests) in
    c.exit_of.ensures ∙ sym (exit_same c.args.openings.now (before c.args.key c.args.slots.now) (c.in-Some.at, c.in-Some.slot.now) c.args.key.owner ends is)

pub returns-else-at-key : goal.returns-else-at-key
returns-else-at-key g c =
    let ends : EndsWith (before c.args.key c.args.slots.now) (Some (c.in-Some.at, c.in-Some.slot.now)) = c.in-Some.ensures in
    let is : (c.in-Some.at.owner == c.args.key.owner) ≡ false = grind (arith, nat_tests) in
    c.get.ensures ∙ sym (exit_other c.args.openings.now (before c.args.key c.args.slots.now) (c.in-Some.at, c.in-Some.slot.now) c.args.key.owner ends is)
