use Rattle.std.proofs.Common.{◌≡◌, ◌∙◌, ◌==◌, ◌++◌, ◌∷◌, [], ap, sym, subst, arith, rules, None, true, false, append_assoc, append-nil}
use Rattle.std.proofs.lemmas.Bool.Decides.{nat_tests}
use Rattle.tl_pieces.specs.Keys.{before, Rises}
use Rattle.tl_pieces.specs.Slots.{last_result}
use Rattle.tl_pieces.proofs.NearestLemmas.{last_other, last_silent, last_here}
use Rattle.tl_pieces.proofs.slots.Slots.last_result.Goals as goal

pub loop-at-init : goal.loop-at-init
loop-at-init g c =
    let k = c.args.key in
    let between : c.range-earlier.result ≡ before k c.self.inside.map.entries = search rules in
    let all : c.range-earlier.result ≡ before k c.args.self.now = between ∙ ap (before k) c.self.view_is in
    record {
      last = ap (last_result k.owner) all;
      part = ([], sym all ∙ sym (append-nil c.range-earlier.result));
    }

pub returns-then-at-key : goal.returns-then-at-key
returns-then-at-key g c =
    let k = c.args.key in
    let s : Rises c.args.self.now = subst Rises c.self.view_is c.len.ensures.ordered in
    let no : (c.in-Some.at.now.owner == k.owner) ≡ false = grind (arith, nat_tests) in
    sym (last_other k c.args.self.now c.loop-at.earlier c.next_back.new.self c.loop-at.invariant.part.0 (c.in-Some.at.now, c.in-Some.slot.now) s c.loop-at.invariant.part.1 c.in-Some.ensures.steps no)
    ∙ c.loop-at.invariant.last

pub returns-in-Some-result : goal.returns-in-Some-result
returns-in-Some-result g c =
    let k = c.args.key in
    let own : (c.in-Some.at.now.owner == k.owner) ≡ true = grind (arith, nat_tests) in
    sym (last_here k.owner c.loop-at.earlier c.next_back.new.self (c.in-Some.at.now, c.in-Some.slot.now) c.in-Some-result.stored c.in-Some.ensures.steps own (search rules)) ∙ c.loop-at.invariant.last

pub loop-at-preserved : goal.loop-at-preserved
loop-at-preserved g c =
    let k = c.args.key in
    let none : c.in-Some.slot.now.result ≡ None = search rules in
    record {
      last = last_silent k.owner c.loop-at.earlier c.next_back.new.self (c.in-Some.at.now, c.in-Some.slot.now) c.in-Some.ensures.steps none ∙ c.loop-at.invariant.last;
      part = (
        (c.in-Some.at.now, c.in-Some.slot.now) ∷ c.loop-at.invariant.part.0,
        c.loop-at.invariant.part.1 ∙ ap (λ ws. ws ++ c.loop-at.invariant.part.0) c.in-Some.ensures.steps ∙ append_assoc c.next_back.new.self ((c.in-Some.at.now, c.in-Some.slot.now) ∷ []) c.loop-at.invariant.part.0,
      );
    }
