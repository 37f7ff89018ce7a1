use Rattle.std.proofs.Common.{◌≡◌, ◌∙◌, ap, sym, subst, rules, Some, None}
use Rattle.tl_pieces.specs.Marks.{shown, IsMarked, IsMarkedBut}
use Rattle.tl_pieces.proofs.MarkLemmas.{judged_next, judged_none}
use Rattle.tl_pieces.proofs.ShowLemmas.{shown_wanted}
use Rattle.tl_pieces.proofs.marks.judge_next.Goals as goal

pub returns-in-Some-clause-marked : goal.returns-in-Some-clause-marked
returns-in-Some-clause-marked g c =
    let os = c.args.openings.now in
    let but : IsMarkedBut g.S.Same.same os (Some c.in-Some.next) c.args.slots.now = subst (λ n. IsMarkedBut g.S.Same.same os n c.args.slots.now) c.in-Some.is c.requires in
    subst (IsMarked g.S.Same.same os None) (sym c.judge.ensures.slots) (judged_next g.S.Same.same os c.in-Some.next c.judge.result c.args.slots.now c.judge.ensures.order but c.judge.ensures.exact)

pub returns-in-Some-clause-shown : goal.returns-in-Some-clause-shown
returns-in-Some-clause-shown g c = ap shown c.judge.ensures.slots ∙ shown_wanted c.in-Some.next c.judge.result c.args.slots.now

pub returns-in_default-clause-marked : goal.returns-in_default-clause-marked
returns-in_default-clause-marked g c =
    let none : c.args.next ≡ None = search rules in
    judged_none g.S.Same.same c.args.openings.now c.args.slots.now (subst (λ n. IsMarkedBut g.S.Same.same c.args.openings.now n c.args.slots.now) none c.requires)
