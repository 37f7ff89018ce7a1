use Rattle.std.proofs.Common.{inl, inr, Ok, Err, refl, rules}
use Rattle.std.proofs.lemmas.Result.{err_from_is_err_and}
use Rattle.tl_beats.specs.Fragments.{Frag}
use Rattle.tl_beats.specs.declared.fault.FragmentFault.TheVariants as fault
use Rattle.tl_beats.proofs.PartsTexts.{AreParts, answered_as_text}
use Rattle.tl_beats.proofs.fragment.Fragment.new.Goals as goal

pub returns-then-last-first-clause-as_text : goal.returns-then-last-first-clause-as_text
returns-then-last-first-clause-as_text c formed =
    let parts : Frag = record { link = c.args.link; number = c.args.number; first = c.args.first; last = c.args.last; beats = c.args.beats.items } in
    let are : AreParts parts = record { named = search rules; number = search rules; first = search rules; last = search rules; formed = formed } in
    answered_as_text parts (Err fault.BadHeader) are (inl (c.if-last-first.true, refl))

pub returns-in_err-judge-clause-as_text : goal.returns-in_err-judge-clause-as_text
returns-in_err-judge-clause-as_text c formed =
    let parts : Frag = record { link = c.args.link; number = c.args.number; first = c.args.first; last = c.args.last; beats = c.args.beats.items } in
    let are : AreParts parts = record { named = search rules; number = search rules; first = search rules; last = search rules; formed = formed } in
    let p = err_from_is_err_and c.from_residual.result c.from_residual.ensures.1 in
    rw (p.1, p.2) (answered_as_text parts (Err c.in_err-judge.field-0.0) are (inr (c.if-last-first.false, rw c.deref.ensures.value at c.in_err-judge.ensures.fault)))

pub returns-clause-as_text : goal.returns-clause-as_text
returns-clause-as_text c formed =
    let parts : Frag = record { link = c.args.link; number = c.args.number; first = c.args.first; last = c.args.last; beats = c.args.beats.items } in
    let are : AreParts parts = record { named = search rules; number = search rules; first = search rules; last = search rules; formed = formed } in
    answered_as_text parts (Ok parts) are (refl, c.if-last-first.false, rw c.deref.ensures.value at c.in_ok-judge.ensures.kept)
