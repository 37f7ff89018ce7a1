use Rattle.std.proofs.Common.{sym, ap, ◌∙◌, subst, length, ◌<◌}
use Rattle.tl_definitions.specs.Positions.{Recorded}
use Rattle.std.specs.Prelude.{slice_get}
use Rattle.std.specs.Option.{option_map}
use Rattle.tl_capture.specs.Present.{cleared, of_link}
use Rattle.tl_capture.proofs.NumberLemmas.{cleared_without, cleared_none, fewer_without}
use Rattle.tl_capture.proofs.present.Present.clear.Goals as goal

pub loop-number-smaller : goal.loop-number-smaller
loop-number-smaller c = subst (λ n. n < length c.loop-number.self) (sym (ap length c.take.ensures.rest))
    (fewer_without c.args.link c.in-Some.number c.loop-number.self (ap (λ fs. option_map (λ (f : Recorded). f.number) (slice_get (of_link c.args.link fs) 0)) (sym c.self.view_is) ∙ sym c.in-Some.ensures))

pub loop-number-smaller-in-Some : goal.loop-number-smaller-in-Some
loop-number-smaller-in-Some c = subst (λ n. n < length c.loop-number.self) (sym (ap length c.take.ensures.rest))
    (fewer_without c.args.link c.in-Some.number c.loop-number.self (ap (λ fs. option_map (λ (f : Recorded). f.number) (slice_get (of_link c.args.link fs) 0)) (sym c.self.view_is) ∙ sym c.in-Some.ensures))

pub loop-number-preserved : goal.loop-number-preserved
loop-number-preserved c = ap (cleared c.args.link) c.take.ensures.rest ∙ cleared_without c.args.link c.in-Some.number c.loop-number.self ∙ c.loop-number.invariant

pub loop-number-preserved-in-Some : goal.loop-number-preserved-in-Some
loop-number-preserved-in-Some c = ap (cleared c.args.link) c.take.ensures.rest ∙ cleared_without c.args.link c.in-Some.number c.loop-number.self ∙ c.loop-number.invariant

pub returns : goal.returns
returns c = sym (cleared_none c.args.link c.loop-number.self (ap (λ fs. option_map (λ (f : Recorded). f.number) (slice_get (of_link c.args.link fs) 0)) (sym c.self.view_is) ∙ sym c.first.ensures ∙ c.in_default.is)) ∙ c.loop-number.invariant
