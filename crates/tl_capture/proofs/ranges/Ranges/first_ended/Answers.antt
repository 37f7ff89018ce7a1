use Rattle.std.proofs.Common.{◌≡◌, ◌≤◌, ◌<◌, Some, true, false, sym, ap, ◌∙◌, arith}
use Rattle.std.specs.Prelude.{nat_le, slice_get}
use Rattle.std.specs.Arc.{arc_value}
use Rattle.std.specs.Option.{option_map}
use Rattle.std.proofs.lemmas.Bool.Decides.{nat_tests}
use Rattle.tl_beats.specs.Fragments.{Frag}
use Rattle.tl_definitions.specs.Positions.{Recorded}
use Rattle.tl_capture.specs.Present.{recorded}
use Rattle.tl_capture.proofs.EndedLemmas.{first_ends, none_ends, none_there}
use Rattle.tl_capture.proofs.WalkLemmas.{whole_link}
use Rattle.tl_capture.proofs.ranges.Ranges.first_ended.Goals as goal

pub returns-in_err-fragment : goal.returns-in_err-fragment
returns-in_err-fragment c =
    let none = ap (λ fs. slice_get fs 0) (sym (whole_link c.args.link c.args.self.now) ∙ sym c.on_link.ensures.exact ∙ c.in_err-fragment.ensures.steps.0) in
    c.from_residual.ensures ∙ sym (ap (λ fs. option_map (λ (f : Recorded). f.number) (slice_get fs 0)) (none_there c.args.link c.args.cycle c.args.self.now none))

pub returns-then-last-cycle : goal.returns-then-last-cycle
returns-then-last-cycle c =
    let f : Frag = arc_value c.in_ok-fragment.fragment.now in
    let r : Recorded = recorded c.in_ok-fragment.field-0-0 f in
    let at = ap (λ fs. slice_get fs 0) (sym (whole_link c.args.link c.args.self.now) ∙ sym c.on_link.ensures.exact ∙ c.in_ok-fragment.ensures.steps) in
    let last : c.last.result ≡ f.last = c.last.ensures.exact ∙ ap (λ (g : Frag). g.last) c.deref.ensures in
    let by : c.last.result ≤ c.args.cycle = c.if-last-cycle.true in
    let test : nat_le f.last c.args.cycle ≡ true = grind (arith, nat_tests) in
    ap Some (c.number.ensures ∙ ap (λ (g : Frag). g.number) c.deref-then-last-cycle.ensures)
    ∙ sym (ap (option_map (λ (x : Recorded). x.number)) (first_ends c.args.link c.args.cycle c.args.self.now r at test))

pub returns-else-last-cycle : goal.returns-else-last-cycle
returns-else-last-cycle c =
    let f : Frag = arc_value c.in_ok-fragment.fragment.now in
    let r : Recorded = recorded c.in_ok-fragment.field-0-0 f in
    let at = ap (λ fs. slice_get fs 0) (sym (whole_link c.args.link c.args.self.now) ∙ sym c.on_link.ensures.exact ∙ c.in_ok-fragment.ensures.steps) in
    let last : c.last.result ≡ f.last = c.last.ensures.exact ∙ ap (λ (g : Frag). g.last) c.deref.ensures in
    let after : c.args.cycle < c.last.result = c.if-last-cycle.false in
    let test : nat_le f.last c.args.cycle ≡ false = grind (arith, nat_tests) in
    sym (ap (λ fs. option_map (λ (x : Recorded). x.number) (slice_get fs 0)) (none_ends c.args.link c.args.cycle c.args.self.now r c.on_link.ensures.kept at test))
