use Rattle.std.proofs.Common.{◌≡◌, ◌+◌, ◌<◌, ◌≤◌, eqb-true, eq-eqb, length, get_or, drop, List, ap, arith, subst, length-append, drop_of_length-le, ◌∙◌}
use Rattle.tl_definitions.specs.Positions.{Recorded, all_placed}
use Rattle.tl_capture.specs.Present.{IsPresent, of_link}
use Rattle.tl_capture.specs.Windows.{is_within, beats_within}
use Rattle.tl_capture.proofs.GatherLemmas.{own, pushed}
use Rattle.tl_capture.proofs.MatchLemmas.{no_decides}
use Rattle.tl_capture.proofs.PartLemmas.{pushed_at, pushed_count}
use Rattle.tl_capture.proofs.PresentLemmas.{ranges_of}
use Rattle.tl_capture.proofs.present.Present.has_as_many.Goals as goal

pub returns-in-None : goal.returns-in-None
returns-in-None c =
    let fs : List Recorded = c.args.self.now in
    let keep = is_within c.args.from c.args.to in
    let less : c.loop-link.left < length (own keep (get_or c.args.links.now c.loop-link.link-index 0) fs) =
    subst (λ gs. c.loop-link.left < length (beats_within c.args.from c.args.to (all_placed (of_link (get_or c.args.links.now c.loop-link.link-index 0) gs)))) c.self.view_is c.in-None.ensures in
    let known : c.loop-link.left + length (pushed keep c.args.links.now fs) ≡ c.args.count + length (pushed keep (drop c.loop-link.link-index c.args.links.now) fs) = c.loop-link.invariant in
    let next = ap length (pushed_at keep c.args.links.now fs c.loop-link.link-index c.loop-link-test.true)
    ∙ length-append (own keep (get_or c.args.links.now c.loop-link.link-index 0) fs) (pushed keep (drop (c.loop-link.link-index + 1) c.args.links.now) fs) in
    let all = pushed_count keep c.args.links.now fs (ranges_of fs (subst IsPresent c.self.view_is c.self.invariant.0)) c.requires.links in
    no_decides (λ e. absurd (omega (arith, e)))

pub returns : goal.returns
returns c =
    let fs : List Recorded = c.args.self.now in
    let keep = is_within c.args.from c.args.to in
    let known : c.loop-link.left + length (pushed keep c.args.links.now fs) ≡ c.args.count + length (pushed keep (drop c.loop-link.link-index c.args.links.now) fs) = c.loop-link.invariant in
    let past : length c.args.links.now ≤ c.loop-link.link-index = omega arith in
    let none : length (pushed keep (drop c.loop-link.link-index c.args.links.now) fs) ≡ 0 = ap (λ ls. length (pushed keep ls fs)) (drop_of_length-le c.args.links.now past) in
    let all = pushed_count keep c.args.links.now fs (ranges_of fs (subst IsPresent c.self.view_is c.self.invariant.0)) c.requires.links in (
      (λ yes. let zero : c.loop-link.left ≡ 0 = eqb-true c.loop-link.left 0 yes in omega arith),
      (λ e. eq-eqb c.loop-link.left 0 (omega (arith, e))),
    )
