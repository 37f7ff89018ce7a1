use Rattle.std.proofs.Common.{◌≡◌, ◌++◌, ◌≤◌, List, length, sym, ap, subst, ◌∙◌, arith, append-nil, drop_of_length-le}
use Rattle.tl_definitions.specs.Positions.{Recorded}
use Rattle.tl_capture.specs.Present.{IsPresent}
use Rattle.tl_capture.specs.Windows.{is_within}
use Rattle.tl_capture.proofs.PresentLemmas.{ranges_of}
use Rattle.tl_capture.proofs.GatherLemmas.{pushed, gathered}
use Rattle.tl_capture.proofs.present.Present.gather.Goals as goal

pub returns : goal.returns
returns c =
    let fs : List Recorded = c.args.self.now in
    let is = subst IsPresent c.self.view_is c.self.invariant.0 in
    let past : length c.args.links.now ≤ c.loop-link.link-index = omega arith in
    let all : c.loop-link.beats.items ≡ pushed (is_within c.args.from c.args.to) c.args.links.now fs =
    sym (append-nil c.loop-link.beats.items) ∙ ap (λ ls. c.loop-link.beats.items ++ pushed (is_within c.args.from c.args.to) ls fs) (sym (drop_of_length-le c.args.links.now past)) ∙ c.loop-link.invariant in
    gathered (is_within c.args.from c.args.to) c.args.links.now fs c.loop-link.beats.items c.in_ok-sorted.sorted.items (ranges_of fs is) c.requires.links all c.in_ok-sorted.ensures.permutation c.in_ok-sorted.ensures.order
