use Rattle.std.proofs.Common.{◌≡◌, ◌++◌, ◌≤◌, List, length, sym, ap, subst, ◌∙◌, arith, append-nil, drop_of_length-le}
use Rattle.std.specs.List.Sorted.{IsStrictlySortedBy}
use Rattle.std.proofs.lemmas.List.Kept.{IsStrictlySortedBy-filter}
use Rattle.tl_definitions.specs.Positions.{Recorded, position_order, in_order, beats_of_all}
use Rattle.tl_capture.specs.Cursors.{all_left}
use Rattle.tl_capture.specs.Present.{IsPresent}
use Rattle.tl_capture.specs.Windows.{is_within}
use Rattle.tl_capture.proofs.GatherLemmas.{pushed}
use Rattle.tl_capture.proofs.PartLemmas.{ordered_pushed}
use Rattle.tl_capture.proofs.PresentLemmas.{ranges_of, beats_rise}
use Rattle.tl_capture.proofs.present.Present.merge.Goals as goal

pub of-requires : goal.of-requires
of-requires c =
    let fs : List Recorded = c.args.self.now in
    let keep = is_within c.args.from c.args.to in
    let is = ranges_of fs (subst IsPresent c.self.view_is c.self.invariant.0) in
    let past : length c.args.links.now ≤ c.loop-link.link-index = omega arith in
    let all : all_left c.loop-link.cursors.items ≡ pushed keep c.args.links.now fs =
    sym (append-nil (all_left c.loop-link.cursors.items)) ∙ ap (λ ls. all_left c.loop-link.cursors.items ++ pushed keep ls fs) (sym (drop_of_length-le c.args.links.now past)) ∙ c.loop-link.invariant in
    subst (IsStrictlySortedBy position_order) (sym (ap in_order all ∙ ordered_pushed keep c.args.links.now fs is c.requires.links))
    (IsStrictlySortedBy-filter position_order keep (beats_of_all c.args.links.now fs) (beats_rise c.args.links.now fs is))

pub returns : goal.returns
returns c =
    let fs : List Recorded = c.args.self.now in
    let keep = is_within c.args.from c.args.to in
    let is = ranges_of fs (subst IsPresent c.self.view_is c.self.invariant.0) in
    let past : length c.args.links.now ≤ c.loop-link.link-index = omega arith in
    let all : all_left c.loop-link.cursors.items ≡ pushed keep c.args.links.now fs =
    sym (append-nil (all_left c.loop-link.cursors.items)) ∙ ap (λ ls. all_left c.loop-link.cursors.items ++ pushed keep ls fs) (sym (drop_of_length-le c.args.links.now past)) ∙ c.loop-link.invariant in
    c.of.ensures ∙ ap in_order all ∙ ordered_pushed keep c.args.links.now fs is c.requires.links
