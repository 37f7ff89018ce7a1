use Rattle.std.proofs.Common.{◌++◌, sym, ap, subst, ◌∙◌}
use Rattle.tl_definitions.specs.Positions.{beats_of, all_placed}
use Rattle.tl_capture.specs.Present.{IsPresent, of_link}
use Rattle.tl_capture.specs.Windows.{beats_within}
use Rattle.tl_capture.proofs.PresentLemmas.{ranges_of}
use Rattle.tl_capture.proofs.LawLemmas.{whole, formed_of, own_beats}
use Rattle.tl_capture.proofs.present.Present.link_beats.Goals as goal

pub returns : goal.returns
returns c =
    let is = ranges_of c.args.self.now (subst IsPresent c.self.view_is c.self.invariant.0) in
    let own = own_beats c.args.link c.args.self.now is in
    c.in_ok-push_link.ensures ∙ ap (λ ps. ps ++ beats_within 0 18446744073709551615 (all_placed (of_link c.args.link c.self.inside.ranges))) (c.in_ok-reserve.ensures.items ∙ c.new-beats.ensures.items)
    ∙ ap (λ fs. beats_within 0 18446744073709551615 (all_placed (of_link c.args.link fs))) c.self.view_is ∙ ap (beats_within 0 18446744073709551615) (sym own)
    ∙ whole (beats_of c.args.link c.args.self.now) (formed_of c.args.link c.args.self.now is)
