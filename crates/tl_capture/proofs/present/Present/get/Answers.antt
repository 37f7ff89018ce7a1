use Rattle.std.proofs.Common.{sym, ap, ◌∙◌}
use Rattle.tl_capture.specs.Present.{numbered}
use Rattle.tl_capture.proofs.EditLemmas.{found_end}
use Rattle.tl_capture.proofs.present.Present.get.Goals as goal

pub returns : goal.returns
returns c = c.at.ensures ∙ found_end c.args.link c.args.number c.in_ok-last.field-0.now c.self.inside.numbers.entries c.self.inside.ranges c.self.invariant.0 c.self.invariant.1 (sym c.in_ok-last.ensures.value)
    ∙ ap (numbered c.args.link c.args.number) c.self.view_is
