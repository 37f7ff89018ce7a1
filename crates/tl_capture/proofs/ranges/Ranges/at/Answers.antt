use Rattle.std.proofs.Common.{ap, ◌∙◌}
use Rattle.std.specs.Option.{option_map}
use Rattle.std.specs.Arc.{arc_value}
use Rattle.std.specs.List.{find}
use Rattle.tl_capture.specs.Present.{recorded}
use Rattle.tl_capture.specs.Ranges.{ends_at}
use Rattle.tl_capture.proofs.PutLemmas.{shown_lookup}
use Rattle.tl_capture.proofs.WalkLemmas.{copied_map}
use Rattle.tl_capture.proofs.ranges.Ranges.at.Goals as goal

pub returns : goal.returns
returns c = copied_map (λ f. recorded c.args.link (arc_value f)) c.get.result ∙ ap (option_map (λ f. recorded c.args.link (arc_value f))) c.get.ensures.value
    ∙ shown_lookup arc_value c.args.link c.args.last c.self.inside.ends.entries c.self.invariant.keyed ∙ ap (find (ends_at c.args.link c.args.last)) c.self.view_is
