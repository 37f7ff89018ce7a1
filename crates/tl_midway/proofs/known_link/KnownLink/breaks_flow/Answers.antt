use Rattle.std.proofs.Common.{ap, ◌∙◌}
use Rattle.tl_definitions.specs.Known.{bare}
use Rattle.tl_definitions.specs.Printed.{breaks_flow_surely}
use Rattle.tl_midway.specs.KnownLink.{shown}
use Rattle.tl_midway.proofs.known_link.KnownLink.breaks_flow.Goals as goal

pub returns : goal.returns
returns c =
    c.breaks_answering.ensures
    ∙ ap (λ request. breaks_flow_surely (shown c.args.self.now).flow request (bare c.args.op c.args.head.now) c.args.rule) c.request.ensures
