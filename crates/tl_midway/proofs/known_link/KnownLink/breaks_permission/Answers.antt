use Rattle.std.proofs.Common.{◌∙◌}
use Rattle.tl_definitions.specs.Known.{bare}
use Rattle.tl_midway.proofs.StandLaws.{permission_stands}
use Rattle.tl_midway.proofs.known_link.KnownLink.breaks_permission.Goals as goal

pub returns-clause-stands : goal.returns-clause-stands
returns-clause-stands c m start link before stands =
    c.breaks_shown.ensures ∙ permission_stands m start link before c.args.self.now c.args.strict (bare c.args.op c.args.head.now) c.args.rule stands
