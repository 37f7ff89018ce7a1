use Rattle.std.proofs.Common.{◌∙◌}
use Rattle.tl_midway.proofs.StandLaws.{grant_stands}
use Rattle.tl_midway.proofs.known_link.KnownLink.grant_open.Goals as goal

pub returns-clause-stands : goal.returns-clause-stands
returns-clause-stands c m start link before stands = c.is_open.ensures ∙ grant_stands m start link before c.args.self.now c.args.block stands
