use Rattle.std.proofs.Common.{sym, subst, ◌∙◌}
use Rattle.tl_midway.specs.Standing.{IsKnown}
use Rattle.tl_midway.proofs.LeadInLaws.{own_channel}
use Rattle.tl_midway.proofs.ManagerReadingLaws.{own_known}
use Rattle.tl_midway.proofs.manager_readings.ManagerReadings.channel.Goals as goal

pub returns-clause-stands : goal.returns-clause-stands
returns-clause-stands c m start before stands =
    own_channel m start before c.args.at.now c.args.self.now c.unwrap-place.result c.index.result.now c.channel.result.now (sym c.place.ensures ∙ c.unwrap-place.ensures) c.requires.own
    c.index.ensures c.channel.ensures stands

pub returns-clause-known : goal.returns-clause-known
returns-clause-known c =
    subst IsKnown (sym c.channel.ensures)
    (own_known c.args.at.now c.args.self.now c.unwrap-place.result c.index.result.now (sym c.place.ensures ∙ c.unwrap-place.ensures) c.requires.own c.index.ensures c.requires.known c.args.at.now.beat.chan)
