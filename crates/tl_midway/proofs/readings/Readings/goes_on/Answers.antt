use Rattle.std.specs.Option.{option_copied}
use Rattle.std.proofs.Common.{ap}
use Rattle.tl_midway.specs.Readings.{shown_readings}
use Rattle.tl_midway.proofs.StandingLaws.{sole_goes_on}
use Rattle.tl_midway.proofs.readings.Readings.goes_on.Goals as goal

pub returns-in-Some-clause-stands : goal.returns-in-Some-clause-stands
returns-in-Some-clause-stands c h link =
    let found = c.sole_head.ensures c.in-Some.head.now (ap option_copied c.in-Some.is) in
    sole_goes_on link c.args.beat.now c.in-Some.head.now found.0 (shown_readings c.args.self.now) found.1 (c.keeps_burst.ensures h link)

pub returns-in-Some-clause-sole : goal.returns-in-Some-clause-sole
returns-in-Some-clause-sole c h =
    let found = c.sole_head.ensures c.in-Some.head.now (ap option_copied c.in-Some.is) in
    (c.in-Some.head.now, found.0, found.1)
