use Rattle.std.specs.Option.{option_copied}
use Rattle.std.proofs.Common.{ap}
use Rattle.tl_midway.proofs.readings.Readings.is_settled.Goals as goal

pub returns-in-Some : goal.returns-in-Some
returns-in-Some c h =
    let head = c.in-Some.field-0.now in
    let found = c.sole_head.ensures head (ap option_copied c.in-Some.is) in
    (head, found.0, found.1)
