use Rattle.tl_midway.proofs.StandingLaws.{met_formed, taken}
use Rattle.tl_midway.proofs.readings.Readings.take_any.Goals as goal

pub standing-standing-requires-clause-formed : goal.standing-standing-requires-clause-formed
standing-standing-requires-clause-formed c =
    let known = c.requires.known in
    met_formed c.args.by_fields c.args.link.now c.args.beat.now known.0 known.1 c.args.self.now c.meet.new.self known.2 (c.meet.ensures.members known.1 known.2.seen) c.meet.ensures.seen

pub returns-clause-takes : goal.returns-clause-takes
returns-clause-takes c readings before has =
    taken c.args.by_fields c.args.link.now c.args.beat.now readings before c.args.self.now c.meet.new.self c.pass.new.self c.standing-standing.result c.requires.beat has
    (c.meet.ensures.members before has.seen) c.meet.ensures.seen c.standing-standing.ensures c.pass.ensures.members (c.pass.ensures.seen before)
