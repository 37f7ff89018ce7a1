use Rattle.std.proofs.Common.{Some, sym, ap}
use Rattle.tl_midway.specs.LeadIns.{with_beat}
use Rattle.tl_midway.specs.Readings.{shown_readings}
use Rattle.tl_midway.proofs.StandingLaws.{sole_alone, gone_on}
use Rattle.tl_midway.proofs.readings.Readings.take.Goals as goal

pub returns-then-goes_on-clause-takes : goal.returns-then-goes_on-clause-takes
returns-then-goes_on-clause-takes c readings before has =
    let sole = c.goes_on.ensures.sole c.if-goes_on.true in
    gone_on c.args.by_fields c.args.link.now c.args.beat.now readings before c.args.self.now c.pass_later.new.self c.requires.beat has
    (sole_alone (Some sole.0) sole.1 (shown_readings c.args.self.now) sole.2) (c.goes_on.ensures.stands c.if-goes_on.true c.args.link.now) (c.pass_later.ensures.members c.args.link.now) (c.pass_later.ensures.seen before)

pub returns-then-goes_on-clause-lead_ins : goal.returns-then-goes_on-clause-lead_ins
returns-then-goes_on-clause-lead_ins c =
    let sole = c.goes_on.ensures.sole c.if-goes_on.true in
    ap (λ b. with_beat b c.args.lead_ins.now) (sym (sole_alone (Some sole.0) sole.1 (shown_readings c.args.self.now) sole.2))
