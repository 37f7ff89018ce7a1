use Rattle.std.proofs.Common.{sym, ◌∙◌}
use Rattle.tl_midway.specs.Readings.{shown_readings}
use Rattle.tl_midway.proofs.ReadingLaws.{told_in_lead}
use Rattle.tl_midway.proofs.readings.Readings.meet.Goals as goal

pub returns-then-in_lead_in-clause-members : goal.returns-then-in_lead_in-clause-members
returns-then-in_lead_in-clause-members c before tells =
    told_in_lead c.args.by_fields c.args.link.now c.args.beat.now before c.room-room.result (shown_readings c.args.self.now) (shown_readings c.keep.new.self)
    (λ missing. c.room-room.ensures before missing tells) c.if-by_fields.true (sym c.in_lead_in.ensures ∙ c.if-in_lead_in.true) c.keep.ensures.members
