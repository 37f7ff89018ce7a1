use Rattle.tl_midway.proofs.LinkReadingLaws.{first_law}
use Rattle.tl_midway.proofs.link_readings.LinkReadings.new.Goals as goal

pub returns-clause-first : goal.returns-clause-first
returns-clause-first c = first_law c.args.law c.args.link.now
    (record { number = c.args.number; a = c.in_ok-new.field-0; b = c.in_ok-new-2.field-0; c = c.in_ok-new-3.field-0; d = c.in_ok-new-4.field-0; e = c.in_ok-new-5.field-0 })
    c.most.result c.most-2.result c.most-3.result c.most-4.result c.most-5.result
    (c.most.ensures, c.in_ok-new.ensures.members, c.in_ok-new.ensures.seen) (c.most-2.ensures, c.in_ok-new-2.ensures.members, c.in_ok-new-2.ensures.seen)
    (c.most-3.ensures, c.in_ok-new-3.ensures.members, c.in_ok-new-3.ensures.seen) (c.most-4.ensures, c.in_ok-new-4.ensures.members, c.in_ok-new-4.ensures.seen)
    (c.most-5.ensures, c.in_ok-new-5.ensures.members, c.in_ok-new-5.ensures.seen)
