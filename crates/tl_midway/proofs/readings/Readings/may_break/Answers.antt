use Rattle.std.proofs.Common.{sym, subst}
use Rattle.std.specs.List.{All}
use Rattle.tl_midway.specs.Reading.{shown_reading, IsFormed}
use Rattle.tl_midway.specs.declared.reading.Reading.{Reading}
use Rattle.tl_midway.proofs.ReadingLaws.{one_formed, others_formed}
use Rattle.tl_midway.proofs.readings.Readings.may_break.Goals as goal

pub may_break-requires-clause-head : goal.may_break-requires-clause-head
may_break-requires-clause-head c = one_formed c.args.self.now c.requires.formed

pub any_may_break-requires-clause-formed : goal.any_may_break-requires-clause-formed
any_may_break-requires-clause-formed c = subst (All (λ (r : Reading). IsFormed (shown_reading r))) (sym c.deref.ensures.value) (others_formed c.args.self.now c.requires.formed)
