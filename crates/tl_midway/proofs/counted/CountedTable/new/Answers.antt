use Rattle.tl_midway.proofs.CountedLaws.{counted_new}
use Rattle.tl_midway.proofs.counted.CountedTable.new.Goals as goal

pub returns-clause-counted : goal.returns-clause-counted
returns-clause-counted g c block_of first none =
    counted_new block_of first (record { entries = c.new.result; counted = c.new-2.result }) c.new.ensures c.new-2.ensures.blocks c.new-2.ensures.counts none
