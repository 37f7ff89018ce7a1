use Rattle.tl_desk.proofs.OldestLemmas.{AreLeft}
use Rattle.tl_desk.proofs.desk.Desk.oldest_live.Given as goal

-- all that are live are among those that are left
abbrev pub invariant-loop-ticket : goal.invariant-loop-ticket
invariant-loop-ticket g l = (goal.iterator-loop-ticket g).can_next l.ticket-iterator × (goal.iterator-loop-ticket g).is_finite l.ticket-iterator × AreLeft l.self l.ticket-iterator
