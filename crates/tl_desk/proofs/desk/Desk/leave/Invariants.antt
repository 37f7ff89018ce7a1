use Rattle.std.proofs.Common.{◌≡◌, length}
use Rattle.std.specs.Vec.Iter.{into_iter_items, into_iter_len}
use Rattle.tl_desk.specs.Plays.{AreOut}
use Rattle.tl_desk.proofs.PlayLemmas.{Left}
use Rattle.tl_desk.proofs.desk.Desk.leave.Given as goal

-- the jobs that are left are out, and nothing but them is to be abandoned
abbrev pub invariant-loop-place : goal.invariant-loop-place
invariant-loop-place g l = record {
  out : AreOut (into_iter_items l.places) l.self;
  len : into_iter_len l.places ≡ length (into_iter_items l.places);
  left : Left l.fn.places.items l.fn.self (into_iter_items l.places) l.self;
}

abbrev pub decreases-loop-place : goal.decreases-loop-place
decreases-loop-place g l = into_iter_len l.places
