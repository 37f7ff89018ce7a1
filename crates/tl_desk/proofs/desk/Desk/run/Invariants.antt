use Rattle.std.proofs.Common.{◌≡◌, ◌+◌, ◌≤◌, length, vec_len}
use Rattle.std.specs.Prelude.{vec_capacity}
use Rattle.std.specs.Vec.Iter.{into_iter_items, into_iter_len}
use Rattle.tl_desk.specs.Plays.{AreOut}
use Rattle.tl_desk.proofs.PlayLemmas.{Ran}
use Rattle.tl_desk.proofs.desk.Desk.run.Given as goal

-- there is room for what is left, the jobs in their places are out, and a run of what is left from here gives the run of all
abbrev pub invariant-loop-step : goal.invariant-loop-step
invariant-loop-step g l = record {
  places : vec_len l.places + into_iter_len l.steps ≤ vec_capacity l.places;
  replies : vec_len l.replies + into_iter_len l.steps ≤ vec_capacity l.replies;
  len : into_iter_len l.steps ≡ length (into_iter_items l.steps);
  out : AreOut l.places.items l.self;
  ran : Ran (λ m. (g.M.Monitor.held m).watch) l.fn.steps.items l.fn.places.items l.fn.self (into_iter_items l.steps) l.replies.items l.places.items l.self;
}

abbrev pub decreases-loop-step : goal.decreases-loop-step
decreases-loop-step g l = into_iter_len l.steps
