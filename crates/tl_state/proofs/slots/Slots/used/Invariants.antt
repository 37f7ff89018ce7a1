use Rattle.std.proofs.Common.{◌≡◌, ◌≤◌, ℕ, None, length, slice_index_or}
use Rattle.tl_state.proofs.slots.Slots.used.Given as goal

abbrev pub invariant-loop-used : goal.invariant-loop-used
invariant-loop-used g l = (l.used ≤ length l.self.low.items) × ((key : ℕ) → l.used ≤ key → slice_index_or l.self.low.items key None ≡ None)

abbrev pub decreases-loop-used : goal.decreases-loop-used
decreases-loop-used g l = l.used
