use Rattle.std.proofs.Common.{◌≡◌, ℕ, ◌<◌, None, slice_index_or}
use Rattle.tl_state.proofs.slots.Slots.agrees.Given as goal

abbrev pub invariant-loop-place : goal.invariant-loop-place
invariant-loop-place g l = (key : ℕ) → key < l.place → slice_index_or l.self.low.items key None ≡ slice_index_or l.other.low.items key None
