-- Jobs on windows of monitors.
use Rattle.std.proofs.Common.{◌≡◌, List, sym, subst}
use Rattle.tl_beats.specs.declared.Row.{Row}
use Rattle.tl_pieces.specs.Pieces.{Pass}
use Rattle.tl_board.specs.declared.tally.Tally.{Tally}
use Rattle.tl_board.specs.WatchTasks.{WatchTaskData, IsWatchPassOf, SameButTally}

-- The pass of a task is also that of the task whose monitor holds another tally.
pub pass_stays : (old new : WatchTaskData) → SameButTally old new → (result : Pass Tally (List Row)) → IsWatchPassOf old result → IsWatchPassOf new result
pass_stays old new same result is = subst (λ (t : WatchTaskData). IsWatchPassOf t result) (sym same) (record { begins = is.begins; ends = is.ends; pass = is.pass })
