use Rattle.std.proofs.Common.{◌≡◌, ◌++◌, drop}
use Rattle.tl_board.proofs.WindowLemmas.{keys_with}
use Rattle.tl_board.proofs.windows.keys_of.Given as goal

-- those so far and those of the owners that are left are all
abbrev pub invariant-loop-owner : goal.invariant-loop-owner
invariant-loop-owner l = l.keys.items ++ keys_with (drop l.owner-index l.owners) l.windows ≡ keys_with l.owners l.windows
