use Rattle.std.proofs.Common.{◌≡◌, ◌++◌, drop, map}
use Rattle.tl_board.specs.Windows.{key_of}
use Rattle.tl_board.proofs.windows.push_keys.Given as goal

-- those so far and those that are left are all
abbrev pub invariant-loop-window : goal.invariant-loop-window
invariant-loop-window l = l.keys.items ++ map (key_of l.owner) (drop l.window-index l.windows) ≡ l.initial.keys.items ++ map (key_of l.owner) l.windows
