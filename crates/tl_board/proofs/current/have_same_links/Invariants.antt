use Rattle.std.proofs.Common.{◌≡◌, take}
use Rattle.tl_definitions.specs.Managers.{declared_links}
use Rattle.tl_board.proofs.current.have_same_links.Given as goal

-- those below the number are declared alike
abbrev pub invariant-loop-number : goal.invariant-loop-number
invariant-loop-number l = take l.number (declared_links l.own) ≡ take l.number (declared_links l.other)
