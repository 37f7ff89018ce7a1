use Rattle.std.proofs.Common.{◌≡◌, take}
use Rattle.tl_definitions.specs.Positions.{beats_of_all}
use Rattle.tl_capture.specs.Windows.{beats_in}
use Rattle.tl_check.specs.LinkByLink.{of_each}
use Rattle.tl_board.proofs.apart.beats_apart.Given as goal

-- those of the first links
abbrev pub invariant-loop-link : goal.invariant-loop-link
invariant-loop-link l = l.lists.items ≡ of_each (take l.link-index l.links) (beats_in l.window (beats_of_all l.links l.present))
