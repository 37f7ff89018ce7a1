use Rattle.std.proofs.Common.{◌≡◌, ◌+◌, ◌≤◌, length}
use Rattle.tl_text.specs.Words.{lines_of}
use Rattle.tl_formats.specs.Waivers.{waivers_from, waivers_in}
use Rattle.tl_formats.proofs.waivers.read_waivers.Given as goal

abbrev pub invariant-loop-next : goal.invariant-loop-next
invariant-loop-next l = record {
  read : waivers_from l.topo l.waivers.items l.number (lines_of l.rest) ≡ waivers_in l.topo (lines_of l.text);
  counted : l.number + length l.rest ≤ length l.text + 1;
}

abbrev pub decreases-loop-next : goal.decreases-loop-next
decreases-loop-next l = length l.rest
