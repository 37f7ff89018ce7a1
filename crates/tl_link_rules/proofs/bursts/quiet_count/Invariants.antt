use Rattle.std.proofs.Common.{◌≤◌, ◌-◌, length, take}
use Rattle.std.specs.List.{All}
use Rattle.tl_link_rules.specs.Bursts.{IsQuiet}
use Rattle.tl_link_rules.proofs.bursts.quiet_count.Given as goal

-- those that were counted are quiet
abbrev pub invariant-loop-count : goal.invariant-loop-count
invariant-loop-count l = record {
  most : l.count ≤ l.most;
  within : l.count ≤ length l.beats;
  quiet : All (IsQuiet l.chan l.head) (take l.count l.beats);
}

abbrev pub decreases-loop-count : goal.decreases-loop-count
decreases-loop-count l = l.most - l.count
