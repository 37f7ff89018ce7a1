use Rattle.std.proofs.Common.{◌≡◌, take}
use Rattle.tl_definitions.specs.Passes.{rows_judged, left_after}
use Rattle.tl_definitions.specs.Tallies.{watching, kept_tally}
use Rattle.tl_monitor.proofs.check.monitor_check.Given as goal

-- what is found and kept is of the beats so far
abbrev pub invariant-loop-at : goal.invariant-loop-at
invariant-loop-at g l =
    let w = l.fn.monitor.watch in
    let start = kept_tally w l.tally in
    record {
      held : l.monitor ≡ record l.fn.monitor { tally = left_after (watching l.number w) start (take l.at-index l.beats) };
      found : l.rows.items ≡ rows_judged (watching l.number w) start (take l.at-index l.beats);
    }
