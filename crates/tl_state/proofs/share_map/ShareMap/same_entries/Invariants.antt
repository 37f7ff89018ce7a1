use Rattle.std.proofs.Common.{◌≡◌, length}
use Rattle.tl_state.specs.Walk.{entries_left}
use Rattle.tl_state.proofs.share_map.ShareMap.same_entries.Given as goal

abbrev pub invariant-loop-one : goal.invariant-loop-one
invariant-loop-one g l = record {
  onward : l.self ≡ l.other → entries_left l.here ≡ entries_left l.there;
  back : entries_left l.here ≡ entries_left l.there → l.self ≡ l.other;
}

abbrev pub decreases-loop-one : goal.decreases-loop-one
decreases-loop-one g l = length (entries_left l.here)
