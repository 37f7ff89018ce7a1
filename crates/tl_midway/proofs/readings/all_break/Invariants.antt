use Rattle.std.proofs.Common.{◌≡◌, true, take}
use Rattle.std.specs.List.{list_all}
use Rattle.tl_midway.specs.Reading.{shown_reading, breaks_as}
use Rattle.tl_midway.proofs.readings.all_break.Given as goal

-- it breaks the rule by each so far
abbrev pub invariant-loop-reading : goal.invariant-loop-reading
invariant-loop-reading l = list_all (λ reading. breaks_as l.link l.beat l.rule (shown_reading reading)) (take l.reading-index l.readings) ≡ true
