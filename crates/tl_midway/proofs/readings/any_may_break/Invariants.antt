use Rattle.std.proofs.Common.{◌≡◌, false, take}
use Rattle.std.specs.List.{list_any}
use Rattle.tl_midway.specs.Reading.{shown_reading, may_as}
use Rattle.tl_midway.proofs.readings.any_may_break.Given as goal

-- by none so far may it break the rule
abbrev pub invariant-loop-reading : goal.invariant-loop-reading
invariant-loop-reading l = list_any (λ reading. may_as l.link l.beat l.rule (shown_reading reading)) (take l.reading-index l.readings) ≡ false
