use Rattle.std.proofs.Common.{◌∷◌, map}
use Rattle.tl_definitions.specs.Readings.{due, first_readings}
use Rattle.tl_midway.specs.Members.{SameMembers}
use Rattle.tl_midway.specs.Reading.{shown_reading}
use Rattle.tl_midway.proofs.readings.past_readings.Given as goal

-- those of fewer beats
abbrev pub invariant-loop-fewer : goal.invariant-loop-fewer
invariant-loop-fewer l = SameMembers (due ∷ map shown_reading l.readings.items) (first_readings l.fewer)
