use Rattle.std.proofs.Common.{◌≤◌, length, take}
use Rattle.tl_beats.specs.Fragments.{AreBeats}
use Rattle.tl_beats.proofs.places.judge.Given as goal

abbrev pub invariant-loop-index : goal.invariant-loop-index
invariant-loop-index l = record { within : l.index ≤ length l.beats; kept : AreBeats l.first l.last (take l.index l.beats) }
