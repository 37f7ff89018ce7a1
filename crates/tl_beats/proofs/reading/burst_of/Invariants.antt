use Rattle.std.proofs.Common.{◌≡◌, ◌+◌, length}
use Rattle.tl_text.specs.Words.{lines_of, IsBehind}
use Rattle.tl_beats.specs.Fragments.{AreBeats}
use Rattle.tl_beats.specs.Reading.{beats_from}
use Rattle.tl_beats.proofs.reading.burst_of.Given as goal

abbrev pub invariant-loop-beat : goal.invariant-loop-beat
invariant-loop-beat l = record {
  read : beats_from l.first l.last (length l.beats.items + 2) l.beats.items (lines_of l.rest) ≡ beats_from l.first l.last (length l.fn.beats.items + 2) l.fn.beats.items (lines_of l.text);
  kept : AreBeats l.first l.last l.beats.items;
  behind : IsBehind l.text l.rest;
}

abbrev pub decreases-loop-beat : goal.decreases-loop-beat
decreases-loop-beat l = length l.rest
