use Rattle.std.proofs.Common.{◌≡◌, ◌+◌, [], length}
use Rattle.tl_text.specs.Words.{lines_of, IsBehind}
use Rattle.tl_beats.specs.Fragments.{AreBeats}
use Rattle.tl_beats.specs.Reading.{beats_from}
use Rattle.tl_beats.proofs.reading.beats_of.Given as goal

abbrev pub invariant-loop-front : goal.invariant-loop-front
invariant-loop-front l = record {
  read : beats_from l.first l.last (length l.beats.items + 2) l.beats.items (lines_of l.rest) ≡ beats_from l.first l.last 2 [] (lines_of l.bytes);
  kept : AreBeats l.first l.last l.beats.items;
  behind : IsBehind l.bytes l.rest;
}

abbrev pub decreases-loop-front : goal.decreases-loop-front
decreases-loop-front l = length l.rest
