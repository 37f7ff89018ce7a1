use Rattle.std.proofs.Common.{◌≡◌, ◌≤◌, ◌+◌, length, drop}
use Rattle.tl_text.specs.Words.{lines_of}
use Rattle.tl_stream.specs.Shares.{end_from}
use Rattle.tl_stream.proofs.ending.sought.Given as goal

abbrev pub invariant-loop-lines : goal.invariant-loop-lines
invariant-loop-lines l = record {
  after : l.fn.from + l.lines ≤ l.place;
  within : l.place ≤ length l.bytes;
  read : end_from 0 l.fn.from (lines_of (drop l.fn.from l.bytes)) ≡ end_from l.lines l.place (lines_of (drop l.place l.bytes));
}
