use Rattle.std.proofs.Common.{◌≡◌, ◌≤◌, ◌*◌, length, map, take}
use Rattle.std.specs.List.{join_with_byte}
use Rattle.tl_text.specs.Spelled.{word_text}
use Rattle.tl_text.proofs.writing.line_of.Given as goal

abbrev pub invariant-loop-index : goal.invariant-loop-index
invariant-loop-index l = record {
  within : l.index ≤ length l.words;
  short : length l.line.items ≤ 21 * l.index;
  joined : l.line.items ≡ join_with_byte 32 (map word_text (take l.index l.words));
}
