use Rattle.std.proofs.Common.{◌≡◌, ◌≤◌, length, take}
use Rattle.tl_stream.specs.Parts.{joined_texts}
use Rattle.tl_stream.proofs.feed.whole_texts.Given as goal

-- the texts so far are what stands before the place
abbrev pub invariant-loop : goal.invariant-loop
invariant-loop l = record {
  within : l.start ≤ length l.bytes;
  taken : joined_texts l.texts.items ≡ take l.start l.bytes;
}
