use Rattle.std.proofs.Common.{◌≡◌, length, take}
use Rattle.tl_stream.specs.Parts.{joined_texts}
use Rattle.tl_stream.proofs.feed.byte_count.Given as goal

abbrev pub invariant-loop-text : goal.invariant-loop-text
invariant-loop-text l = l.count ≡ length (joined_texts (take l.text-index l.texts))
