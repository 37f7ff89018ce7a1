use Rattle.std.proofs.Common.{◌≡◌, None, take}
use Rattle.tl_stream.specs.Parts.{read_texts}
use Rattle.tl_stream.proofs.parsers.parse_texts.Given as goal

-- the texts so far are all fragments
abbrev pub invariant-loop-text : goal.invariant-loop-text
invariant-loop-text l = read_texts (take l.text-index l.texts) ≡ (l.fragments.items, None)
