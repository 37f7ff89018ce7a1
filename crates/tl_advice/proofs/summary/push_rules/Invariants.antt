use Rattle.std.proofs.Common.{◌≡◌, ◌++◌, take}
use Rattle.std.specs.Prelude.{string_bytes}
use Rattle.std.specs.List.{flat_map}
use Rattle.tl_advice.specs.Summaries.{tally_line_of}
use Rattle.tl_advice.proofs.summary.push_rules.Given as goal

abbrev pub invariant-loop-tally : goal.invariant-loop-tally
invariant-loop-tally l = string_bytes l.text ≡ string_bytes l.fn.text ++ flat_map tally_line_of (take l.tally-index l.tallies)
