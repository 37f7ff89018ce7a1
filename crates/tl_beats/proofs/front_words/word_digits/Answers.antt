use Rattle.std.proofs.Common.{◌∙◌, sym, arith}
use Rattle.core.proofs.dec2flt.Eight.{lanes_are, first_other, shifted_is}
use Rattle.tl_beats.proofs.front_words.word_digits.Goals as goal

pub returns-clause-read : goal.returns-clause-read
returns-clause-read c xs eight is =
    let first = first_other xs _ eight is _ c.flags_from_ten-others.ensures (omega (arith, c.if-others-eq0.false)) in
    let s = shifted_is xs _ c.first_bytes.result eight (omega arith) (omega arith) (c.first_bytes.ensures ∙ rw (lanes_are xs _ eight is)) in
    (sym first.0, c.eight_digits.ensures s.0 s.1 s.2 ∙ s.3)
