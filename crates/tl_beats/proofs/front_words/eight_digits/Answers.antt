use Rattle.core.proofs.dec2flt.Eight.{eight_is}
use Rattle.tl_beats.proofs.front_words.eight_digits.Goals as goal

pub returns : goal.returns
returns c ds eight e = eight_is ds c.args.word eight e
