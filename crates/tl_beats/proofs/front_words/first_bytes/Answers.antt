use Rattle.core.proofs.dec2flt.Eight.{bytes_up}
use Rattle.tl_beats.proofs.front_words.first_bytes.Goals as goal

pub returns : goal.returns
returns c = bytes_up c.args.word c.args.count c.requires
