use Rattle.core.proofs.slice.Flagged as flagged
use Rattle.tl_beats.proofs.front_words.flags_from_ten.Goals as goal

pub returns : goal.returns
returns c = flagged.flags_from_ten c.args.word
