use Rattle.tl_beats.proofs.FragmentTexts.{text_one}
use Rattle.tl_beats.proofs.laws.texts_tell_fragments_apart.Goals as goal

pub returns : goal.returns
returns c f g is_f is_g same = text_one f g is_f is_g same
