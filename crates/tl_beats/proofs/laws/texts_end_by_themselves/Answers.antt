use Rattle.tl_beats.proofs.FragmentTexts.{text_alone}
use Rattle.tl_beats.proofs.laws.texts_end_by_themselves.Goals as goal

pub returns : goal.returns
returns c f g rest is_f is_g same = (text_alone f g rest is_f is_g same).1
