use Rattle.std.proofs.Common.{refl}
use Rattle.tl_beats.specs.Text.{fragment_text}
use Rattle.tl_beats.proofs.FragmentTexts.{text_again, whole_again}
use Rattle.tl_beats.proofs.laws.written_texts_are_read_back.Goals as goal

pub returns-clause-front : goal.returns-clause-front
returns-clause-front c = λ f rest is. text_again f rest is

pub returns-clause-whole : goal.returns-clause-whole
returns-clause-whole c = λ f is. whole_again (fragment_text f) f is refl
