use Rattle.tl_beats.proofs.OneAnswer.{one_answer}
use Rattle.tl_beats.proofs.laws.parts_have_one_answer.Goals as goal

pub returns : goal.returns
returns c = λ parts r s x y. one_answer parts r s x y
