use Rattle.tl_definitions.proofs.JudgingLaws.{judging_is_exact}
use Rattle.tl_definitions.proofs.judging.judging_is_exact.Goals as goal

pub returns : goal.returns
returns c = judging_is_exact
