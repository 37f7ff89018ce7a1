use Rattle.tl_definitions.proofs.JudgingLaws.{chains_are_whole}
use Rattle.tl_definitions.proofs.judging.chains_are_whole.Goals as goal

pub returns : goal.returns
returns c = chains_are_whole
