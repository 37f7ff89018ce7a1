use Rattle.tl_definitions.proofs.HeadLaws.{unfinished_is_the_rest}
use Rattle.tl_definitions.proofs.laws.unfinished_is_the_rest.Goals as goal

pub returns : goal.returns
returns c = unfinished_is_the_rest
