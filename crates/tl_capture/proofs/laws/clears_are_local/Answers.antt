use Rattle.tl_capture.proofs.TouchLemmas.{clears_are_local}
use Rattle.tl_capture.proofs.laws.clears_are_local.Goals as goal

pub returns : goal.returns
returns c = clears_are_local
