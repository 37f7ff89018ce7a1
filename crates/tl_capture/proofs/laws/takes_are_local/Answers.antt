use Rattle.tl_capture.proofs.TouchLemmas.{takes_are_local}
use Rattle.tl_capture.proofs.laws.takes_are_local.Goals as goal

pub returns : goal.returns
returns c = takes_are_local
