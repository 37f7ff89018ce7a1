use Rattle.tl_capture.proofs.TouchLemmas.{puts_are_local}
use Rattle.tl_capture.proofs.laws.puts_are_local.Goals as goal

pub returns : goal.returns
returns c = puts_are_local
