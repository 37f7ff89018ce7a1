use Rattle.tl_capture.proofs.LawLemmas.{windows_are_whole}
use Rattle.tl_capture.proofs.laws.windows_are_whole.Goals as goal

pub returns : goal.returns
returns c = windows_are_whole
