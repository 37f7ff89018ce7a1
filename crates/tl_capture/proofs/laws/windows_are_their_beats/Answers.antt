use Rattle.tl_capture.proofs.TouchLemmas.{windows_are_their_beats}
use Rattle.tl_capture.proofs.laws.windows_are_their_beats.Goals as goal

pub returns : goal.returns
returns c = windows_are_their_beats
