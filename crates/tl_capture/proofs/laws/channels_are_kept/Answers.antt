use Rattle.tl_capture.proofs.LawLemmas.{channels_are_kept}
use Rattle.tl_capture.proofs.laws.channels_are_kept.Goals as goal

pub returns : goal.returns
returns c = channels_are_kept
