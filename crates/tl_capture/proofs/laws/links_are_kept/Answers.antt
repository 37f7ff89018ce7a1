use Rattle.tl_capture.proofs.LawLemmas.{links_are_kept}
use Rattle.tl_capture.proofs.laws.links_are_kept.Goals as goal

pub returns : goal.returns
returns c = links_are_kept
