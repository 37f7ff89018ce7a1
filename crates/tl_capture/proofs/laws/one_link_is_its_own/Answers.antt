use Rattle.tl_capture.proofs.LawLemmas.{one_link_is_its_own}
use Rattle.tl_capture.proofs.laws.one_link_is_its_own.Goals as goal

pub returns : goal.returns
returns c = one_link_is_its_own
