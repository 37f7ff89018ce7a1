use Rattle.tl_desk.proofs.EndLemmas.{accounted_for}
use Rattle.tl_desk.proofs.laws.monitors_are_accounted_for.Goals as goal

pub returns : goal.returns
returns c = accounted_for
