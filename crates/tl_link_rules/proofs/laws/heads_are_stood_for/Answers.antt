use Rattle.tl_link_rules.proofs.StandLaws.{heads_are_stood_for}
use Rattle.tl_link_rules.proofs.laws.heads_are_stood_for.Goals as goal

pub returns : goal.returns
returns c = heads_are_stood_for
