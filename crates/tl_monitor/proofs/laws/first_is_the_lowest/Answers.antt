use Rattle.tl_monitor.proofs.OutLemmas.{lowest}
use Rattle.tl_monitor.proofs.laws.first_is_the_lowest.Goals as goal

pub returns : goal.returns
returns c b n are first = lowest n b.slots are.rises first
