use Rattle.tl_definitions.proofs.WatchLaws.{watched_chains_are_whole}
use Rattle.tl_definitions.proofs.watching.watched_chains_are_whole.Goals as goal

pub returns : goal.returns
returns c = watched_chains_are_whole
