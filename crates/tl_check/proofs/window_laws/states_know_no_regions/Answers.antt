use Rattle.tl_check.proofs.JoinLaws.{states_know_no_regions}
use Rattle.tl_check.proofs.window_laws.states_know_no_regions.Goals as goal

pub returns : goal.returns
returns c = states_know_no_regions
