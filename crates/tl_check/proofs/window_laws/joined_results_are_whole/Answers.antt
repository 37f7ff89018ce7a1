use Rattle.tl_check.proofs.JoinLaws.{joined_results_are_whole}
use Rattle.tl_check.proofs.window_laws.joined_results_are_whole.Goals as goal

pub returns : goal.returns
returns c = joined_results_are_whole
