use Rattle.tl_check.proofs.JoinLaws.{clean_results_are_coherent}
use Rattle.tl_check.proofs.window_laws.clean_results_are_coherent.Goals as goal

pub returns : goal.returns
returns c = clean_results_are_coherent
