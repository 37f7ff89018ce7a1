use Rattle.tl_check.proofs.JoinLaws.{same_states_are_of_one_manager}
use Rattle.tl_check.proofs.window_laws.same_states_are_of_one_manager.Goals as goal

pub returns : goal.returns
returns c = same_states_are_of_one_manager
