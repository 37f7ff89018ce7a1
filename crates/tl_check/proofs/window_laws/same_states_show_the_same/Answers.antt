use Rattle.tl_check.proofs.JoinLaws.{same_states_show_the_same}
use Rattle.tl_check.proofs.window_laws.same_states_show_the_same.Goals as goal

pub returns : goal.returns
returns c = same_states_show_the_same
