use Rattle.tl_desk.proofs.BlankLemmas.{blank_windows_are_given}
use Rattle.tl_desk.proofs.laws.blank_windows_are_given.Goals as goal

pub returns : goal.returns
returns c = blank_windows_are_given
