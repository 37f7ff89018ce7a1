use Rattle.tl_hall.proofs.Touched.{touched_windows_are_given}
use Rattle.tl_hall.proofs.laws.touched_windows_are_given.Goals as goal

pub returns : goal.returns
returns c = touched_windows_are_given
