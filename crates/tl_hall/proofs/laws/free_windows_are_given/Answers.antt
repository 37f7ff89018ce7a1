use Rattle.tl_hall.proofs.Desks.{free_windows_are_given}
use Rattle.tl_hall.proofs.laws.free_windows_are_given.Goals as goal

pub returns : goal.returns
returns c = free_windows_are_given
