use Rattle.std.proofs.Common.{◌≡◌, refl}
use Rattle.std.specs.List.Sorted.{IsStrictlySortedBy}
use Rattle.test_desk.proofs.logs.two.Goals as goal

pub returns : goal.returns
unfolding IsStrictlySortedBy
returns c = ((refl, tt), (tt, tt))
