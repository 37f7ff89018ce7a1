use Rattle.std.proofs.Common.{vec_len}
use Rattle.test_desk.proofs.shelf.Shelf.clear.Given as goal

abbrev pub decreases-loop-held : goal.decreases-loop-held
decreases-loop-held l = vec_len l.places
