use Rattle.std.proofs.Common.{List}
use Rattle.tl_beats.specs.Fragments.{Frag}
use Rattle.tl_apart.specs.Beside.{Follows}
use Rattle.tl_pass.proofs.beside.feed_all.Given as goal

abbrev pub invariant-loop : goal.invariant-loop
invariant-loop g l = (fs : List Frag) × g.S.Supply.has_given l.fn.supply l.supply fs × Follows l.topo l.link fs l.fn.feed l.feed
