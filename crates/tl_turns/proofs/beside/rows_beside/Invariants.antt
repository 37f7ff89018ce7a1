use Rattle.std.proofs.Common.{List, None}
use Rattle.tl_beats.specs.Fragments.{Frag}
use Rattle.tl_pass.specs.Parts.{IsWhole}
use Rattle.tl_turns.proofs.beside.rows_beside.Given as goal

abbrev pub invariant-loop-round : goal.invariant-loop-round
invariant-loop-round g l = (fs : List Frag) × IsWhole None l.sieve.topo.now fs l.whole
