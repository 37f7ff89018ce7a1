use Rattle.std.proofs.Common.{List}
use Rattle.tl_beats.specs.Fragments.{Frag}
use Rattle.tl_pass.specs.Beside.{IsBeside}
use Rattle.tl_turns.proofs.lanes.rows_of_lanes.Given as goal

abbrev pub invariant-loop-round : goal.invariant-loop-round
invariant-loop-round g l = (fs : List Frag) × IsBeside l.sieve.topo.now fs l.beside
