use Rattle.std.specs.List.{All}
use Rattle.tl_topology.specs.Regions.{areas_of}
use Rattle.tl_beats.specs.Beats.{IsWellFormed}
use Rattle.tl_check.specs.Apart.{AreFormed}
use Rattle.tl_midway.proofs.NamedLaws.{AreOn}
use Rattle.tl_midway.proofs.named.named_walk.Given as goal

-- the state stands for the beats so far; the rows with those of the beats that are left are all
abbrev pub invariant-loop-at : goal.invariant-loop-at
invariant-loop-at l = record {
  formed : All (λ p. IsWellFormed p.beat) l.at-iterator;
  state : AreFormed l.state.state;
  on : AreOn l.link l.exponent (areas_of l.regions) l.state l.initial.rows.items l.rows.items l.at-iterator l.fn.walk;
}
