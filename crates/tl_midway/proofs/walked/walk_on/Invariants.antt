use Rattle.std.specs.List.{All, Contains}
use Rattle.tl_topology.specs.Regions.{areas_of}
use Rattle.tl_beats.specs.Beats.{IsWellFormed}
use Rattle.tl_definitions.specs.Managers.{declared_links, manager_at}
use Rattle.tl_definitions.specs.Positions.{clients_of}
use Rattle.tl_midway.specs.State.{IsOf}
use Rattle.tl_midway.proofs.WalkLaws.{AreOn}
use Rattle.tl_midway.proofs.walked.walk_on.Given as goal

-- the state stands for the beats so far, and the rows so far with those of the beats that are left are all
abbrev pub invariant-loop-at : goal.invariant-loop-at
invariant-loop-at l = record {
  formed : All (λ p. IsWellFormed p.beat) l.at-iterator;
  linked : All (λ p. Contains (clients_of l.manager (declared_links l.topo)) p.link) l.at-iterator;
  is_of : IsOf (manager_at l.topo l.manager (areas_of l.regions)) l.state;
  on : AreOn (manager_at l.topo l.manager (areas_of l.regions)) l.fn.state l.state l.rows.items l.at-iterator l.fn.walk;
}
