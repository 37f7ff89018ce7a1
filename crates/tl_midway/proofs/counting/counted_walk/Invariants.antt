use Rattle.std.specs.Prelude.{◌≡◌}
use Rattle.std.specs.List.{All, Contains}
use Rattle.tl_topology.specs.Regions.{areas_of}
use Rattle.tl_beats.specs.Beats.{IsWellFormed}
use Rattle.tl_definitions.specs.Managers.{declared_links, manager_at}
use Rattle.tl_definitions.specs.Positions.{clients_of}
use Rattle.tl_midway.specs.State.{IsOf}
use Rattle.tl_midway.proofs.JudgedLaws.{AreAmid, AreCountedAmid}
use Rattle.tl_midway.proofs.counting.counted_walk.Given as goal

-- the beats so far are judged and counted; with those that are left they are all
abbrev pub invariant-loop-at : goal.invariant-loop-at
invariant-loop-at l = record {
  formed : All (λ p. IsWellFormed p.beat) l.at-iterator;
  linked : All (λ p. Contains (clients_of l.initial.judged.manager (declared_links l.topo)) p.link) l.at-iterator;
  is_of : IsOf (manager_at l.topo l.initial.judged.manager (areas_of l.regions)) l.judged.state;
  amid : AreAmid (manager_at l.topo l.initial.judged.manager (areas_of l.regions)) l.initial.judged l.judged l.at-iterator l.fn.walk;
  counted : AreCountedAmid (manager_at l.topo l.initial.judged.manager (areas_of l.regions)) l.initial.judged l.initial.counts l.judged l.counts l.at-iterator l.fn.walk;
  manager : l.judged.manager ≡ l.initial.judged.manager;
  law : l.counts.law ≡ l.initial.counts.law;
  by_rule : l.counts.by_rule ≡ l.initial.counts.by_rule;
}
