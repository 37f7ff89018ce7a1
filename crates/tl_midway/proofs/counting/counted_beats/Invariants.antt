use Rattle.std.proofs.Common.{take}
use Rattle.std.specs.Prelude.{ℕ, ◌≡◌, ◌+◌, Option}
use Rattle.tl_tables.specs.declared.Rule.{Rule}
use Rattle.tl_topology.specs.Regions.{areas_of}
use Rattle.tl_definitions.specs.Captures.{manager_beats}
use Rattle.tl_definitions.specs.Managers.{declared_links, manager_at}
use Rattle.tl_definitions.specs.Positions.{clients_of}
use Rattle.tl_check.specs.LinkByLink.{of_each, one_after_other}
use Rattle.tl_midway.specs.Counts.{counted}
use Rattle.tl_midway.specs.Counted.{HasCounts, asked_of}
use Rattle.tl_midway.specs.Judged.{HasJudged}
use Rattle.tl_midway.proofs.counting.counted_beats.Given as goal

-- the links are those of the manager; the beats of the first of them are judged and counted
abbrev pub invariant-loop-link : goal.invariant-loop-link
invariant-loop-link l = record {
  links : l.link-items ≡ clients_of l.initial.judged.manager (declared_links l.topo);
  has : HasJudged (manager_at l.topo l.initial.judged.manager (areas_of l.regions)) l.initial.counts.law
      (one_after_other (of_each (take l.link-index (clients_of l.initial.judged.manager (declared_links l.topo))) (manager_beats l.topo l.present l.initial.judged.manager))) l.judged;
  count : (n : Option Rule → ℕ) → HasCounts l.initial.counts n → HasCounts l.counts (λ asked. n asked + counted (asked_of asked) l.initial.counts.law (manager_at l.topo l.initial.judged.manager (areas_of l.regions))
      (one_after_other (of_each (take l.link-index (clients_of l.initial.judged.manager (declared_links l.topo))) (manager_beats l.topo l.present l.initial.judged.manager))));
  manager : l.judged.manager ≡ l.initial.judged.manager;
  law : l.counts.law ≡ l.initial.counts.law;
  by_rule : l.counts.by_rule ≡ l.initial.counts.by_rule;
}
