use Rattle.std.specs.Prelude.{ℕ, ◌≡◌, ◌+◌, Option}
use Rattle.tl_tables.specs.declared.Rule.{Rule}
use Rattle.tl_check.specs.Captured.{areas_at}
use Rattle.tl_midway.specs.Counts.{managers_counted}
use Rattle.tl_midway.specs.Counted.{HasCounts, asked_of}
use Rattle.tl_midway.specs.Report.{ArePrinted}
use Rattle.tl_midway.proofs.counting.counted_managers.Given as goal

-- the rows and the counts so far are those of the managers so far
abbrev pub invariant-loop-manager : goal.invariant-loop-manager
invariant-loop-manager l = record {
  rows : ArePrinted l.initial.counts.law l.topo (areas_at l.regions) l.present l.manager l.rows.items;
  counts : (n : Option Rule → ℕ) → HasCounts l.initial.counts n
      → HasCounts l.counts (λ asked. n asked + managers_counted (asked_of asked) l.initial.counts.law l.topo (areas_at l.regions) l.present l.manager);
  law : l.counts.law ≡ l.initial.counts.law;
  by_rule : l.counts.by_rule ≡ l.initial.counts.by_rule;
}
