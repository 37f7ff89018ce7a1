use Rattle.std.proofs.Common.{◌≡◌, ◌++◌}
use Rattle.std.specs.List.{All}
use Rattle.tl_topology.specs.Regions.{areas_of}
use Rattle.tl_beats.specs.Beats.{IsWellFormed}
use Rattle.tl_definitions.specs.LinkPasses.{LinkSnapshot, link_judging}
use Rattle.tl_definitions.specs.Passes.{rows_judged}
use Rattle.tl_check.specs.Apart.{Shows, AreFormed, one_link, judged_rows}
use Rattle.tl_check.proofs.apart.add_link.Given as goal

-- the state shows something from which the beats that are left have the rows that are left
abbrev pub invariant-loop-at : goal.invariant-loop-at
invariant-loop-at l = record {
  formed : All (λ p. IsWellFormed p.beat) l.at-iterator;
  heads : AreFormed l.state;
  judged : (s : LinkSnapshot) × Shows l.state s × (l.rows.items ++ rows_judged (link_judging (one_link l.decl l.exponent (areas_of l.regions))) s l.at-iterator
      ≡ l.fn.rows.items ++ judged_rows (one_link l.decl l.exponent (areas_of l.regions)) l.fn.walk);
}
