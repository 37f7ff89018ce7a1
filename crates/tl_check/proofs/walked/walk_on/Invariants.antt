use Rattle.std.proofs.Common.{◌≡◌, ◌++◌, ◌<◌, length}
use Rattle.std.specs.List.{All, Contains}
use Rattle.tl_beats.specs.Beats.{IsWellFormed}
use Rattle.tl_topology.specs.Regions.{areas_of}
use Rattle.tl_capture.specs.Waiting.{in_turn}
use Rattle.tl_definitions.specs.Judging.{judging}
use Rattle.tl_definitions.specs.Passes.{rows_judged, left_after}
use Rattle.tl_check.specs.Jobs.{manager_from}
use Rattle.tl_check.specs.States.{shown, IsOf}
use Rattle.tl_check.proofs.walked.walk_on.Given as goal

-- what is found so far and what is left to find are all, and the beats that are left lead on to the exit
abbrev pub invariant-loop-front : goal.invariant-loop-front
invariant-loop-front l = record {
  formed : All (λ p. IsWellFormed p.beat) (in_turn l.left);
  within : All (λ p. p.link < length l.links) (in_turn l.left);
  linked : All (λ p. Contains (manager_from l.links l.exponent (areas_of l.regions) l.fn.state).clients p.link) (in_turn l.left);
  of : IsOf (manager_from l.links l.exponent (areas_of l.regions) l.fn.state) l.state;
  exit : left_after (judging (manager_from l.links l.exponent (areas_of l.regions) l.fn.state)) (shown l.state) (in_turn l.left)
      ≡ left_after (judging (manager_from l.links l.exponent (areas_of l.regions) l.fn.state)) (shown l.fn.state) l.fn.walk;
  found : l.rows.items ++ rows_judged (judging (manager_from l.links l.exponent (areas_of l.regions) l.fn.state)) (shown l.state) (in_turn l.left)
      ≡ rows_judged (judging (manager_from l.links l.exponent (areas_of l.regions) l.fn.state)) (shown l.fn.state) l.fn.walk;
}

abbrev pub decreases-loop-front : goal.decreases-loop-front
decreases-loop-front l = length (in_turn l.left)
