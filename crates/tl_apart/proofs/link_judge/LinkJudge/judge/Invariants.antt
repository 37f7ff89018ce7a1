use Rattle.std.proofs.Common.{◌+◌, ◌-◌, ◌≤◌, drop, length}
use Rattle.tl_topology.specs.Regions.{areas_of}
use Rattle.tl_definitions.specs.LinkPasses.{LinkSnapshot}
use Rattle.tl_definitions.specs.Positions.{placed_beats, placed_from}
use Rattle.tl_definitions.specs.Rules.{Manager}
use Rattle.tl_capture.specs.Present.{recorded}
use Rattle.tl_check.specs.States.{Serves}
use Rattle.tl_apart.specs.LinkJudge.{Shows, AreFormed}
use Rattle.tl_apart.proofs.FragmentLaws.{GoesOn}
use Rattle.tl_apart.proofs.link_judge.LinkJudge.judge.Given as goal

-- what the beats that are left give is what is left of the answer
abbrev pub invariant-loop-place : goal.invariant-loop-place
invariant-loop-place l = record {
  within : l.place ≤ length l.beats;
  formed : AreFormed l.self;
  judged : (m : Manager) (s : LinkSnapshot) → Serves m l.link l.terms.decl.now l.terms.exponent (areas_of l.terms.regions.now) → Shows l.terms.exponent l.fn.self s
      → GoesOn m s l.terms.exponent l.self l.fn.found l.found (placed_beats (recorded l.link l.fragment)) (placed_from l.link l.fragment.number (l.place + 2) (drop l.place l.beats));
}

abbrev pub decreases-loop-place : goal.decreases-loop-place
decreases-loop-place l = length l.beats - l.place
