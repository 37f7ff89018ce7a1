use Rattle.std.specs.Prelude.{◌≡◌, [], ◌∷◌}
use Rattle.std.specs.List.{All, Contains}
use Rattle.tl_beats.specs.Beats.{IsWellFormed}
use Rattle.tl_definitions.specs.Rules.{Manager}
use Rattle.tl_midway.specs.LinkReadings.{IsKnown}
use Rattle.tl_midway.specs.Midway.{beginning_of}
use Rattle.tl_midway.proofs.LeadInLaws.{IsSought}
use Rattle.tl_midway.proofs.lead_ins.first_sure.Given as goal

-- the readings are those after the beats so far, and the first sure beat of those that are left is that of all
abbrev pub invariant-loop-at : goal.invariant-loop-at
invariant-loop-at l = record {
  formed : All (λ p. IsWellFormed p.beat) l.at-iterator;
  linked : All (λ p. Contains (l.number ∷ []) p.link) l.at-iterator;
  known : IsKnown l.readings;
  number : l.readings.number ≡ l.number;
  on : (m : Manager) → m.links l.number ≡ l.link → IsSought m (beginning_of l.fn.law m) l.chan l.readings l.at-iterator l.fn.walk;
}
