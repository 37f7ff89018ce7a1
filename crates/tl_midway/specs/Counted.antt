-- Counts of the beats of a capture from the middle of a run: those in lead-ins, and those that each rule leaves unjudged.
use Rattle.std.specs.Prelude.{ℕ, ◌≡◌, ◌+◌, map, Bool, true, false, Option, Some, None, List, []}
use Rattle.std.specs.Io.Iter.{u64_saturate}
use Rattle.tl_tables.specs.declared.Rule.{Rule}
use Rattle.tl_tables.specs.Rules.{all_rules}
use Rattle.tl_beats.specs.declared.Placed.{Placed}
use Rattle.tl_definitions.specs.Known.{Beginning}
use Rattle.tl_definitions.specs.OpenTables.{one_if}
use Rattle.tl_definitions.specs.Rules.{Manager}
use Rattle.tl_edits.specs.Inputs.{InputData}
use Rattle.tl_midway.specs.Counts.{Test, counted, beats_counted}
use Rattle.tl_midway.specs.LeadIns.{leads_in}
use Rattle.tl_midway.specs.Unjudged.{is_unjudged}
use Rattle.tl_midway.specs.declared.counts.RuleCount.{RuleCount}
use Rattle.tl_midway.specs.declared.counts.Counts.{Counts}

-- What is counted: of no rule the beats in lead-ins, and of a rule those that it leaves unjudged.
abbrev pub asked_of : Option Rule → Test
asked_of None = leads_in
asked_of (Some r) = is_unjudged r

-- The rules by which beats are counted: all, or none.
abbrev pub counted_rules : Bool → List Rule
counted_rules true = all_rules
counted_rules false = []

abbrev pub rule_counts : (Option Rule → ℕ) → Bool → List RuleCount
rule_counts n by_rule = map (λ (r : Rule). record { rule = r; beats = u64_saturate (n (Some r)) }) (counted_rules by_rule)

-- The count of a rule after one more beat.
abbrev pub one_beat : Manager → Beginning → List Placed → Placed → RuleCount → RuleCount
one_beat m start before p count = record count { beats = u64_saturate (count.beats + one_if (is_unjudged count.rule m start before p)) }

-- The counts are these.
pub record HasCounts (counts : Counts) (n : Option Rule → ℕ) : Type 0 where
  pub lead_ins : counts.lead_ins ≡ u64_saturate (n None)
  pub unjudged : counts.unjudged.items ≡ rule_counts n counts.by_rule

-- To the counts those of these beats of a manager were added.
abbrev pub Adds : Manager → List Placed → Counts → Counts → Type 0
Adds m beats old new = (n : Option Rule → ℕ) → HasCounts old n → HasCounts new (λ asked. n asked + counted (asked_of asked) old.law m beats)

-- They are those of all beats that edits leave.
abbrev pub AreCounts : InputData → Counts → Type 0
AreCounts now counts = HasCounts counts (λ asked. beats_counted (asked_of asked) counts.law now)
