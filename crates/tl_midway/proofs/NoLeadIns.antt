-- Links that begin at heads have no lead-ins, so nothing is counted of them where beats aren't counted by rule.
use Rattle.std.proofs.Common.{◌≡◌, ℕ, ◌+◌, ◌||◌, Bool, false, List, [], ◌∷◌, map, Option, None, refl, sym, ap, ◌∙◌, arith}
use Rattle.std.specs.Prelude.{not}
use Rattle.std.specs.Io.Iter.{u64_saturate}
use Rattle.std.specs.List.{Contains}
use Rattle.tl_tables.specs.declared.Rule.{Rule}
use Rattle.tl_topology.specs.declared.LinkDecl.{LinkDecl}
use Rattle.tl_beats.specs.declared.Beat.{Beat}
use Rattle.tl_beats.specs.declared.Placed.{Placed}
use Rattle.tl_definitions.specs.Heads.{before_on}
use Rattle.tl_definitions.specs.Known.{Beginning}
use Rattle.tl_definitions.specs.OpenTables.{one_if}
use Rattle.tl_definitions.specs.Readings.{Reading, due, reading_after, readings_after, first_readings, told, in_lead_in, missing_of}
use Rattle.tl_definitions.specs.Rules.{Manager}
use Rattle.tl_definitions.proofs.LinkLaws.{itself}
use Rattle.tl_definitions.proofs.Lists.{contains_here, contains_there}
use Rattle.tl_midway.specs.Counts.{counted, counted_after}
use Rattle.tl_midway.specs.Counted.{HasCounts, rule_counts, asked_of}
use Rattle.tl_midway.specs.LeadIns.{leads_in}
use Rattle.tl_midway.specs.Midway.{beginning_of}
use Rattle.tl_midway.specs.declared.counts.Counts.{Counts}
use Rattle.tl_midway.specs.declared.midway.Midway.{Midway}
use Rattle.tl_midway.specs.Named.{BeginsAtHeads}
use Rattle.tl_midway.proofs.SeenLaws.{told_alone}

one_way : (link : LinkDecl) (most : ℕ) (by_fields : Bool) (before : List Beat) → most ≡ 0 → (x : Reading) × (readings_after link most by_fields before ≡ x ∷ [])
one_way link most by_fields [] none = (due, ap first_readings none)
one_way link most by_fields (beat ∷ before) none =
    let one = one_way link most by_fields before none in (
      reading_after link beat one.0,
      ap (λ readings. map (reading_after link beat) (told by_fields link beat before readings)) one.1 ∙ ap (map (reading_after link beat)) (told_alone by_fields link beat before one.0),
    )

alone_is_sure : (x : Reading) → in_lead_in (x ∷ []) ≡ false
alone_is_sure x = ap (λ b. (not b || false) || false) (itself (missing_of x))

no_lead_in : (m : Manager) (start : Beginning) (before : List Placed) (p : Placed) → BeginsAtHeads start p.link → leads_in m start before p ≡ false
no_lead_in m start before p heads =
    let one = one_way (m.links p.link) (start.most p.link p.beat.chan) start.by_fields (before_on p.link p.beat.chan before) (heads p.beat.chan) in
    ap in_lead_in one.1 ∙ alone_is_sure one.0

none_after : (m : Manager) (start : Beginning) (before beats : List Placed) → ((p : Placed) → Contains beats p → BeginsAtHeads start p.link) → counted_after leads_in m start before beats ≡ 0
none_after m start before [] heads = refl
none_after m start before (p ∷ beats) heads =
    ap (λ b. one_if b + counted_after leads_in m start (p ∷ before) beats) (no_lead_in m start before p (heads p (contains_here p beats)))
    ∙ after_none (counted_after leads_in m start (p ∷ before) beats) ∙ none_after m start (p ∷ before) beats (λ q h. heads q (contains_there p beats q h))
  where
    after_none : (n : ℕ) → 0 + n ≡ n
    after_none n = omega arith

-- The counts stay.
pub none_counted : (law : Midway) (m : Manager) (beats : List Placed) (counts : Counts) (n : Option Rule → ℕ) → counts.by_rule ≡ false → ((p : Placed) → Contains beats p → BeginsAtHeads (beginning_of law m) p.link)
    → HasCounts counts n → HasCounts counts (λ asked. n asked + counted (asked_of asked) law m beats)
none_counted law m beats counts n by heads has =
    let zero : counted_after leads_in m (beginning_of law m) [] beats ≡ 0 = none_after m (beginning_of law m) [] beats heads in
    let same : n None ≡ n None + counted_after leads_in m (beginning_of law m) [] beats = omega arith in
    record {
      lead_ins = has.lead_ins ∙ ap u64_saturate same;
      unjudged = has.unjudged ∙ ap (rule_counts n) by ∙ sym (ap (rule_counts (λ asked. n asked + counted (asked_of asked) law m beats)) by);
    }

-- Where beats aren't counted by rule, those in lead-ins are all that is counted.
pub lead_ins_added : (law : Midway) (m : Manager) (beats : List Placed) (old new : Counts) (own : ℕ) (n : Option Rule → ℕ) → old.by_rule ≡ false → new.by_rule ≡ old.by_rule → new.unjudged.items ≡ old.unjudged.items
    → new.lead_ins ≡ u64_saturate (old.lead_ins + own) → own ≡ u64_saturate (counted leads_in law m beats) → HasCounts old n → HasCounts new (λ asked. n asked + counted (asked_of asked) law m beats)
lead_ins_added law m beats old new own n by same unjudged put is has = record {
  lead_ins = put ∙ both old.lead_ins own (n None) (counted leads_in law m beats) has.lead_ins is;
  unjudged = unjudged ∙ has.unjudged ∙ ap (rule_counts n) by ∙ sym (ap (rule_counts (λ asked. n asked + counted (asked_of asked) law m beats)) (same ∙ by));
}
  where
    both : (a b k l : ℕ) → a ≡ u64_saturate k → b ≡ u64_saturate l → u64_saturate (a + b) ≡ u64_saturate (k + l)
    both a b k l one two = omega (arith, one, two)
