-- Counts of beats: one beat more, and all of them.
use Rattle.std.proofs.Common.{◌≡◌, ℕ, zero, suc, ◌+◌, ◌<◌, Bool, false, List, [], ◌∷◌, length, map, get_or, Option, Some, None, refl, sym, ap, subst, ◌∙◌, arith, add-one}
use Rattle.std.specs.Io.Iter.{u64_saturate}
use Rattle.tl_tables.specs.declared.Rule.{Rule}
use Rattle.tl_beats.specs.declared.Placed.{Placed}
use Rattle.tl_topology.specs.Regions.{Area}
use Rattle.tl_topology.specs.Topology.{Topology}
use Rattle.tl_definitions.specs.Captures.{manager_beats}
use Rattle.tl_definitions.specs.Managers.{manager_at}
use Rattle.tl_definitions.specs.Positions.{Recorded}
use Rattle.tl_edits.specs.Inputs.{InputData}
use Rattle.tl_definitions.specs.Known.{Beginning}
use Rattle.tl_definitions.specs.OpenTables.{one_if}
use Rattle.tl_definitions.specs.Rules.{Manager}
use Rattle.tl_midway.specs.Counts.{counted, managers_counted, beats_counted}
use Rattle.tl_midway.specs.Counted.{asked_of, counted_rules, rule_counts, one_beat, HasCounts, Adds, AreCounts}
use Rattle.tl_midway.specs.LeadIns.{leads_in}
use Rattle.tl_midway.specs.Unjudged.{is_unjudged}
use Rattle.tl_midway.specs.declared.counts.Counts.{Counts}
use Rattle.tl_midway.specs.declared.counts.RuleCount.{RuleCount}
use Rattle.tl_midway.specs.declared.midway.Midway.{Midway}

pub mapped_each : {X : Type 0} (f : X → X) (xs ys : List X) → length ys ≡ length xs → ((k : ℕ) (d : X) → k < length xs → get_or ys k d ≡ f (get_or xs k d)) → ys ≡ map f xs
mapped_each f [] [] many each = refl
mapped_each f [] (y ∷ ys) many each = absurd (omega arith)
mapped_each f (x ∷ xs) [] many each = absurd (omega arith)
mapped_each f (x ∷ xs) (y ∷ ys) many each =
    let here : y ≡ f x = each zero y (omega arith) in
    let rest : ys ≡ map f xs = mapped_each f xs ys (omega arith) (λ k d h. each (suc k) d (omega arith)) in
    λ i. here i ∷ rest i

plus_zero : (n : ℕ) → n ≡ n + 0
plus_zero n = omega arith

saturated_more : (count n k : ℕ) → count ≡ u64_saturate n → u64_saturate (count + k) ≡ u64_saturate (n + k)
saturated_more count n k is = omega (arith, is)

module _ (m : Manager) (start : Beginning) (before : List Placed) (p : Placed) (n : Option Rule → ℕ) where
  rules_more : (rules : List Rule) → map (one_beat m start before p) (map (λ (r : Rule). let c : RuleCount = record { rule = r; beats = u64_saturate (n (Some r)) } in c) rules)
      ≡ map (λ (r : Rule). let c : RuleCount = record { rule = r; beats = u64_saturate (n (Some r) + one_if (is_unjudged r m start before p)) } in c) rules
  rules_more [] = refl
  rules_more (r ∷ rules) =
      let here : u64_saturate (u64_saturate (n (Some r)) + one_if (is_unjudged r m start before p)) ≡ u64_saturate (n (Some r) + one_if (is_unjudged r m start before p)) =
      saturated_more (u64_saturate (n (Some r))) (n (Some r)) (one_if (is_unjudged r m start before p)) refl in
      λ i. record { rule = r; beats = here i } ∷ rules_more rules i

  pub one_counted : (old new : Counts) (leads : Bool) → new.lead_ins ≡ u64_saturate (old.lead_ins + one_if leads) → leads ≡ leads_in m start before p
      → new.unjudged.items ≡ map (one_beat m start before p) old.unjudged.items → new.by_rule ≡ old.by_rule → HasCounts old n → HasCounts new (λ asked. n asked + one_if (asked_of asked m start before p))
  one_counted old new leads put is each by has = record {
    lead_ins = put ∙ ap (λ b. u64_saturate (old.lead_ins + one_if b)) is ∙ saturated_more old.lead_ins (n None) (one_if (leads_in m start before p)) has.lead_ins;
    unjudged = each ∙ ap (map (one_beat m start before p)) has.unjudged ∙ rules_more (counted_rules old.by_rule) ∙ (λ i. rule_counts (λ asked. n asked + one_if (asked_of asked m start before p)) (sym by i));
  }

  -- A beat that no rule leaves unjudged.
  pub none_counted : (old new : Counts) (leads : Bool) → new.lead_ins ≡ u64_saturate (old.lead_ins + one_if leads) → leads ≡ leads_in m start before p
      → new.unjudged.items ≡ old.unjudged.items → new.by_rule ≡ old.by_rule → ((r : Rule) → is_unjudged r m start before p ≡ false) → HasCounts old n → HasCounts new (λ asked. n asked + one_if (asked_of asked m start before p))
  none_counted old new leads put is same by judged has = record {
    lead_ins = put ∙ ap (λ b. u64_saturate (old.lead_ins + one_if b)) is ∙ saturated_more old.lead_ins (n None) (one_if (leads_in m start before p)) has.lead_ins;
    unjudged = same ∙ has.unjudged ∙ (λ i. map (λ (r : Rule). let c : RuleCount = record { rule = r; beats = u64_saturate (kept r i) } in c) (counted_rules (sym by i)));
  }
    where
      kept : (r : Rule) → n (Some r) ≡ n (Some r) + one_if (is_unjudged r m start before p)
      kept r = plus_zero (n (Some r)) ∙ ap (λ b. n (Some r) + one_if b) (sym (judged r))

  -- A beat where beats aren't counted by rule.
  pub lead_in_counted : (old new : Counts) (leads : Bool) → new.lead_ins ≡ u64_saturate (old.lead_ins + one_if leads) → leads ≡ leads_in m start before p
      → new.unjudged.items ≡ old.unjudged.items → new.by_rule ≡ old.by_rule → old.by_rule ≡ false → HasCounts old n → HasCounts new (λ asked. n asked + one_if (asked_of asked m start before p))
  lead_in_counted old new leads put is same by not has = record {
    lead_ins = put ∙ ap (λ b. u64_saturate (old.lead_ins + one_if b)) is ∙ saturated_more old.lead_ins (n None) (one_if (leads_in m start before p)) has.lead_ins;
    unjudged = same ∙ has.unjudged ∙ ap (rule_counts n) not ∙ sym (ap (rule_counts (λ asked. n asked + one_if (asked_of asked m start before p))) (by ∙ not));
  }

-- ---- managers, one after the other

pub plus_assoc : (n k l : ℕ) → n + k + l ≡ n + (k + l)
plus_assoc n k l = omega arith

pub none_yet : (counts : Counts) (first : Option Rule → ℕ) → HasCounts counts first → HasCounts counts (λ asked. first asked + 0)
none_yet counts first has = subst (HasCounts counts) (λ i asked. plus_zero (first asked) i) has

module _ (law : Midway) (topo : Topology) (regions : ℕ → List Area) (fs : List Recorded) (first : Option Rule → ℕ) where
  abbrev so_far : ℕ → Option Rule → ℕ
  so_far k asked = first asked + managers_counted (asked_of asked) law topo regions fs k

  pub manager_added : (k : ℕ) (own : List Area) (old new : Counts) → own ≡ regions k → old.law ≡ law → Adds (manager_at topo k own) (manager_beats topo fs k) old new
      → HasCounts old (so_far k) → HasCounts new (so_far (k + 1))
  manager_added k own old new is same adds has =
      let step : (asked : Option Rule) → so_far k asked + counted (asked_of asked) old.law (manager_at topo k own) (manager_beats topo fs k) ≡ so_far (k + 1) asked =
      λ asked. plus_assoc (first asked) (managers_counted (asked_of asked) law topo regions fs k) (counted (asked_of asked) old.law (manager_at topo k own) (manager_beats topo fs k))
      ∙ (λ i. first asked + (managers_counted (asked_of asked) law topo regions fs k + counted (asked_of asked) (same i) (manager_at topo k (is i)) (manager_beats topo fs k)))
      ∙ sym (ap (λ n. so_far n asked) (add-one k)) in
      subst (HasCounts new) (λ i asked. step asked i) (adds (so_far k) has)

zero_plus : (n : ℕ) → 0 + n ≡ n
zero_plus n = omega arith

pub all_counted : (now : InputData) (counts : Counts) (law : Midway) → HasCounts counts (λ asked. 0 + beats_counted (asked_of asked) law now) → counts.law ≡ law → AreCounts now counts
all_counted now counts law has is = subst (HasCounts counts) (λ i asked. (zero_plus (beats_counted (asked_of asked) law now) ∙ ap (λ l. beats_counted (asked_of asked) l now) (sym is)) i) has
