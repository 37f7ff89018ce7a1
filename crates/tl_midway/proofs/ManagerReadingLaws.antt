-- The readings of a manager's links, after one more of its beats.
use Rattle.std.proofs.Common.{◌≡◌, ◌<◌, ℕ, ◌+◌, Bool, true, false, ◌∷◌, length, map, get_or, Some, refl, sym, ap, subst, ◌∙◌, arith}
use Rattle.std.specs.Io.Iter.{u64_saturate}
use Rattle.std.specs.List.{All}
use Rattle.std.specs.List.Sorted.{IsStrictlySortedBy}
use Rattle.std.specs.Ordering.{nat_cmp}
use Rattle.std.proofs.Math.ListN.{set}
use Rattle.std.proofs.lemmas.List.Elements.{All-set}
use Rattle.tl_topology.specs.declared.LinkDecl.{LinkDecl}
use Rattle.tl_beats.specs.declared.Placed.{Placed}
use Rattle.tl_definitions.specs.Known.{readings_of}
use Rattle.tl_definitions.specs.OpenTables.{one_if}
use Rattle.tl_definitions.specs.Readings.{in_lead_in}
use Rattle.tl_client_rules.specs.Clients.{place_of}
use Rattle.tl_midway.specs.LeadIns.{leads_in, lead_ins_of, with_beat}
use Rattle.tl_midway.specs.LinkReadings as link_readings
use Rattle.tl_midway.specs.LinkReadings.{channel_of}
use Rattle.tl_midway.specs.ManagerReadings.{HasPlace, numbers_of, AreKnown, Takes}
use Rattle.tl_midway.specs.Readings.{shown_readings}
use Rattle.tl_midway.specs.Standing.{IsStanding}
use Rattle.tl_midway.specs.declared.link_readings.LinkReadings.{LinkReadings}
use Rattle.tl_midway.specs.declared.manager_readings.ManagerReadings.{ManagerReadings}
use Rattle.tl_midway.specs.declared.standing.Standing.{Standing}
use Rattle.tl_midway.proofs.LeadInLaws.{own_leads_in}
use Rattle.tl_midway.proofs.PlaceLaws.{inside, own_number, numbers_stay, each_set}
use Rattle.tl_midway.proofs.LinkReadingLaws.{known_after, other_stands, own_stands}

abbrev number : LinkReadings → ℕ
number link = link.number

counted_with : (b : Bool) (count n : ℕ) → count ≡ u64_saturate n → with_beat b count ≡ u64_saturate (n + one_if b)
counted_with true count n is = omega (arith, is)
counted_with false count n is = omega (arith, is)

pub own_known : (p : Placed) (old : ManagerReadings) (place : ℕ) (own : LinkReadings) → place_of p.link (numbers_of old) ≡ Some place → HasPlace (numbers_of old) p.link
    → own ≡ get_or old.links.items place own → AreKnown old → link_readings.IsKnown own
own_known p old place own at has here known = subst (λ s. link_readings.IsKnown s) (sym here) (known place own (inside number old.links.items p.link place has at))

module _ (link : LinkDecl) (p : Placed) (old new : ManagerReadings) (place : ℕ) (own next : LinkReadings) (result : Standing) (at : place_of p.link (numbers_of old) ≡ Some place)
    (has : HasPlace (numbers_of old) p.link) (here : own ≡ get_or old.links.items place own) (put : new.links.items ≡ set old.links.items place next)
    (takes : link_readings.Takes link old.by_fields p.beat own result next) where
  within : place < length old.links.items
  within = inside number old.links.items p.link place has at

  pub all_known : AreKnown old → AreKnown new
  all_known known =
      subst (All (λ (s : LinkReadings). link_readings.IsKnown s)) (sym put)
      (All-set (λ (s : LinkReadings). link_readings.IsKnown s) old.links.items place next (known_after link old.by_fields p.beat own next result takes (own_known p old place own at has here known)) known)

  pub same_numbers : numbers_of new ≡ numbers_of old
  same_numbers = ap (map number) put ∙ numbers_stay number old.links.items p.link place own at within here next takes.number

  pub all_stand : new.by_fields ≡ old.by_fields → new.lead_ins ≡ with_beat (in_lead_in (shown_readings (channel_of own p.beat.chan))) old.lead_ins → Takes link p old result new
  all_stand told counts m start before stands declared =
      let owns : own.number ≡ p.link = own_number number old.links.items p.link place own at within here in
      let was : link_readings.StandsFor m start own before = subst (λ s. link_readings.StandsFor m start s before) (sym here) (stands.each place own within) in
      let takes_so : link_readings.Takes (m.links p.link) start.by_fields p.beat own result next =
      subst (λ b. link_readings.Takes (m.links p.link) b p.beat own result next) stands.by_fields (subst (λ d. link_readings.Takes d old.by_fields p.beat own result next) (sym declared) takes) in
      let now = own_stands m start before p own next result (sym owns) takes_so was in (
        subst (λ d. IsStanding d p.beat (readings_of m start before p) result) declared now.0,
        record {
          clients = same_numbers ∙ stands.clients;
          rises = stands.rises;
          by_fields = told ∙ stands.by_fields;
          each = subst (All (λ (s : LinkReadings). link_readings.StandsFor m start s (p ∷ before))) (sym put)
              (each_set number old.links.items p.link place own at within here (λ s. link_readings.StandsFor m start s before) (λ s. link_readings.StandsFor m start s (p ∷ before)) next
              (subst (IsStrictlySortedBy nat_cmp) (sym stands.clients) stands.rises) stands.each now.1 (λ s other stood. other_stands m start before p s other stood));
          lead_ins = counts
              ∙ ap (λ b. with_beat b old.lead_ins) (own_leads_in m start before p old place own (in_lead_in (shown_readings (channel_of own p.beat.chan))) at has here refl stands)
              ∙ counted_with (leads_in m start before p) old.lead_ins (lead_ins_of m start before) stands.lead_ins;
        },
      )
