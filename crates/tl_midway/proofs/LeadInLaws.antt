-- Beats of lead-ins: whether one is, and where they end.
use Rattle.std.proofs.Common.{◌≡◌, inl, inr, ℕ, ◌&&◌, not, Bool, true, false, None, List, [], ◌∷◌, get_or, Some, if◌then◌else◌, sym, ap, subst, ◌∙◌}
use Rattle.std.specs.List.{Contains}
use Rattle.tl_tables.specs.declared.Chan.{Chan}
use Rattle.tl_tables.specs.Messages.{same_chan}
use Rattle.tl_beats.specs.declared.Placed.{Placed}
use Rattle.tl_definitions.specs.Heads.{before_on}
use Rattle.tl_definitions.specs.Known.{Beginning}
use Rattle.tl_definitions.specs.Readings.{in_lead_in, readings_after}
use Rattle.tl_definitions.specs.Rules.{Manager}
use Rattle.tl_definitions.proofs.Lists.{contains_cases, contains_none}
use Rattle.tl_client_rules.specs.Clients.{place_of}
use Rattle.tl_midway.specs.LeadIns.{leads_in, first_sure}
use Rattle.tl_midway.specs.LinkReadings as link_readings
use Rattle.tl_midway.specs.LinkReadings.{channel_of}
use Rattle.tl_midway.specs.ManagerReadings.{HasPlace, StandsFor, numbers_of}
use Rattle.tl_midway.specs.Readings as channel
use Rattle.tl_midway.specs.Readings.{shown_readings}
use Rattle.tl_midway.specs.declared.link_readings.LinkReadings.{LinkReadings}
use Rattle.tl_midway.specs.declared.manager_readings.ManagerReadings.{ManagerReadings}
use Rattle.tl_midway.specs.declared.readings.Readings.{Readings}
use Rattle.tl_midway.proofs.PlaceLaws.{inside, own_number}
use Rattle.tl_midway.proofs.ReadingLaws.{lead_same}

abbrev number : LinkReadings → ℕ
number link = link.number

abbrev NextOn : Manager → Beginning → List Placed → Placed → Readings → Type 0
NextOn m start before p readings =
    channel.StandsFor (m.links p.link) (start.most p.link p.beat.chan) start.by_fields readings (before_on p.link p.beat.chan before)

link_channel : (m : Manager) (start : Beginning) (before : List Placed) (p : Placed) (own : LinkReadings) → own.number ≡ p.link → link_readings.StandsFor m start own before
    → NextOn m start before p (channel_of own p.beat.chan)
link_channel m start before p own owns each =
    subst (λ n. channel.StandsFor (m.links n) (start.most n p.beat.chan) start.by_fields (channel_of own p.beat.chan) (before_on n p.beat.chan before)) owns (each p.beat.chan)

link_leads_in : (m : Manager) (start : Beginning) (before : List Placed) (p : Placed) (own : LinkReadings) → own.number ≡ p.link → link_readings.StandsFor m start own before
    → in_lead_in (shown_readings (channel_of own p.beat.chan)) ≡ leads_in m start before p
link_leads_in m start before p own owns each =
    lead_same (shown_readings (channel_of own p.beat.chan)) (readings_after (m.links p.link) (start.most p.link p.beat.chan) start.by_fields (before_on p.link p.beat.chan before))
    (link_channel m start before p own owns each).members

module _ (m : Manager) (start : Beginning) (before : List Placed) (p : Placed) (state : ManagerReadings) (place : ℕ) (own : LinkReadings) (at : place_of p.link (numbers_of state) ≡ Some place)
    (has : HasPlace (numbers_of state) p.link) (here : own ≡ get_or state.links.items place own) (stands : StandsFor m start state before) where
  owns : own.number ≡ p.link
  owns = own_number number state.links.items p.link place own at (inside number state.links.items p.link place has at) here

  each : link_readings.StandsFor m start own before
  each = subst (λ s. link_readings.StandsFor m start s before) (sym here) (stands.each place own (inside number state.links.items p.link place has at))

  pub own_leads : (result : Bool) → result ≡ in_lead_in (shown_readings (channel_of own p.beat.chan)) → result ≡ leads_in m start before p
  own_leads result is = is ∙ link_leads_in m start before p own owns each

  pub own_next : (result : Readings) → result ≡ channel_of own p.beat.chan → NextOn m start before p result
  own_next result is = subst (NextOn m start before p) (sym is) (link_channel m start before p own owns each)

pub own_leads_in : (m : Manager) (start : Beginning) (before : List Placed) (p : Placed) (state : ManagerReadings) (place : ℕ) (own : LinkReadings) (result : Bool)
    → place_of p.link (numbers_of state) ≡ Some place → HasPlace (numbers_of state) p.link → own ≡ get_or state.links.items place own
    → result ≡ in_lead_in (shown_readings (channel_of own p.beat.chan)) → StandsFor m start state before → result ≡ leads_in m start before p
own_leads_in m start before p state place own result at has here is stands = own_leads m start before p state place own at has here stands result is

pub own_channel : (m : Manager) (start : Beginning) (before : List Placed) (p : Placed) (state : ManagerReadings) (place : ℕ) (own : LinkReadings) (result : Readings)
    → place_of p.link (numbers_of state) ≡ Some place → HasPlace (numbers_of state) p.link → own ≡ get_or state.links.items place own
    → result ≡ channel_of own p.beat.chan → StandsFor m start state before
    → channel.StandsFor (m.links p.link) (start.most p.link p.beat.chan) start.by_fields result (before_on p.link p.beat.chan before)
own_channel m start before p state place own result at has here is stands = own_next m start before p state place own at has here stands result is

-- ---- the first beat that is in no lead-in

-- The state stands for the beats so far, and of the beats that are left the first sure one is that of all.
abbrev pub IsSought : Manager → Beginning → Chan → LinkReadings → List Placed → List Placed → Type 0
IsSought m start chan state rest all = (before : List Placed) × link_readings.StandsFor m start state before
    × (first_sure m start chan before rest ≡ first_sure m start chan [] all)

pub sought : (m : Manager) (start : Beginning) (chan : Chan) (state : LinkReadings) (rest all : List Placed) → link_readings.StandsFor m start state [] → rest ≡ all
    → IsSought m start chan state rest all
sought m start chan state rest all stands is = ([], stands, ap (first_sure m start chan []) is)

module _ (m : Manager) (start : Beginning) (chan : Chan) (p : Placed) (state : LinkReadings) (now rest all : List Placed) (steps : now ≡ p ∷ rest) (owns : state.number ≡ p.link) (sure : Bool)
    (is : sure ≡ (same_chan p.beat.chan chan && not (in_lead_in (shown_readings (channel_of state p.beat.chan))))) where
  looked : (on : IsSought m start chan state now all) → sure ≡ (same_chan p.beat.chan chan && not (leads_in m start on.0 p))
  looked on = is ∙ ap (λ b. same_chan p.beat.chan chan && not b) (link_leads_in m start on.0 p state owns on.1)

  step_is : (on : IsSought m start chan state now all) → (if sure then Some p.beat.cycle else first_sure m start chan (p ∷ on.0) rest) ≡ first_sure m start chan [] all
  step_is on = ap (λ (b : Bool). if b then Some p.beat.cycle else first_sure m start chan (p ∷ on.0) rest) (looked on)
      ∙ sym (ap (first_sure m start chan on.0) steps) ∙ on.2

  pub found_sure : sure ≡ true → IsSought m start chan state now all → Some p.beat.cycle ≡ first_sure m start chan [] all
  found_sure so on = sym (ap (λ (b : Bool). if b then Some p.beat.cycle else first_sure m start chan (p ∷ on.0) rest) so) ∙ step_is on

  pub sought_more : (new : LinkReadings) → sure ≡ false → ((before : List Placed) → link_readings.StandsFor m start state before → link_readings.StandsFor m start new (p ∷ before))
      → IsSought m start chan state now all → IsSought m start chan new rest all
  sought_more new fails next on =
      (p ∷ on.0, next on.0 on.1, sym (ap (λ (b : Bool). if b then Some p.beat.cycle else first_sure m start chan (p ∷ on.0) rest) fails) ∙ step_is on)

pub none_sure : (m : Manager) (start : Beginning) (chan : Chan) (state : LinkReadings) (now all : List Placed) → now ≡ [] → IsSought m start chan state now all
    → None ≡ first_sure m start chan [] all
none_sure m start chan state now all none on = sym (ap (first_sure m start chan on.0) none) ∙ on.2

pub of_one : (number link : ℕ) → Contains (number ∷ []) link → number ≡ link
of_one number link has = elim (contains_cases number [] link has) [ inl e ↦ e | inr none ↦ absurd (contains_none link none) ]
