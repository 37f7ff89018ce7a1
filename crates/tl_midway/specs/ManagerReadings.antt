-- What the readings of a manager's links stand for.
use Rattle.std.specs.Prelude.{ℕ, ◌≡◌, ◌<◌, Bool, List, ◌∷◌, length, map, Some}
use Rattle.std.specs.Io.Iter.{u64_saturate}
use Rattle.std.specs.List.{All}
use Rattle.std.specs.List.Sorted.{IsStrictlySortedBy}
use Rattle.std.specs.Ordering.{nat_cmp}
use Rattle.tl_topology.specs.declared.LinkDecl.{LinkDecl}
use Rattle.tl_beats.specs.declared.Placed.{Placed}
use Rattle.tl_definitions.specs.Heads.{before_on}
use Rattle.tl_definitions.specs.Rules.{Manager}
use Rattle.tl_definitions.specs.Known.{Beginning, readings_of}
use Rattle.tl_client_rules.specs.Clients.{place_of}
use Rattle.tl_midway.specs.LeadIns.{leads_in, lead_ins_of}
use Rattle.tl_midway.specs.LinkReadings as link_readings
use Rattle.tl_midway.specs.Readings as channel
use Rattle.tl_midway.specs.Standing.{IsStanding}
use Rattle.tl_midway.specs.declared.link_readings.LinkReadings.{LinkReadings}
use Rattle.tl_midway.specs.declared.manager_readings.ManagerReadings.{ManagerReadings}
use Rattle.tl_midway.specs.declared.readings.Readings.{Readings}
use Rattle.tl_midway.specs.declared.standing.Standing.{Standing}

-- The link is among those with these numbers.
abbrev pub HasPlace : List ℕ → ℕ → Type 0
HasPlace numbers link = (place : ℕ) × (place_of link numbers ≡ Some place) × (place < length numbers)

-- The numbers of the links that the state has.
abbrev pub numbers_of : ManagerReadings → List ℕ
numbers_of state = map (λ (link : LinkReadings). link.number) state.links.items

-- It has the readings of each, whatever they are, after some beats.
abbrev pub AreKnown : ManagerReadings → Type 0
AreKnown state = All (λ (link : LinkReadings). link_readings.IsKnown link) state.links.items

-- The state has the readings of each link of the manager after these beats, and has counted those that are in lead-ins.
pub record StandsFor (m : Manager) (start : Beginning) (state : ManagerReadings) (before : List Placed) : Type 0 where
  pub clients : numbers_of state ≡ m.clients
  pub rises : IsStrictlySortedBy nat_cmp m.clients
  pub by_fields : state.by_fields ≡ start.by_fields
  pub each : All (λ (link : LinkReadings). link_readings.StandsFor m start link before) state.links.items
  pub lead_ins : state.lead_ins ≡ u64_saturate (lead_ins_of m start before)

-- Of whatever manager the link is declared so in and whatever beats of it the old state stands for: this is what the next beat
-- is, and the new state stands for them and the beat.
abbrev pub Takes : LinkDecl → Placed → ManagerReadings → Standing → ManagerReadings → Type 0
Takes link p old result new = (m : Manager) (start : Beginning) (before : List Placed) → StandsFor m start old before → m.links p.link ≡ link
    → IsStanding link p.beat (readings_of m start before p) result × StandsFor m start new (p ∷ before)

-- Of whatever manager and whatever beats of it the state stands for: whether the next beat is in its channel's lead-in.
abbrev pub LeadsIn : Placed → ManagerReadings → Bool → Type 0
LeadsIn p state result = (m : Manager) (start : Beginning) (before : List Placed) → StandsFor m start state before → result ≡ leads_in m start before p

-- Of whatever manager and whatever beats of it the state stands for: how many of them are in lead-ins.
abbrev pub CountsLeadIns : ManagerReadings → ℕ → Type 0
CountsLeadIns state result = (m : Manager) (start : Beginning) (before : List Placed) → StandsFor m start state before → result ≡ u64_saturate (lead_ins_of m start before)

-- Of whatever manager and whatever beats of it the state stands for: these are the readings of the channel of this beat.
abbrev pub OnChannel : Placed → ManagerReadings → Readings → Type 0
OnChannel p state result = (m : Manager) (start : Beginning) (before : List Placed) → StandsFor m start state before
    → channel.StandsFor (m.links p.link) (start.most p.link p.beat.chan) start.by_fields result (before_on p.link p.beat.chan before)
