-- What the state of a manager shows between two of its beats, and what it stands for.
use Rattle.std.specs.Prelude.{ℕ, ◌≡◌, List, [], length, map, Option, Some, ◌<◌, slice_get}
use Rattle.std.specs.List.Sorted.{IsStrictlySortedBy}
use Rattle.std.specs.Option.{option_and_then, option_map_or}
use Rattle.std.specs.Ordering.{nat_cmp}
use Rattle.tl_tables.specs.declared.Chan.{Chan}
use Rattle.tl_topology.specs.Regions.{Area}
use Rattle.tl_topology.specs.declared.LinkDecl.{LinkDecl}
use Rattle.tl_beats.specs.Beats.{IsWellFormed}
use Rattle.tl_beats.specs.declared.Placed.{Placed}
use Rattle.tl_beats.specs.declared.Row.{Row}
use Rattle.tl_definitions.specs.declared.Unfinished.{Unfinished}
use Rattle.tl_definitions.specs.Past.{FlowPast, LinkPast, flow_past}
use Rattle.tl_definitions.specs.Rules.{Manager}
use Rattle.tl_definitions.specs.Breaks.{row_of}
use Rattle.tl_definitions.specs.Judging.{Snapshot, snapshot, judged_rules}
use Rattle.tl_link_rules.specs.Bursts.{slot_at}
use Rattle.tl_link_rules.specs.Flow as flow
use Rattle.tl_client_rules.specs.Clients.{place_of}
use Rattle.tl_client_rules.specs.Manager as managers
use Rattle.tl_same.specs.SameItems.{SameItems}
use Rattle.tl_check.specs.Links.{SameLink}
use Rattle.tl_check.specs.declared.links.LinkState.{LinkState}
use Rattle.tl_check.specs.declared.state.SpanState.{SpanState}

-- What is left of a link of the manager.
abbrev pub link_of : SpanState → ℕ → Option LinkState
link_of state link = option_and_then (λ place. slice_get state.links.items place) (place_of link (managers.shown state.clients).clients)

-- The burst that is unfinished on a channel of a link.
abbrev pub burst_at : SpanState → ℕ → Chan → Option Unfinished
burst_at state link chan = option_and_then (λ (s : LinkState). slot_at s.bursts chan) (link_of state link)

-- What is in flight on a link.
abbrev pub flow_at : SpanState → ℕ → FlowPast
flow_at state link = option_map_or (λ (s : LinkState). flow.shown s.flow) (link_of state link) (flow_past [])

abbrev pub past_at : SpanState → ℕ → LinkPast
past_at state link = record { flow = flow_at state link; client = (managers.client_at state.clients link).past }

-- What a state shows.
abbrev pub shown : SpanState → Snapshot
shown state = record { burst = burst_at state; past = past_at state }

-- The rows of what the next beat of a manager breaks, by what the state shows.
abbrev pub rows_at : Manager → SpanState → Placed → List Row
rows_at m state p = map (row_of p) (judged_rules m (shown state) p)

-- The heads of unfinished bursts are well-formed.
abbrev pub AreFormed : SpanState → Type 0
AreFormed state = (link : ℕ) (chan : Chan) (burst : Unfinished) → burst_at state link chan ≡ Some burst → IsWellFormed burst.head

-- The state is one for a manager, whose links' numbers rise.
pub record IsOf (m : Manager) (state : SpanState) : Type 0 where
  pub clients : managers.Shows m.clients m.exponent state.clients (past_at state)
  pub rises : IsStrictlySortedBy nat_cmp m.clients
  pub links : length state.links.items ≡ length m.clients
  pub states : (managers.shown state.clients).count ≡ length m.clients
  pub formed : AreFormed state

-- It shows what these beats of the manager leave, the newest first.
pub record StandsFor (m : Manager) (state : SpanState) (before : List Placed) : Type 0 where
  pub is_of : IsOf m state
  pub shows : shown state ≡ snapshot m before

-- The link is one of the manager's, and the state has it.
abbrev pub HasLink : SpanState → ℕ → Type 0
HasLink state link = (place : ℕ) × (place_of link (managers.shown state.clients).clients ≡ Some place) × (place < (managers.shown state.clients).count)
    × (place < length state.links.items)

-- Both states show the same, in each of their parts.
pub record SameSpan (one two : SpanState) : Type 0 where
  pub links : SameItems SameLink one.links.items two.links.items
  pub clients : managers.SameManager one.clients two.clients

-- The manager has this link under this number, blocks of 2 ^ exponent bytes, and these regions.
pub record Serves (m : Manager) (link : ℕ) (decl : LinkDecl) (exponent : ℕ) (areas : List Area) : Type 0 where
  pub declared : m.links link ≡ decl
  pub block : m.exponent ≡ exponent
  pub regions : m.regions ≡ areas
