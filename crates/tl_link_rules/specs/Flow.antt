-- What the state of a link shows, and what it stands for.
use Rattle.std.specs.Prelude.{◌≡◌, ℕ, ◌&&◌, ◌||◌, not, Bool, List, [], Option, filter, is_some}
use Rattle.std.specs.Option.{option_and_then, option_map_or}
use Rattle.tl_tables.specs.declared.Chan.{Chan}
use Rattle.tl_tables.specs.declared.Chan.TheVariants as chan
use Rattle.tl_tables.specs.declared.Op.{Op}
use Rattle.tl_tables.specs.declared.Rule.{Rule}
use Rattle.tl_beats.specs.declared.Beat.{Beat}
use Rattle.tl_beats.specs.declared.Placed.{Placed}
use Rattle.tl_beats.specs.declared.Request.{Request}
use Rattle.tl_topology.specs.declared.LinkDecl.{LinkDecl}
use Rattle.tl_tables.specs.Kinds.{is_release, is_grant, is_release_ack, is_grant_ack}
use Rattle.tl_definitions.specs.Messages.{Links, Message, request_of, message_at, messages_on}
use Rattle.tl_definitions.specs.Past.{FlowPast, flow_past}
use Rattle.tl_definitions.specs.Rules.{breaks_flow, flow_order}
use Rattle.tl_definitions.specs.Judging.{request_in, message_in, flow_after}
use Rattle.tl_state.specs.Slots.{slot_of}
use Rattle.tl_link_rules.specs.declared.flow.FlowState.{FlowState}

-- What a state shows: the request in flight on a source, the Release in flight on a source, whether a Grant is open on a sink.
abbrev pub source_at : FlowState → ℕ → Option Request
source_at state source = slot_of state.sources source

abbrev pub release_at : FlowState → ℕ → Option Request
release_at state source = slot_of state.releases source

abbrev pub has_sink : FlowState → ℕ → Bool
has_sink state sink = is_some (slot_of state.sinks sink)

abbrev pub shown : FlowState → FlowPast
shown state = record { source = source_at state; release = release_at state; sink = has_sink state }

-- The state shows what these messages of its link leave, the newest first.
pub record StandsFor (state : FlowState) (before : List Message) : Type 0 where
  pub shows : shown state ≡ flow_past before

-- The flow rules that a head with this message, if it is one, breaks after these messages.
abbrev pub flow_rules : List Message → Beat → Option Op → List Rule
flow_rules before head found = option_map_or (λ o. filter (breaks_flow (flow_past before) (message_at before head o)) flow_order) found []

-- The request that it answers.
abbrev pub answered : List Message → Beat → Option Op → Option Request
answered before head found = option_and_then (λ o. request_of before o head) found

-- The same from what a past leaves.
abbrev pub rules_in : FlowPast → Beat → Option Op → List Rule
rules_in past head found = option_map_or (λ o. filter (breaks_flow past (message_in past head o)) flow_order) found []

abbrev pub answered_in : FlowPast → Beat → Option Op → Option Request
answered_in past head found = option_and_then (λ o. request_in past o head) found

-- What is left after the head.
abbrev pub flow_with : FlowPast → Beat → Option Op → FlowPast
flow_with past head found = option_map_or (λ o. flow_after past (message_in past head o)) found past

-- Both states show the same.
abbrev pub SameFlow : FlowState → FlowState → Type 0
SameFlow one two = shown one ≡ shown two

-- Messages that a channel can carry, as far as open tables tell them apart.
abbrev pub can_carry : Chan → Op → Bool
can_carry chan.C o = not (is_release_ack o || is_grant o || is_grant_ack o)
can_carry chan.D o = not (is_release o || is_grant_ack o)
can_carry chan.E o = is_grant_ack o && not (is_release o || is_release_ack o || is_grant o)
can_carry _ o = not (is_release o || is_release_ack o || is_grant o || is_grant_ack o)

-- The state shows what the messages of the link with this number leave that these beats of its manager have.
abbrev pub StandsOn : FlowState → LinkDecl → ℕ → List Placed → Type 0
StandsOn state decl number before = (links : Links) → links number ≡ decl → StandsFor state (messages_on links number before)
