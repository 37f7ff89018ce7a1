-- What the state of a client shows, and what it stands for.
use Rattle.std.specs.Prelude.{ℕ, ◌≡◌, ◌||◌, ◌&&◌, not, Bool, List, [], Option, Some, None, filter, if◌then◌else◌}
use Rattle.std.specs.Option.{option_map, option_map_or, option_and_then}
use Rattle.tl_tables.specs.declared.Chan.{Chan}
use Rattle.tl_tables.specs.declared.Chan.TheVariants as chan
use Rattle.tl_tables.specs.declared.Op.{Op}
use Rattle.tl_tables.specs.declared.Perm.{Perm}
use Rattle.tl_tables.specs.declared.Rule.{Rule}
use Rattle.tl_tables.specs.Params.{cap_of}
use Rattle.tl_beats.specs.declared.Beat.{Beat}
use Rattle.tl_beats.specs.declared.Placed.{Placed}
use Rattle.tl_beats.specs.declared.Request.{Request}
use Rattle.tl_topology.specs.declared.LinkDecl.{LinkDecl}
use Rattle.tl_tables.specs.Kinds.{is_acquire, is_probe, is_probe_ack, is_release, is_grant, is_release_ack, is_grant_ack}
use Rattle.tl_definitions.specs.Heads.{message_of}
use Rattle.tl_definitions.specs.OpenTables.{Table, touches, if_opens, entry_after, count_after, passes}
use Rattle.tl_definitions.specs.Messages.{Message, Links, as_request, sources, releases, sinks, probes, round_down, granted_block, claim, claimed_or, message_at, messages_on, with_message}
use Rattle.tl_definitions.specs.Past.{ClientPast, LinkPast, past_of, client_past, grants_block}
use Rattle.tl_definitions.specs.Rules.{breaks_permission, permission_order}
use Rattle.tl_definitions.specs.Judging.{request_in, message_in, past_with}
use Rattle.tl_state.specs.BlockMap.{value_at}
use Rattle.tl_link_rules.specs.Flow.{answered}
use Rattle.tl_client_rules.specs.OpenBlocks.{block_at, open_on}
use Rattle.tl_client_rules.specs.Bounds.{bound_at}
use Rattle.tl_client_rules.specs.declared.client.ClientState.{ClientState}

-- What a state shows: its block size, what its messages leave for the rules on blocks, and, so that it finds the block of what a
-- head replaces or closes, those of the open Acquires and of the open Releases, by source.
pub record ClientView : Type 0 where
  pub exponent : ℕ
  pub past : ClientPast
  pub acquired : ℕ → Option (Option ℕ)
  pub released : ℕ → Option (Option ℕ)

abbrev pub probe_at : ClientState → ℕ → Option (Option Perm)
probe_at state block = value_at state.probes block

abbrev pub shown : ClientState → ClientView
shown state = record {
  exponent = state.exponent;
  past = record {
    probe = probe_at state;
    bound = bound_at state.bounds;
    granted = block_at state.grants;
    acquires = open_on state.acquires;
    releases = open_on state.releases;
    grants = open_on state.grants;
  };
  acquired = block_at state.acquires;
  released = block_at state.releases;
}

-- The block that a request acquires, if it is an Acquire.
abbrev pub acquired_block : ℕ → Request → Option ℕ
acquired_block exponent request = if is_acquire request.op then Some (round_down exponent request.address) else None

abbrev pub released_block : ℕ → Request → Option ℕ
released_block exponent request = Some (round_down exponent request.address)

-- Of what is open on a source, what has a block: a request other than an Acquire has none.
abbrev pub with_block : Option (Option ℕ) → Option (Option ℕ)
with_block found = option_and_then (λ block. option_map Some block) found

-- What a state shows where this is what the past of its link leaves.
abbrev pub client_view : ℕ → LinkPast → ClientView
client_view exponent past = record {
  exponent = exponent;
  past = past.client;
  acquired = λ source. with_block (option_map (acquired_block exponent) (past.flow.source source));
  released = λ source. option_map (released_block exponent) (past.flow.release source);
}

pub record Shows (exponent : ℕ) (state : ClientState) (past : LinkPast) : Type 0 where
  pub shows : shown state ≡ client_view exponent past

-- The state shows what these messages of its link leave, the newest first.
abbrev pub StandsFor : ℕ → ClientState → List Message → Type 0
StandsFor exponent state before = Shows exponent state (past_of exponent before)

-- The permission rules that a head with this message, if it is one, breaks after these messages of a link, strict or not.
abbrev pub permission_rules : Bool → ℕ → List Message → Beat → Option Op → List Rule
permission_rules strict exponent before head found =
    option_map_or (λ o. filter (breaks_permission strict exponent (client_past exponent before) (message_at before head o)) permission_order) found []

-- The same from what a past leaves.
abbrev pub rules_in : Bool → ℕ → LinkPast → Beat → Option Op → List Rule
rules_in strict exponent past head found =
    option_map_or (λ o. filter (breaks_permission strict exponent past.client (message_in past.flow head o)) permission_order) found []

abbrev pub answered_in : LinkPast → Beat → Option Op → Option Request
answered_in past head found = option_and_then (λ o. request_in past.flow o head) found

-- The messages of a link with one more head of it.
abbrev pub messages_with_head : List Message → LinkDecl → Beat → List Message
messages_with_head before link head = with_message head (message_of link head) before

-- The past of a link with one more head of it.
abbrev pub past_with_head : ℕ → LinkPast → LinkDecl → Beat → LinkPast
past_with_head exponent past link head = past_with exponent past head (message_of link head)

-- This holds of whatever messages of the link the state stands for after which the head answers this request.
abbrev pub AfterMessages : ClientState → LinkDecl → Beat → Option Request → (ℕ → List Message → Type 0) → Type 0
AfterMessages state link head request Holds = (exponent : ℕ) (before : List Message) → StandsFor exponent state before
    → request ≡ answered before head (message_of link head) → Holds exponent before

-- This holds of whatever past the state shows by which the head answers this request.
abbrev pub ForShown : ClientState → LinkDecl → Beat → Option Request → (ℕ → LinkPast → Type 0) → Type 0
ForShown state link head request Holds = (exponent : ℕ) (past : LinkPast) → Shows exponent state past
    → request ≡ answered_in past head (message_of link head) → Holds exponent past

-- How many are open on a block after one more message, from what was open on its key.
abbrev pub opened_after : Table Message → (Message → Option ℕ) → Message → (ℕ → Option (Option ℕ)) → (ℕ → ℕ) → ℕ → ℕ
opened_after table kept message old counts block =
    count_after table (λ m. grants_block block (kept m)) message (passes (grants_block block) (old (table.key message))) (counts block)

-- The blocks of the open Acquires by source after one more message.
abbrev pub acquired_after : ℕ → Message → (ℕ → Option (Option ℕ)) → ℕ → Option (Option ℕ)
acquired_after exponent message old source =
    if touches sources source message then with_block (option_map (λ m. acquired_block exponent (as_request m)) (if_opens sources message)) else old source

-- What a state shows after one more message.
abbrev pub view_after : ClientView → Message → ClientView
view_after view message = record {
  exponent = view.exponent;
  past = record {
    probe = entry_after (probes view.exponent) (λ m. cap_of m.op m.beat.param) message view.past.probe;
    bound = λ block. claimed_or (claim view.exponent message) block (view.past.bound block);
    granted = entry_after sinks (granted_block view.exponent) message view.past.granted;
    acquires = opened_after sources (λ m. acquired_block view.exponent (as_request m)) message view.acquired view.past.acquires;
    releases = opened_after releases (λ m. released_block view.exponent (as_request m)) message view.released view.past.releases;
    grants = opened_after sinks (granted_block view.exponent) message view.past.granted view.past.grants;
  };
  acquired = acquired_after view.exponent message view.acquired;
  released = entry_after releases (λ m. released_block view.exponent (as_request m)) message view.released;
}

-- A head with its request, as far as that is known.
abbrev pub head_with : Beat → Option Request → Op → Message
head_with head request o = record { op = o; beat = head; request = request }

abbrev pub view_with : ClientView → Beat → Option Request → Option Op → ClientView
view_with view head request found = option_map_or (λ o. view_after view (head_with head request o)) found view

abbrev pub view_rules : Bool → ClientView → Beat → Option Op → List Rule
view_rules strict view head found =
    option_map_or (λ o. filter (breaks_permission strict view.exponent view.past (head_with head None o)) permission_order) found []

-- The state has this open.
pub record IsOpened (state : ClientState) (view : ClientView) : Type 0 where
  pub probe : (block : ℕ) → probe_at state block ≡ view.past.probe block
  pub granted : (sink : ℕ) → block_at state.grants sink ≡ view.past.granted sink
  pub acquires : (block : ℕ) → open_on state.acquires block ≡ view.past.acquires block
  pub releases : (block : ℕ) → open_on state.releases block ≡ view.past.releases block
  pub grants : (block : ℕ) → open_on state.grants block ≡ view.past.grants block
  pub acquired : (source : ℕ) → block_at state.acquires source ≡ view.acquired source
  pub released : (source : ℕ) → block_at state.releases source ≡ view.released source

-- It shows this.
pub record IsView (state : ClientState) (view : ClientView) : Type 0 where
  pub exponent : state.exponent ≡ view.exponent
  pub opened : IsOpened state view
  pub bound : (block : ℕ) → bound_at state.bounds block ≡ view.past.bound block

-- Both states show the same.
abbrev pub SameClient : ClientState → ClientState → Type 0
SameClient one two = shown one ≡ shown two

-- Messages that a channel can carry, as far as open tables tell them apart.
abbrev pub can_carry : Chan → Op → Bool
can_carry chan.A o = not (is_probe o || is_probe_ack o || is_release o || is_release_ack o || is_grant o || is_grant_ack o)
can_carry chan.B o = not (is_probe_ack o || is_release o || is_release_ack o || is_grant o || is_grant_ack o)
can_carry chan.C o = not (is_probe o || is_release_ack o || is_grant o || is_grant_ack o)
can_carry chan.D o = not (is_probe o || is_probe_ack o || is_release o || is_grant_ack o)
can_carry chan.E o = is_grant_ack o && not (is_probe o || is_probe_ack o || is_release o || is_release_ack o || is_grant o)

-- The state shows what the messages of the link with this number leave that these beats of its manager have.
abbrev pub StandsOn : ℕ → ClientState → LinkDecl → ℕ → List Placed → Type 0
StandsOn exponent state decl number before = (links : Links) → links number ≡ decl → StandsFor exponent state (messages_on links number before)
