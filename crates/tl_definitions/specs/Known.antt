-- What is known of a manager's links where nobody recorded their past: which keys are open, and what clients can hold. A head
-- whose reading is certain tells this; one that may be a later beat makes less known; a later beat changes nothing. Silence
-- changes nothing either: what the past opened may still be open.
use Rattle.std.specs.Prelude.{ℕ, ◌==◌, ◌&&◌, ◌||◌, Bool, true, false, List, [], ◌∷◌, Option, Some, None, if◌then◌else◌, nat_lt}
use Rattle.std.specs.Option.{option_map, option_map_or}
use Rattle.tl_tables.specs.declared.Chan.{Chan}
use Rattle.tl_tables.specs.declared.Chan.TheVariants as chan
use Rattle.tl_tables.specs.declared.Op.{Op}
use Rattle.tl_tables.specs.declared.Perm.{Perm}
use Rattle.tl_tables.specs.Messages.{same_chan}
use Rattle.tl_tables.specs.Params.{cap_of, perm_number}
use Rattle.tl_tables.specs.Kinds.{is_grant, is_release_ack}
use Rattle.tl_topology.specs.declared.LinkDecl.{LinkDecl}
use Rattle.tl_beats.specs.declared.Beat.{Beat}
use Rattle.tl_beats.specs.declared.Placed.{Placed}
use Rattle.tl_beats.specs.declared.Request.{Request}
use Rattle.tl_definitions.specs.OpenTables.{Table, touches, if_opens}
use Rattle.tl_definitions.specs.Heads.{message_of, before_on}
use Rattle.tl_definitions.specs.Messages.{Message, as_request, sources, releases, sinks, probes, granted_block, grant_claim, claim}
use Rattle.tl_definitions.specs.Rules.{Manager}
use Rattle.tl_definitions.specs.Readings.{Reading, may_begin, must_begin, readings_after, readings_at}

-- A value that is known, or isn't.
pub data Known (V : Type 0) : Type 0 where
  unknown : Known V
  known : V → Known V

-- What holds of a value for certain, and what is known of a value that is got from it.
abbrev pub surely : {V : Type 0} → (V → Bool) → Known V → Bool
surely test unknown = false
surely test (known value) = test value

abbrev pub map_known : {V W : Type 0} → (V → W) → Known V → Known W
map_known f unknown = unknown
map_known f (known value) = known (f value)

-- How a capture is read that begins in the middle: how many beats of a message its past may have left missing, by link and
-- channel; and whether the bursts that its beginning struck are told by their fields.
pub record Beginning : Type 0 where
  pub most : ℕ → Chan → ℕ
  pub by_fields : Bool

-- The known part of what a link's messages leave for its flow rules: by source the request and the Release in flight, None
-- where there is none; by sink whether a Grant is open.
pub record KnownFlow : Type 0 where
  pub source : ℕ → Known (Option Request)
  pub release : ℕ → Known (Option Request)
  pub sink : ℕ → Known Bool

-- And for its rules on blocks: by block the cap of the open Probe; which permissions its bound may be; and by sink the block
-- of the open Grant.
pub record KnownClient : Type 0 where
  pub probe : ℕ → Known (Option (Option Perm))
  pub bound : ℕ → Perm → Bool
  pub granted : ℕ → Known (Option (Option ℕ))

pub record KnownPast : Type 0 where
  pub flow : KnownFlow
  pub client : KnownClient

-- At first: no opener has a source at or above the link's number of sources, and all else is unknown.
abbrev pub first_key : LinkDecl → ℕ → Known (Option Request)
first_key link source = if nat_lt source link.sources then unknown else known None

abbrev pub first_past : LinkDecl → KnownPast
first_past link = record {
  flow = record { source = first_key link; release = first_key link; sink = λ sink. unknown };
  client = record { probe = λ block. unknown; bound = λ block held. true; granted = λ sink. unknown };
}

-- A head without the request that it answers, and with it.
abbrev pub bare : Op → Beat → Message
bare o beat = record { op = o; beat = beat; request = None }

abbrev pub answering : Message → Option Request → Message
answering message request = record { op = message.op; beat = message.beat; request = request }

-- The request that a head on D answers, as far as it is known.
abbrev pub known_request : KnownFlow → Message → Known (Option Request)
known_request past message =
    if same_chan message.beat.chan chan.D then (if is_release_ack message.op then past.release message.beat.source else past.source message.beat.source)
    else known None

-- What is closed stays closed where something may be closed.
abbrev pub if_closed : {V : Type 0} → Known (Option V) → Known (Option V)
if_closed unknown = unknown
if_closed (known None) = known None
if_closed (known (Some value)) = unknown

-- The entry of a key after one more message: what the message makes it, where the message is certain; where it may be a later
-- beat, what it was or what the message makes it, which is known where nothing was open and the message opens nothing.
abbrev pub key_after : {V : Type 0} → Bool → Table Message → Message → Known (Option V) → (ℕ → Known (Option V)) → ℕ → Known (Option V)
key_after certain table message made old key =
    if touches table key message then (if certain then made else if table.opens message then unknown else if_closed (old key)) else old key

abbrev pub if_shut : Known Bool → Known Bool
if_shut unknown = unknown
if_shut (known true) = unknown
if_shut (known false) = known false

-- So whether a Grant is open on a sink.
abbrev pub sink_after : Bool → Message → (ℕ → Known Bool) → ℕ → Known Bool
sink_after certain message old key =
    if touches sinks key message then (if certain then known (is_grant message.op) else if is_grant message.op then unknown else if_shut (old key))
    else old key

-- The block of a Grant is known where its request is. A GrantAck leaves no Grant open.
abbrev pub granted_entry : ℕ → Message → Known (Option Request) → Known (Option (Option ℕ))
granted_entry exponent message request =
    if is_grant message.op then map_known (λ answered. Some (granted_block exponent (answering message answered))) request else known None

abbrev pub same_perm : Perm → Perm → Bool
same_perm a b = perm_number a == perm_number b

-- The permissions that a bound may be, after a message that sets this one; and after one that may set it.
abbrev pub set_or_joined : Bool → Perm → (Perm → Bool) → Perm → Bool
set_or_joined certain set old held = if certain then same_perm set held else old held || same_perm set held

abbrev pub claimed_after : Bool → Option (ℕ × Perm) → (ℕ → Perm → Bool) → ℕ → Perm → Bool
claimed_after certain None old block = old block
claimed_after certain (Some (b, set)) old block = if b == block then set_or_joined certain set (old block) else old block

-- A Grant whose request isn't known may set the bound of any block: the past may have left an Acquire of that block open.
abbrev pub any_block_after : Option Perm → (ℕ → Perm → Bool) → ℕ → Perm → Bool
any_block_after None old block = old block
any_block_after (Some set) old block = set_or_joined false set (old block)

abbrev pub cap_given : Message → Option Perm
cap_given grant = if grant.beat.denied then None else cap_of grant.op grant.beat.param

abbrev pub grant_after : ℕ → Bool → Message → Known (Option Request) → (ℕ → Perm → Bool) → ℕ → Perm → Bool
grant_after exponent certain grant unknown old = any_block_after (cap_given grant) old
grant_after exponent certain grant (known request) old = claimed_after certain (grant_claim exponent (answering grant request)) old

-- The permissions that each bound may be after a message. Of all messages only a Grant sets a bound by its request.
abbrev pub bound_after : ℕ → Bool → Message → Known (Option Request) → (ℕ → Perm → Bool) → ℕ → Perm → Bool
bound_after exponent certain message request old =
    if is_grant message.op then grant_after exponent certain message request old else claimed_after certain (claim exponent message) old

-- What is known after one more message of the link.
abbrev pub flow_known : Bool → KnownFlow → Message → KnownFlow
flow_known certain past message = record {
  source = key_after certain sources message (known (option_map as_request (if_opens sources message))) past.source;
  release = key_after certain releases message (known (option_map as_request (if_opens releases message))) past.release;
  sink = sink_after certain message past.sink;
}

abbrev pub client_known : ℕ → Bool → Known (Option Request) → KnownClient → Message → KnownClient
client_known exponent certain request past message = record {
  probe = key_after certain (probes exponent) message (known (option_map (λ m. cap_of m.op m.beat.param) (if_opens (probes exponent) message))) past.probe;
  bound = bound_after exponent certain message request past.bound;
  granted = key_after certain sinks message (granted_entry exponent message request) past.granted;
}

abbrev pub past_known : ℕ → Bool → KnownPast → Message → KnownPast
past_known exponent certain past message = record {
  flow = flow_known certain past.flow message;
  client = client_known exponent certain (known_request past.flow message) past.client message;
}

-- After one more beat of the link that may be a head. A head without a message does nothing.
abbrev pub known_with : ℕ → Bool → KnownPast → Beat → Option Op → KnownPast
known_with exponent certain past beat found = option_map_or (λ o. past_known exponent certain past (bare o beat)) found past

-- The readings of a beat after these.
abbrev pub readings_of : Manager → Beginning → List Placed → Placed → List Reading
readings_of m start before p = readings_at (m.links p.link) (start.most p.link p.beat.chan) start.by_fields p.beat (before_on p.link p.beat.chan before)

-- One more beat of a manager: its link's past after it, where it may be a head.
abbrev pub known_step : Manager → List Reading → (ℕ → KnownPast) → Placed → ℕ → KnownPast
known_step m readings old p link =
    if (p.link == link) && may_begin readings then known_with m.exponent (must_begin readings) (old link) p.beat (message_of (m.links link) p.beat)
    else old link

-- What is known of each link after these beats of a manager.
abbrev pub known_pasts : Manager → Beginning → List Placed → ℕ → KnownPast
known_pasts m start [] = λ link. first_past (m.links link)
known_pasts m start (p ∷ before) = known_step m (readings_of m start before p) (known_pasts m start before) p

-- The known snapshot: for each channel of each link the readings of its next beat, and for each link what is known of what its
-- messages leave.
pub record KnownSnapshot : Type 0 where
  pub readings : ℕ → Chan → List Reading
  pub past : ℕ → KnownPast

abbrev pub known_snapshot : Manager → Beginning → List Placed → KnownSnapshot
known_snapshot m start before = record {
  readings = λ link chan. readings_after (m.links link) (start.most link chan) start.by_fields (before_on link chan before);
  past = known_pasts m start before;
}
