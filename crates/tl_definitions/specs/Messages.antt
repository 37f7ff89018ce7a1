-- The messages of a link, the tables that they open and close, blocks, and bounds on what a client can hold.
use Rattle.std.specs.Prelude.{ℕ, ◌*◌, ◌/◌, ◌^◌, ◌==◌, ◌&&◌, ◌||◌, not, Bool, List, [], ◌∷◌, Option, Some, None, if◌then◌else◌}
use Rattle.std.specs.Option.{option_map, option_map_or, option_and_then}
use Rattle.tl_tables.specs.declared.Chan.TheVariants as chan
use Rattle.tl_tables.specs.declared.Op.{Op}
use Rattle.tl_tables.specs.declared.Perm.{Perm}
use Rattle.tl_tables.specs.declared.Perm.TheVariants as perm
use Rattle.tl_tables.specs.Messages.{same_chan}
use Rattle.tl_tables.specs.Params.{from_of, to_of, cap_of}
use Rattle.tl_topology.specs.declared.LinkDecl.{LinkDecl}
use Rattle.tl_beats.specs.declared.Beat.{Beat}
use Rattle.tl_beats.specs.declared.Placed.{Placed}
use Rattle.tl_beats.specs.declared.Request.{Request}
use Rattle.tl_tables.specs.Kinds.{is_acquire, is_probe, is_probe_ack, is_release, is_grant, is_release_ack, is_grant_ack}
use Rattle.tl_definitions.specs.OpenTables.{Table, entry_at}
use Rattle.tl_definitions.specs.Heads.{message_of, before_on, is_head}

-- A head with a message, and on D the request that it answers. A head whose opcode is no message isn't one: it opens, closes
-- and sets nothing.
pub record Message : Type 0 where
  pub op : Op
  pub beat : Beat
  pub request : Option Request

-- What is kept of a request, for its reply to be compared with.
abbrev pub as_request : Message → Request
as_request message =
    record { op = message.op; param = message.beat.param; size = message.beat.size; source = message.beat.source; address = message.beat.address }

-- The address rounded down to a multiple of 2 ^ exponent.
abbrev pub round_down : ℕ → ℕ → ℕ
round_down exponent address = address / 2 ^ exponent * 2 ^ exponent

-- The block of a message with an address; a manager's blocks have 2 ^ exponent bytes. [TileLink 1.8: transfer operations]
abbrev pub block_of : ℕ → Message → ℕ
block_of exponent message = round_down exponent message.beat.address

-- The block of a Grant is that of its request where this is an Acquire, and unknown elsewhere. [own profile]
abbrev pub granted_block : ℕ → Message → Option ℕ
granted_block exponent grant =
    option_and_then (λ request. if is_acquire request.op then Some (round_down exponent request.address) else None) grant.request

-- Every message of channel A asks for a reply.
abbrev pub is_request : Message → Bool
is_request message = same_chan message.beat.chan chan.A

-- Every message of channel D but ReleaseAck replies to one of channel A.
abbrev pub is_reply : Message → Bool
is_reply message = same_chan message.beat.chan chan.D && not (is_release_ack message.op)

-- The requests of channel A in flight, by source. [TileLink 1.8: source identifiers; own profile: key and ends]
abbrev pub sources : Table Message
sources = record { opens = is_request; closes = is_reply; key = λ message. message.beat.source }

-- The Releases in flight, by source. [TileLink 1.8: Release and ReleaseAck; own profile: key and ends]
abbrev pub releases : Table Message
releases = record { opens = λ message. is_release message.op; closes = λ message. is_release_ack message.op; key = λ message. message.beat.source }

-- The Grants without their GrantAck, by sink. [TileLink 1.8: sink identifiers; own profile: key and ends]
abbrev pub sinks : Table Message
sinks = record { opens = λ message. is_grant message.op; closes = λ message. is_grant_ack message.op; key = λ message. message.beat.sink }

-- The Probes without their ProbeAck, by block. [TileLink 1.8: Probe and ProbeAck; own profile: key and ends]
abbrev pub probes : ℕ → Table Message
probes exponent = record { opens = λ message. is_probe message.op; closes = λ message. is_probe_ack message.op; key = block_of exponent }

-- The request that a head on D answers: the Release in flight on its source for a ReleaseAck, else the request in flight
-- there. [TileLink 1.8: operations, responses]
abbrev pub request_of : List Message → Op → Beat → Option Request
request_of before o beat =
    if same_chan beat.chan chan.D then (if is_release_ack o then entry_at releases as_request before beat.source
    else entry_at sources as_request before beat.source)
    else None

abbrev pub message_at : List Message → Beat → Op → Message
message_at before beat o = record { op = o; beat = beat; request = request_of before o beat }

abbrev pub with_message : Beat → Option Op → List Message → List Message
with_message beat found before = option_map_or (λ o. message_at before beat o ∷ before) found before

-- The links of a topology by their numbers.
abbrev pub Links : Type 0
Links = ℕ → LinkDecl

-- The beat after these is a head.
abbrev pub at_head : Links → List Placed → Placed → Bool
at_head links before p = is_head (links p.link) (before_on p.link p.beat.chan before)

-- The messages of one link, among the beats of a manager.
abbrev pub messages_on : Links → ℕ → List Placed → List Message
messages_on links link [] = []
messages_on links link (p ∷ before) =
    if (p.link == link) && at_head links before p then with_message p.beat (message_of (links link) p.beat) (messages_on links link before)
    else messages_on links link before

-- What a Grant gives: its cap on its block, unless it is denied. [TileLink 1.8: permission transitions; own profile: denied]
abbrev pub grant_claim : ℕ → Message → Option (ℕ × Perm)
grant_claim exponent grant =
    if grant.beat.denied then None
    else option_and_then (λ block. option_map (λ cap. (block, cap)) (cap_of grant.op grant.beat.param)) (granted_block exponent grant)

-- What a client says of itself: an Acquire what it had, a ProbeAck or Release what it keeps.
abbrev pub own_claim : Message → Option Perm
own_claim message =
    if is_acquire message.op then from_of message.op message.beat.param
    else if is_probe_ack message.op || is_release message.op then to_of message.op message.beat.param
    else None

-- The block and the bound that a message sets, if it sets one. An unlawful param names no permission and sets none.
abbrev pub claim : ℕ → Message → Option (ℕ × Perm)
claim exponent message =
    if is_grant message.op then grant_claim exponent message
    else option_map (λ set. (block_of exponent message, set)) (own_claim message)

abbrev pub claimed_or : Option (ℕ × Perm) → ℕ → Perm → Perm
claimed_or None block earlier = earlier
claimed_or (Some (b, set)) block earlier = if b == block then set else earlier

-- The most that a client can hold of a block: what the last message sets that sets its bound, and nothing without one. It is
-- no more than a bound, since clients may drop what they hold and say nothing. [TileLink 1.8: permission transitions]
abbrev pub bound_of : ℕ → List Message → ℕ → Perm
bound_of exponent [] block = perm.Nothing
bound_of exponent (message ∷ before) block = claimed_or (claim exponent message) block (bound_of exponent before block)
