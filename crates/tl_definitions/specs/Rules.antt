-- The rules of heads: what a head with a message breaks by itself, by the past of its link, and by those of all its
-- manager's links. A head whose opcode is no message breaks F1 and nothing else.
use Rattle.std.specs.Prelude.{ℕ, ◌+◌, ◌-◌, ◌*◌, ◌%◌, ◌^◌, ◌==◌, ◌&&◌, ◌||◌, not, Bool, true, false, List, [], ◌∷◌, ◌++◌, Option, Some, None, if◌then◌else◌, nat_lt, nat_le, bit_and, filter, is_some, is_none}
use Rattle.std.specs.Option.{option_map_or, option_and_then}
use Rattle.std.specs.List.{list_any}
use Rattle.tl_tables.specs.declared.Chan.{Chan}
use Rattle.tl_tables.specs.declared.Chan.TheVariants as chan
use Rattle.tl_tables.specs.declared.Op.{Op}
use Rattle.tl_tables.specs.declared.Perm.{Perm}
use Rattle.tl_tables.specs.declared.Rule.{Rule}
use Rattle.tl_tables.specs.declared.Rule.TheVariants as rule
use Rattle.tl_tables.specs.Messages.{carries_data_of, replies_to, same_chan}
use Rattle.tl_tables.specs.Params.{is_lawful, from_of, to_of, is_above}
use Rattle.tl_topology.specs.declared.LinkDecl.{LinkDecl}
use Rattle.tl_topology.specs.Regions.{Area, is_permitted}
use Rattle.tl_beats.specs.declared.Beat.{Beat}
use Rattle.tl_beats.specs.declared.Request.{Request}
use Rattle.tl_tables.specs.Kinds.{is_acquire, is_probe, is_probe_ack, is_release, is_grant, is_release_ack, is_grant_ack, is_put_partial, is_of_block, conflicts}
use Rattle.tl_definitions.specs.Messages.{Message, Links, is_request, is_reply, round_down, block_of, granted_block, claim}
use Rattle.tl_definitions.specs.Past.{FlowPast, ClientPast, LinkPast}

-- A manager: all links by number, the numbers of its own, its block of 2 ^ exponent bytes, its regions.
pub record Manager : Type 0 where
  pub links : Links
  pub clients : List ℕ
  pub exponent : ℕ
  pub regions : List Area

-- Which channels have an address, a size (with a source and a corrupt bit), and a mask.
abbrev pub has_address : Chan → Bool
has_address chan.D = false
has_address chan.E = false
has_address _ = true

abbrev pub has_size : Chan → Bool
has_size chan.E = false
has_size _ = true

abbrev pub has_mask : Chan → Bool
has_mask chan.A = true
has_mask chan.B = true
has_mask _ = false

-- The active lanes as a mask: all of the link where the size fills it, else those of 2 ^ size bytes, the address rounded
-- down to a multiple of that. [TileLink 1.8: byte lanes; own profile: rounding a misaligned address]
abbrev pub active_lanes : ℕ → ℕ → ℕ → ℕ
active_lanes width size address =
    if nat_le width (2 ^ size) then 2 ^ width - 1 else (2 ^ (2 ^ size) - 1) * 2 ^ round_down size (address % width)

-- A PutPartialData may leave out active lanes; any other message has them all.
abbrev pub is_mask_ok : Op → ℕ → ℕ → Bool
is_mask_ok o mask lanes = if is_put_partial o then bit_and mask lanes == mask else mask == lanes

-- The bytes of a request, 2 ^ size from the address rounded down on, are permitted by one region. [own profile]
abbrev pub is_in_region : List Area → Op → Beat → Bool
is_in_region regions o beat = is_permitted regions o (round_down beat.size beat.address) (round_down beat.size beat.address + 2 ^ beat.size - 1)

-- The lanes and the bits denied and corrupt of a beat, judged by what its head is.
abbrev pub breaks_mask : LinkDecl → Op → Beat → Beat → Bool
breaks_mask link o head beat = has_mask head.chan && not (is_mask_ok o beat.mask (active_lanes link.width head.size head.address))

abbrev pub breaks_denied : Op → Beat → Beat → Bool
breaks_denied o head beat = same_chan head.chan chan.D && carries_data_of o && beat.denied && not beat.corrupt

-- Format rules of a head with a message.
-- F2: the param isn't lawful for the message. [param fields; own profile: which are lawful]
-- F3: on A, B and C the address isn't a multiple of 2 ^ size. [address alignment]
-- F4: on A to D the size is above the link's largest. [size field; own profile: the link's largest]
-- F5: on A and B the mask isn't the active lanes; of a PutPartialData, isn't within them. [byte lanes]
-- F6: on A to D corrupt is high on a message without data. [corrupt field]
-- F7: on D data is denied and not corrupt. [denied and corrupt fields; own profile: for a denied Grant]
-- F8: a message of a block has another size than the manager's block. [transfer operations; own profile: one block size]
-- F9: on A to D the source isn't below the link's number of sources. [source field]
-- F10: on A the manager has regions, and none permits the kind of access to all its bytes. [own profile]
abbrev pub breaks_format : ℕ → List Area → LinkDecl → Op → Beat → Rule → Bool
breaks_format exponent regions link o beat rule.F2 = not (is_lawful o beat.param)
breaks_format exponent regions link o beat rule.F3 = has_address beat.chan && not (beat.address % 2 ^ beat.size == 0)
breaks_format exponent regions link o beat rule.F4 = has_size beat.chan && nat_lt link.max_size beat.size
breaks_format exponent regions link o beat rule.F5 = breaks_mask link o beat beat
breaks_format exponent regions link o beat rule.F6 = has_size beat.chan && beat.corrupt && not (carries_data_of o)
breaks_format exponent regions link o beat rule.F7 = breaks_denied o beat beat
breaks_format exponent regions link o beat rule.F8 = is_of_block o && not (beat.size == exponent)
breaks_format exponent regions link o beat rule.F9 = has_size beat.chan && not (nat_lt beat.source link.sources)
breaks_format exponent regions link o beat rule.F10 = same_chan beat.chan chan.A && not (is_in_region regions o beat)
breaks_format exponent regions link o beat _ = false

abbrev pub format_order : List Rule
format_order = rule.F2 ∷ rule.F3 ∷ rule.F4 ∷ rule.F5 ∷ rule.F6 ∷ rule.F7 ∷ rule.F8 ∷ rule.F9 ∷ rule.F10 ∷ []

-- The format rules that a head breaks: all of them need nothing but the beat.
-- F1: the opcode is no message of its channel at the link's level. [message opcodes; own profile: which codes a level has]
abbrev pub format_rules : ℕ → List Area → LinkDecl → Beat → Option Op → List Rule
format_rules exponent regions link beat None = rule.F1 ∷ []
format_rules exponent regions link beat (Some o) = filter (breaks_format exponent regions link o beat) format_order

-- A request that isn't there breaks no rule on what it is.
abbrev pub of_request : (Request → Bool) → Message → Bool
of_request test reply = option_map_or test reply.request false

-- Flow rules of a head, by the past of its link.
-- S1: a request on A uses a source that is in flight. [source identifiers]
-- S2: a reply on D (not ReleaseAck) has no open request on its source. [responses]
-- S3: such a reply is of a kind that its request doesn't have. [operations and their responses]
-- S4: such a reply has another size than its request. [size of responses]
-- S5: a ReleaseAck has no open Release on its source. [Release and ReleaseAck]
-- S6: a Release uses a source on which a Release is in flight. [source identifiers]
-- S7: a ReleaseAck has another size than its Release. [size of responses]
-- S8: a Grant uses a sink whose Grant awaits its GrantAck. [sink identifiers]
-- S9: a GrantAck has no open Grant on its sink. [Grant and GrantAck]
abbrev pub breaks_flow : FlowPast → Message → Rule → Bool
breaks_flow past message rule.S1 = is_request message && is_some (past.source message.beat.source)
breaks_flow past message rule.S2 = is_reply message && is_none message.request
breaks_flow past message rule.S3 = is_reply message && of_request (λ request. not (replies_to request.op message.op)) message
breaks_flow past message rule.S4 = is_reply message && of_request (λ request. not (request.size == message.beat.size)) message
breaks_flow past message rule.S5 = is_release_ack message.op && is_none message.request
breaks_flow past message rule.S6 = is_release message.op && is_some (past.release message.beat.source)
breaks_flow past message rule.S7 = is_release_ack message.op && of_request (λ request. not (request.size == message.beat.size)) message
breaks_flow past message rule.S8 = is_grant message.op && past.sink message.beat.sink
breaks_flow past message rule.S9 = is_grant_ack message.op && not (past.sink message.beat.sink)
breaks_flow past message _ = false

abbrev pub flow_order : List Rule
flow_order = rule.S1 ∷ rule.S2 ∷ rule.S3 ∷ rule.S4 ∷ rule.S5 ∷ rule.S6 ∷ rule.S7 ∷ rule.S8 ∷ rule.S9 ∷ []

-- What a client claims to have held is wrong where it is above its bound. The client of a strict link drops no block in
-- silence, so there it holds the bound, and a claim below it is wrong too. [permission transitions; own profile: strict links]
abbrev pub is_wrong : Bool → Perm → Perm → Bool
is_wrong strict bound from = is_above from bound || (strict && is_above bound from)

-- The message makes a wrong claim on its block. An unlawful param claims nothing.
abbrev pub claims_wrongly : Bool → ℕ → ClientPast → Message → Bool
claims_wrongly strict exponent past message =
    option_map_or (is_wrong strict (past.bound (block_of exponent message))) (from_of message.op message.beat.param) false

-- The message keeps more of its block than the cap of the open Probe.
abbrev pub keeps_above : ℕ → ClientPast → Message → Bool
keeps_above exponent past message =
    option_map_or (λ to. option_map_or (is_above to) (option_and_then (λ cap. cap) (past.probe (block_of exponent message))) false)
    (to_of message.op message.beat.param) false

-- Permission rules of a head, by the past of its link and whether that is strict. What is said of a client is said of its link.
-- P1: an Acquire claims to hold more than its client can; on a strict link, more or less. [permission transitions]
-- P2: a ProbeAck or Release claims to hold more than its client can; on a strict link, more or less. [permission transitions]
-- P3: a ProbeAck without an open Probe on its block. [Probe and ProbeAck]
-- P4: a ProbeAck keeps more than the open Probe's cap. [Probe and ProbeAck, cap]
-- P5: a Probe while one is open on its block at this client. [own profile, after the concurrency rules]
-- P6: an Acquire while this client has an Acquire open on the block. [own profile, after the concurrency rules]
-- P7: a Release while this client has an Acquire open on the block. [own profile, after the concurrency rules]
-- P8: an Acquire, Release or ProbeAck while this client has a Release open on the block. [own profile, the same]
abbrev pub breaks_permission : Bool → ℕ → ClientPast → Message → Rule → Bool
breaks_permission strict exponent past message rule.P1 = is_acquire message.op && claims_wrongly strict exponent past message
breaks_permission strict exponent past message rule.P2 = (is_probe_ack message.op || is_release message.op) && claims_wrongly strict exponent past message
breaks_permission strict exponent past message rule.P3 = is_probe_ack message.op && is_none (past.probe (block_of exponent message))
breaks_permission strict exponent past message rule.P4 = is_probe_ack message.op && keeps_above exponent past message
breaks_permission strict exponent past message rule.P5 = is_probe message.op && is_some (past.probe (block_of exponent message))
breaks_permission strict exponent past message rule.P6 = is_acquire message.op && nat_lt 0 (past.acquires (block_of exponent message))
breaks_permission strict exponent past message rule.P7 = is_release message.op && nat_lt 0 (past.acquires (block_of exponent message))
breaks_permission strict exponent past message rule.P8 = (is_acquire message.op || is_release message.op || is_probe_ack message.op)
    && nat_lt 0 (past.releases (block_of exponent message))
breaks_permission strict exponent past message _ = false

abbrev pub permission_order : List Rule
permission_order = rule.P1 ∷ rule.P2 ∷ rule.P3 ∷ rule.P4 ∷ rule.P5 ∷ rule.P6 ∷ rule.P7 ∷ rule.P8 ∷ []

-- Another client's bound forbids what is set on the block.
abbrev pub conflicts_with_other : List ℕ → (ℕ → ClientPast) → ℕ → ℕ × Perm → Bool
conflicts_with_other clients pasts link (block, set) = list_any (λ client. not (client == link) && conflicts set ((pasts client).bound block)) clients

-- Manager rules of a head on a link, by the pasts of all the manager's links, with or without beats nearby.
-- M1: a Grant gives what another client's bound forbids: T where that isn't N, or B where it is T. [coherence; own profile:
-- over all clients of the manager]
-- M2: a Grant while a client has an open Probe on the block. [own profile, after the concurrency rules]
-- M3: a Probe while a client has an open Grant on the block. [own profile, after the concurrency rules]
abbrev pub breaks_manager : List ℕ → ℕ → (ℕ → ClientPast) → ℕ → Message → Rule → Bool
breaks_manager clients exponent pasts link message rule.M1 = is_grant message.op
    && option_map_or (conflicts_with_other clients pasts link) (claim exponent message) false
breaks_manager clients exponent pasts link message rule.M2 =
    is_grant message.op && option_map_or (λ block. list_any (λ client. is_some ((pasts client).probe block)) clients) (granted_block exponent message) false
breaks_manager clients exponent pasts link message rule.M3 = is_probe message.op
    && list_any (λ client. nat_lt 0 ((pasts client).grants (block_of exponent message))) clients
breaks_manager clients exponent pasts link message _ = false

abbrev pub manager_order : List Rule
manager_order = rule.M1 ∷ rule.M2 ∷ rule.M3 ∷ []

-- The rules that a head with this message breaks, in the order of reports.
abbrev pub rules_of_message : Manager → (ℕ → LinkPast) → ℕ → Message → List Rule
rules_of_message m pasts link message =
    filter (breaks_format m.exponent m.regions (m.links link) message.op message.beat) format_order ++ filter (breaks_flow (pasts link).flow message) flow_order
    ++ filter (breaks_permission (m.links link).strict m.exponent (pasts link).client message) permission_order
    ++ filter (breaks_manager m.clients m.exponent (λ client. (pasts client).client) link message) manager_order
