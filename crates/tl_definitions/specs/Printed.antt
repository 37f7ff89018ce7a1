-- The rows that are printed of a capture that begins in the middle of a run: of each beat the rules that it breaks by each of
-- its readings, and by all that what is known leaves open.
use Rattle.std.specs.Prelude.{ℕ, ◌^◌, ◌==◌, ◌&&◌, ◌||◌, not, Bool, true, false, List, [], ◌∷◌, ◌++◌, Option, Some, None, nat_le, is_some, is_none, filter, map}
use Rattle.std.specs.Option.{option_map_or, option_and_then}
use Rattle.std.specs.List.{list_any, list_all}
use Rattle.tl_tables.specs.declared.Chan.TheVariants as chan
use Rattle.tl_tables.specs.declared.Perm.{Perm}
use Rattle.tl_tables.specs.declared.Perm.TheVariants as perm
use Rattle.tl_tables.specs.declared.Rule.{Rule}
use Rattle.tl_tables.specs.declared.Rule.TheVariants as rule
use Rattle.tl_tables.specs.Messages.{same_chan, replies_to}
use Rattle.tl_tables.specs.Rules.{all_rules}
use Rattle.tl_tables.specs.Params.{from_of, to_of, is_above}
use Rattle.tl_tables.specs.Kinds.{is_acquire, is_probe, is_probe_ack, is_release, is_grant, is_release_ack, is_grant_ack, conflicts}
use Rattle.tl_topology.specs.declared.LinkDecl.{LinkDecl}
use Rattle.tl_beats.specs.declared.Beat.{Beat}
use Rattle.tl_beats.specs.declared.Placed.{Placed}
use Rattle.tl_beats.specs.declared.Request.{Request}
use Rattle.tl_beats.specs.declared.Row.{Row}
use Rattle.tl_definitions.specs.OpenTables.{passes}
use Rattle.tl_definitions.specs.Heads.{message_of, before_on}
use Rattle.tl_definitions.specs.Messages.{Message, is_request, is_reply, block_of, granted_block, claim}
use Rattle.tl_definitions.specs.Past.{acquires_block, releases_block, grants_block}
use Rattle.tl_definitions.specs.Rules.{Manager, breaks_format, has_mask, is_wrong}
use Rattle.tl_definitions.specs.Breaks.{breaks_later, row_of}
use Rattle.tl_definitions.specs.Readings.{Reading, due, rest}
use Rattle.tl_definitions.specs.Known.{Known, surely, Beginning, KnownFlow, KnownClient, KnownPast, bare, answering, known_request, readings_of, known_pasts}

-- Every permission that a bound may be passes the test.
abbrev pub every_bound : (Perm → Bool) → (Perm → Bool) → Bool
every_bound test bound =
    (not (bound perm.Nothing) || test perm.Nothing) && (not (bound perm.Branch) || test perm.Branch) && (not (bound perm.Trunk) || test perm.Trunk)

-- One of these keys is known to be open, with an entry that passes the test.
abbrev pub some_key : {V : Type 0} → (V → Bool) → (ℕ → Known (Option V)) → List ℕ → Bool
some_key test entries keys = list_any (λ key. surely (passes test) (entries key)) keys

-- Flow rules of a certain head, by what is known of its link's past and of the request that it answers.
-- S1, S6, S8: the key is known to be open. S2, S5, S9: it is known to be closed.
-- S3, S4, S7: it is known to be open, and with what entry.
abbrev pub breaks_flow_surely : KnownFlow → Known (Option Request) → Message → Rule → Bool
breaks_flow_surely past request message rule.S1 = is_request message && surely is_some (past.source message.beat.source)
breaks_flow_surely past request message rule.S2 = is_reply message && surely is_none request
breaks_flow_surely past request message rule.S3 = is_reply message && surely (passes (λ answered. not (replies_to answered.op message.op))) request
breaks_flow_surely past request message rule.S4 = is_reply message && surely (passes (λ answered. not (answered.size == message.beat.size))) request
breaks_flow_surely past request message rule.S5 = is_release_ack message.op && surely is_none request
breaks_flow_surely past request message rule.S6 = is_release message.op && surely is_some (past.release message.beat.source)
breaks_flow_surely past request message rule.S7 =
    is_release_ack message.op && surely (passes (λ answered. not (answered.size == message.beat.size))) request
breaks_flow_surely past request message rule.S8 = is_grant message.op && surely (λ is. is) (past.sink message.beat.sink)
breaks_flow_surely past request message rule.S9 = is_grant_ack message.op && surely not (past.sink message.beat.sink)
breaks_flow_surely past request message _ = false

-- The claim is wrong whatever its bound is, of those that it may be.
abbrev pub claims_wrongly_surely : Bool → ℕ → KnownClient → Message → Bool
claims_wrongly_surely strict exponent past message =
    option_map_or (λ from. every_bound (λ held. is_wrong strict held from) (past.bound (block_of exponent message)))
    (from_of message.op message.beat.param) false

abbrev pub keeps_above_surely : ℕ → KnownClient → Message → Bool
keeps_above_surely exponent past message =
    surely (λ probe. option_map_or (λ to. option_map_or (is_above to) (option_and_then (λ cap. cap) probe) false) (to_of message.op message.beat.param) false)
    (past.probe (block_of exponent message))

-- By block: whether an Acquire is known to be open on it, whether a Release is, whether a Grant is. Each was opened by a beat
-- of the capture, so its key is the source or the sink of one.
abbrev pub has_acquire : ℕ → KnownPast → List Beat → ℕ → Bool
has_acquire exponent past on_a block = some_key (acquires_block exponent block) past.flow.source (map (λ beat. beat.source) on_a)

abbrev pub has_release : ℕ → KnownPast → List Beat → ℕ → Bool
has_release exponent past on_c block = some_key (releases_block exponent block) past.flow.release (map (λ beat. beat.source) on_c)

abbrev pub has_grant : KnownPast → List Beat → ℕ → Bool
has_grant past on_d block = some_key (grants_block block) past.client.granted (map (λ beat. beat.sink) on_d)

-- Permission rules of a certain head, by what is known of its link's past, and by whether an Acquire or a Release is known to
-- be open on its block.
-- P1, P2: the claim is wrong by each bound that may stand. P3: the block is known to have no Probe open. P4, P5: it is known
-- to have one. P6, P7, P8: an Acquire or a Release is known to be open on the block.
abbrev pub breaks_permission_surely : Bool → ℕ → KnownClient → Bool → Bool → Message → Rule → Bool
breaks_permission_surely strict exponent past acquire release message rule.P1 = is_acquire message.op && claims_wrongly_surely strict exponent past message
breaks_permission_surely strict exponent past acquire release message rule.P2 =
    (is_probe_ack message.op || is_release message.op) && claims_wrongly_surely strict exponent past message
breaks_permission_surely strict exponent past acquire release message rule.P3 = is_probe_ack message.op && surely is_none (past.probe (block_of exponent message))
breaks_permission_surely strict exponent past acquire release message rule.P4 = is_probe_ack message.op && keeps_above_surely exponent past message
breaks_permission_surely strict exponent past acquire release message rule.P5 = is_probe message.op && surely is_some (past.probe (block_of exponent message))
breaks_permission_surely strict exponent past acquire release message rule.P6 = is_acquire message.op && acquire
breaks_permission_surely strict exponent past acquire release message rule.P7 = is_release message.op && acquire
breaks_permission_surely strict exponent past acquire release message rule.P8 =
    (is_acquire message.op || is_release message.op || is_probe_ack message.op) && release
breaks_permission_surely strict exponent past acquire release message _ = false

-- Another client's bound forbids what is set on the block, whatever it is of those that it may be.
abbrev pub conflicts_surely : List ℕ → (ℕ → KnownPast) → ℕ → ℕ × Perm → Bool
conflicts_surely clients pasts link (block, set) =
    list_any (λ client. not (client == link) && every_bound (conflicts set) ((pasts client).client.bound block)) clients

-- Manager rules of a certain head. M1, M2: the Grant's request is known, and so its block. M3: a Grant of the block is known to
-- be open at some client.
abbrev pub breaks_manager_surely : List ℕ → ℕ → (ℕ → KnownPast) → (ℕ → ℕ → Bool) → ℕ → Known (Option Request) → Message → Rule → Bool
breaks_manager_surely clients exponent pasts grants link request message rule.M1 = is_grant message.op
    && surely (λ answered. option_map_or (conflicts_surely clients pasts link) (claim exponent (answering message answered)) false) request
breaks_manager_surely clients exponent pasts grants link request message rule.M2 = is_grant message.op
    && surely (λ answered. option_map_or (λ block. list_any (λ client. surely is_some ((pasts client).client.probe block)) clients)
    (granted_block exponent (answering message answered)) false) request
breaks_manager_surely clients exponent pasts grants link request message rule.M3 = is_probe message.op
    && list_any (λ client. grants client (block_of exponent message)) clients
breaks_manager_surely clients exponent pasts grants link request message _ = false

-- What is known of each link, and on each link and channel the beats of the capture so far.
pub record Front : Type 0 where
  pub past : ℕ → KnownPast
  pub beats : List Placed

abbrev pub front : Manager → Beginning → List Placed → Front
front m start before = record { past = known_pasts m start before; beats = before }

abbrev pub acquire_open : Manager → Front → ℕ → Message → Bool
acquire_open m f link message = has_acquire m.exponent (f.past link) (before_on link chan.A f.beats) (block_of m.exponent message)

abbrev pub release_open : Manager → Front → ℕ → Message → Bool
release_open m f link message = has_release m.exponent (f.past link) (before_on link chan.C f.beats) (block_of m.exponent message)

abbrev pub grant_open : Front → ℕ → ℕ → Bool
grant_open f client block = has_grant (f.past client) (before_on client chan.D f.beats) block

-- A head with this message surely breaks the rule.
abbrev pub breaks_surely : Manager → Front → ℕ → Message → Rule → Bool
breaks_surely m f link message r =
    breaks_format m.exponent m.regions (m.links link) message.op message.beat r
    || breaks_flow_surely (f.past link).flow (known_request (f.past link).flow message) message r
    || breaks_permission_surely (m.links link).strict m.exponent (f.past link).client (acquire_open m f link message) (release_open m f link message) message r
    || breaks_manager_surely m.clients m.exponent f.past (grant_open f) link (known_request (f.past link).flow message) message r

abbrev pub is_f1 : Rule → Bool
is_f1 rule.F1 = true
is_f1 _ = false

-- A later beat of a message of the past. That message has data and fills all lanes of the link.
-- F5: the mask has a lane that the link lacks. F7: it is denied and not corrupt.
abbrev pub breaks_past : LinkDecl → Beat → Rule → Bool
breaks_past link beat rule.F5 = has_mask beat.chan && nat_le (2 ^ link.width) beat.mask
breaks_past link beat rule.F7 = same_chan beat.chan chan.D && beat.denied && not beat.corrupt
breaks_past link beat _ = false

-- By one reading, the beat surely breaks the rule.
abbrev pub breaks_by : Manager → Front → Placed → Rule → Reading → Bool
breaks_by m f p r due = option_map_or (λ o. breaks_surely m f p.link (bare o p.beat) r) (message_of (m.links p.link) p.beat) (is_f1 r)
breaks_by m f p r (rest missing (Some head)) = option_map_or (λ o. breaks_later (m.links p.link) o head p.beat r) (message_of (m.links p.link) head) false
breaks_by m f p r (rest missing None) = breaks_past (m.links p.link) p.beat r

-- The rules of beats, in the order of reports: all but those of monitors.
abbrev pub is_of_monitors : Rule → Bool
is_of_monitors rule.X1 = true
is_of_monitors _ = false

abbrev pub beat_rules : List Rule
beat_rules = filter (λ r. not (is_of_monitors r)) all_rules

-- The rules that are printed of a beat: those that it breaks by each of its readings.
abbrev pub printed_of : Manager → Front → List Reading → Placed → List Rule
printed_of m f readings p = filter (λ r. list_all (breaks_by m f p r) readings) beat_rules

abbrev pub printed_rules : Manager → Beginning → List Placed → Placed → List Rule
printed_rules m start before p = printed_of m (front m start before) (readings_of m start before p) p

-- The rows that are printed of beats in their order that come after others of the capture.
abbrev pub printed_after : Manager → Beginning → List Placed → List Placed → List Row
printed_after m start before [] = []
printed_after m start before (p ∷ beats) = map (row_of p) (printed_rules m start before p) ++ printed_after m start (p ∷ before) beats

abbrev pub printed_rows : Manager → Beginning → List Placed → List Row
printed_rows m start beats = printed_after m start [] beats
