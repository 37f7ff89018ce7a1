-- Beats that a rule leaves unjudged: by what is known of what came before, the beat may break the rule, and may not.
use Rattle.std.specs.Prelude.{ℕ, ◌≡◌, ◌↔◌, ◌==◌, ◌&&◌, ◌||◌, not, Bool, true, false, List, ◌∷◌, ◌++◌, reverse, map, Option, Some, None}
use Rattle.std.specs.Io.Iter.{u64_saturate}
use Rattle.std.specs.Option.{option_map_or}
use Rattle.std.specs.List.{Contains, list_any, list_all}
use Rattle.tl_tables.specs.declared.Chan.TheVariants as chan
use Rattle.tl_tables.specs.declared.Perm.{Perm}
use Rattle.tl_tables.specs.declared.Perm.TheVariants as perm
use Rattle.tl_tables.specs.declared.Rule.{Rule}
use Rattle.tl_tables.specs.declared.Rule.TheVariants as rule
use Rattle.tl_tables.specs.Messages.{same_chan}
use Rattle.tl_tables.specs.Params.{from_of}
use Rattle.tl_tables.specs.Rules.{all_rules}
use Rattle.tl_tables.specs.Kinds.{is_acquire, is_probe, is_probe_ack, is_release, is_grant, is_release_ack, is_grant_ack, conflicts}
use Rattle.tl_beats.specs.declared.Beat.{Beat}
use Rattle.tl_beats.specs.declared.Placed.{Placed}
use Rattle.tl_beats.specs.declared.Request.{Request}
use Rattle.tl_definitions.specs.Breaks.{rules_at}
use Rattle.tl_definitions.specs.Heads.{message_of, before_on}
use Rattle.tl_definitions.specs.Known.{Known, unknown, known, Beginning, KnownFlow, KnownClient, KnownPast, bare, answering, known_request}
use Rattle.tl_definitions.specs.Lawful.{IsLawful, LeavesAtMost, any_past, at_heads}
use Rattle.tl_definitions.specs.Messages.{Message, is_request, is_reply, block_of, granted_block, claim}
use Rattle.tl_definitions.specs.Printed.{Front, front, breaks_by, printed_rules}
use Rattle.tl_definitions.specs.Readings.{Reading, due, rest, readings_after}
use Rattle.tl_definitions.specs.Rules.{Manager, has_mask, is_wrong}
use Rattle.tl_edits.specs.Inputs.{InputData}
use Rattle.tl_midway.specs.Counts.{Test, beats_counted}
use Rattle.tl_midway.specs.declared.midway.Midway.{Midway}

abbrev pub is_unknown : {V : Type 0} → Known V → Bool
is_unknown unknown = true
is_unknown (known value) = false

-- One of the permissions that a bound may be passes the test.
abbrev pub some_bound : (Perm → Bool) → (Perm → Bool) → Bool
some_bound test bound = bound perm.Nothing && test perm.Nothing || bound perm.Branch && test perm.Branch || bound perm.Trunk && test perm.Trunk

-- What a flow rule asks about isn't known: the key of its message, or the request that the message answers.
abbrev pub asks_flow : KnownFlow → Known (Option Request) → Message → Rule → Bool
asks_flow past request message rule.S1 = is_request message && is_unknown (past.source message.beat.source)
asks_flow past request message rule.S2 = is_reply message && is_unknown request
asks_flow past request message rule.S3 = is_reply message && is_unknown request
asks_flow past request message rule.S4 = is_reply message && is_unknown request
asks_flow past request message rule.S5 = is_release_ack message.op && is_unknown request
asks_flow past request message rule.S6 = is_release message.op && is_unknown (past.release message.beat.source)
asks_flow past request message rule.S7 = is_release_ack message.op && is_unknown request
asks_flow past request message rule.S8 = is_grant message.op && is_unknown (past.sink message.beat.sink)
asks_flow past request message rule.S9 = is_grant_ack message.op && is_unknown (past.sink message.beat.sink)
asks_flow past request message _ = false

-- The claim is wrong by a bound that may stand.
abbrev pub may_claim_wrongly : Bool → ℕ → KnownClient → Message → Bool
may_claim_wrongly strict exponent past message =
    option_map_or (λ from. some_bound (λ held. is_wrong strict held from) (past.bound (block_of exponent message))) (from_of message.op message.beat.param) false

-- So of permission rules. P6, P7, P8: an Acquire or a Release that nobody recorded may be open on any block.
abbrev pub asks_permission : Bool → ℕ → KnownClient → Message → Rule → Bool
asks_permission strict exponent past message rule.P1 = is_acquire message.op && may_claim_wrongly strict exponent past message
asks_permission strict exponent past message rule.P2 = (is_probe_ack message.op || is_release message.op) && may_claim_wrongly strict exponent past message
asks_permission strict exponent past message rule.P3 = is_probe_ack message.op && is_unknown (past.probe (block_of exponent message))
asks_permission strict exponent past message rule.P4 = is_probe_ack message.op && is_unknown (past.probe (block_of exponent message))
asks_permission strict exponent past message rule.P5 = is_probe message.op && is_unknown (past.probe (block_of exponent message))
asks_permission strict exponent past message rule.P6 = is_acquire message.op
asks_permission strict exponent past message rule.P7 = is_release message.op
asks_permission strict exponent past message rule.P8 = is_acquire message.op || is_release message.op || is_probe_ack message.op
asks_permission strict exponent past message _ = false

-- A bound of another client that may stand forbids what is set on the block.
abbrev pub may_conflict : List ℕ → (ℕ → KnownPast) → ℕ → ℕ × Perm → Bool
may_conflict clients pasts link (block, set) =
    list_any (λ client. not (client == link) && some_bound (conflicts set) ((pasts client).client.bound block)) clients

-- This may hold of a value.
abbrev pub maybe : {V : Type 0} → (V → Bool) → Known V → Bool
maybe test unknown = true
maybe test (known value) = test value

-- So of manager rules. M3: a Grant that nobody recorded may be open on any block.
abbrev pub asks_manager : List ℕ → ℕ → (ℕ → KnownPast) → ℕ → Known (Option Request) → Message → Rule → Bool
asks_manager clients exponent pasts link request message rule.M1 = is_grant message.op
    && maybe (λ answered. option_map_or (may_conflict clients pasts link) (claim exponent (answering message answered)) false) request
asks_manager clients exponent pasts link request message rule.M2 = is_grant message.op
    && maybe (λ answered. option_map_or (λ block. list_any (λ client. is_unknown ((pasts client).client.probe block)) clients)
    (granted_block exponent (answering message answered)) false) request
asks_manager clients exponent pasts link request message rule.M3 = is_probe message.op
asks_manager clients exponent pasts link request message _ = false

-- What the rule asks about of a head with this message isn't known.
abbrev pub asks : Manager → (ℕ → KnownPast) → ℕ → Message → Rule → Bool
asks m pasts link message r =
    asks_flow (pasts link).flow (known_request (pasts link).flow message) message r
    || asks_permission (m.links link).strict m.exponent (pasts link).client message r
    || asks_manager m.clients m.exponent pasts link (known_request (pasts link).flow message) message r

-- A later beat of a message of the past may break a rule, as nobody knows its head: F5 and U1 whatever the beat is.
abbrev pub may_break_past : Beat → Rule → Bool
may_break_past beat rule.F5 = has_mask beat.chan
may_break_past beat rule.F7 = same_chan beat.chan chan.D && beat.denied && not beat.corrupt
may_break_past beat rule.U1 = true
may_break_past beat _ = false

-- By one reading, the beat may break the rule.
abbrev pub may_break : Manager → Front → Placed → Rule → Reading → Bool
may_break m f p r due = breaks_by m f p r due || option_map_or (λ o. asks m f.past p.link (bare o p.beat) r) (message_of (m.links p.link) p.beat) false
may_break m f p r (rest missing None) = may_break_past p.beat r
may_break m f p r (rest missing (Some head)) = breaks_by m f p r (rest missing (Some head))

-- The readings of the channel's next beat, whatever the fields of that are.
abbrev pub next_readings : Manager → Beginning → List Placed → Placed → List Reading
next_readings m start before p =
    readings_after (m.links p.link) (start.most p.link p.beat.chan) start.by_fields (before_on p.link p.beat.chan before)

-- A rule leaves a beat after these unjudged: by some reading the beat may break it, and not by each it surely does.
abbrev pub is_unjudged : Rule → Test
is_unjudged r m start before p =
    list_any (may_break m (front m start before) p r) (next_readings m start before p)
    && not (list_all (breaks_by m (front m start before) p r) (next_readings m start before p))

-- How many beats, of all that edits leave, each rule leaves unjudged, in the order of reports.
abbrev pub unjudged_counts : Midway → InputData → List ℕ
unjudged_counts law now = map (λ r. u64_saturate (beats_counted (is_unjudged r) law now)) all_rules

-- A beat has a row of a rule that doesn't leave it unjudged exactly where it is printed: in the past followed by the capture.
abbrev pub AreJudged : Manager → Beginning → List Placed → List Placed → Type 0
AreJudged m start past beats = (earlier later : List Placed) (p : Placed) (r : Rule) → beats ≡ earlier ++ p ∷ later
    → is_unjudged r m start (reverse earlier) p ≡ false
    → Contains (rules_at m (reverse (past ++ earlier)) p) r ↔ Contains (printed_rules m start (reverse earlier) p) r

-- So it is for whatever past may come before, of those that the law speaks of.
abbrev pub AnyPastIsJudged : Type 0
AnyPastIsJudged = (m : Manager) (past beats : List Placed) → IsLawful m past → AreJudged m (any_past m) past beats

abbrev pub PastsOfWholeMessagesAreJudged : Type 0
PastsOfWholeMessagesAreJudged = (m : Manager) (past beats : List Placed) → IsLawful m past → LeavesAtMost m at_heads past → AreJudged m at_heads past beats
