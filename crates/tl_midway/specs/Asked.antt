-- What rules ask about of a head, by what the states of links show.
use Rattle.std.specs.Prelude.{ℕ, ◌≡◌, ◌==◌, ◌&&◌, ◌||◌, not, Bool, true, false, List, Option}
use Rattle.std.specs.List.{list_any}
use Rattle.std.specs.Option.{option_and_then, option_map_or}
use Rattle.tl_tables.specs.declared.Rule.{Rule}
use Rattle.tl_tables.specs.declared.Rule.TheVariants as rule
use Rattle.tl_tables.specs.declared.Perm.{Perm}
use Rattle.tl_tables.specs.Kinds.{conflicts, is_acquire, is_probe, is_probe_ack, is_release, is_grant, is_release_ack, is_grant_ack}
use Rattle.tl_tables.specs.declared.Op.{Op}
use Rattle.tl_tables.specs.Rules.{rule_number}
use Rattle.tl_topology.specs.declared.LinkDecl.{LinkDecl}
use Rattle.tl_beats.specs.declared.Placed.{Placed}
use Rattle.tl_beats.specs.declared.Request.{Request}
use Rattle.tl_definitions.specs.Heads.{message_of}
use Rattle.tl_definitions.specs.Messages.{Message, claim}
use Rattle.tl_definitions.specs.Known.{Known, Beginning, bare, answering, known_request, known_pasts}
use Rattle.tl_definitions.specs.Printed.{Front, front, grant_open, breaks_flow_surely, breaks_manager_surely}
use Rattle.tl_definitions.specs.Rules.{Manager}
use Rattle.tl_client_rules.specs.Client.{acquired_block}
use Rattle.tl_midway.specs.KnownLink as known_link
use Rattle.tl_midway.specs.KnownLink.{shown, permission_surely}
use Rattle.tl_midway.specs.KnownPasts.{StandsFor}
use Rattle.tl_midway.specs.Unjudged.{is_unknown, some_bound, maybe, asks}
use Rattle.tl_midway.specs.declared.known_link.KnownLink.{KnownLink}
use Rattle.tl_midway.specs.declared.known_pasts.LinkPast.{LinkPast}
use Rattle.tl_midway.specs.declared.known_pasts.KnownPasts.{KnownPasts}

-- What a message sets is forbidden by a bound that another client's may be; it isn't known of some client whether a Probe of the
-- block is open.
abbrev pub forbidden_shown : KnownPasts → ℕ → ℕ × Perm → Bool
forbidden_shown state link (block, set) = list_any (λ (own : LinkPast). not (own.number == link)
    && some_bound (conflicts set) ((shown own.past).client.bound block)) state.links.items

abbrev pub hidden_shown : KnownPasts → ℕ → Bool
hidden_shown state block = list_any (λ (own : LinkPast). is_unknown ((shown own.past).client.probe block)) state.links.items

-- So of a Grant, as far as its request is known.
abbrev pub may_conflict_shown : KnownPasts → ℕ → Known (Option Request) → Message → Bool
may_conflict_shown state link request message =
    maybe (λ answered. option_map_or (forbidden_shown state link) (claim state.exponent (answering message answered)) false) request

abbrev pub may_meet_shown : KnownPasts → Known (Option Request) → Bool
may_meet_shown state request = maybe (λ answered. option_map_or (hidden_shown state) (option_and_then (acquired_block state.exponent) answered) false) request

-- What the manager rule asks about of a head with this message isn't known.
abbrev pub asks_shown_manager : KnownPasts → ℕ → Known (Option Request) → Message → Rule → Bool
asks_shown_manager state link request message rule.M1 = is_grant message.op && may_conflict_shown state link request message
asks_shown_manager state link request message rule.M2 = is_grant message.op && may_meet_shown state request
asks_shown_manager state link request message rule.M3 = is_probe message.op
asks_shown_manager state link request message _ = false

-- This holds of whatever manager and beats before that the states stand for: that of all its links, and that of one which is strict
-- or isn't.
abbrev pub WhereKnown : KnownPasts → KnownLink → Bool → ℕ → (Manager → Beginning → List Placed → Type 0) → Type 0
WhereKnown state own strict link Holds = (m : Manager) (start : Beginning) (before : List Placed) → StandsFor m start state before
    → known_link.StandsFor m start link own before → (m.links link).strict ≡ strict → Holds m start before

-- The flow rule, the permission rule or the manager rule that a head with this message surely breaks.
abbrev pub message_surely : Manager → Front → ℕ → Message → Rule → Bool
message_surely m f link message r =
    breaks_flow_surely (f.past link).flow (known_request (f.past link).flow message) message r
    || permission_surely (m.links link).strict m f link message r
    || breaks_manager_surely m.clients m.exponent f.past (grant_open f) link (known_request (f.past link).flow message) message r

-- This holds of whatever manager and beats before that the state stands for, where the link of the beat is declared so.
abbrev pub OfDeclared : KnownPasts → Placed → LinkDecl → (Manager → Beginning → List Placed → Type 0) → Type 0
OfDeclared state p link Holds = (m : Manager) (start : Beginning) (before : List Placed) → StandsFor m start state before → m.links p.link ≡ link → Holds m start before

-- What the rule asks about of the beat as a head isn't known.
abbrev pub head_asks : Manager → Beginning → List Placed → Placed → Rule → Bool
head_asks m start before p r =
    option_map_or (λ o. asks m (known_pasts m start before) p.link (bare o p.beat) r) (message_of (m.links p.link) p.beat) false

-- As a head the beat may break the rule, and doesn't surely; and it may break the rule; no format rule.
abbrev pub head_open : Manager → Beginning → List Placed → Placed → Rule → Bool
head_open m start before p r = option_map_or
    (λ o. asks m (known_pasts m start before) p.link (bare o p.beat) r && not (message_surely m (front m start before) p.link (bare o p.beat) r))
    (message_of (m.links p.link) p.beat) false

abbrev pub head_may : Manager → Beginning → List Placed → Placed → Rule → Bool
head_may m start before p r = option_map_or
    (λ o. asks m (known_pasts m start before) p.link (bare o p.beat) r || message_surely m (front m start before) p.link (bare o p.beat) r)
    (message_of (m.links p.link) p.beat) false

-- A rule is one of these.
abbrev pub is_among : List Rule → Rule → Bool
is_among rules r = list_any (λ s. rule_number s == rule_number r) rules

-- Later beats can break it.
abbrev pub is_of_later : Rule → Bool
is_of_later rule.F5 = true
is_of_later rule.F7 = true
is_of_later rule.U1 = true
is_of_later _ = false

-- A message that is no Acquire, Probe, ProbeAck, Release, Grant, and no ack of one: of it rules ask about its source alone.
abbrev pub is_plain : Op → Bool
is_plain o = not (is_acquire o || is_probe o || is_probe_ack o || is_release o || is_grant o || is_release_ack o || is_grant_ack o)
