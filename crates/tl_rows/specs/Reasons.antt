-- The earlier beat that makes a beat break a rule, by all beats of its manager before it, the newest first.
use Rattle.std.specs.Prelude.{ℕ, ◌==◌, ◌&&◌, not, Bool, List, [], ◌∷◌, Option, Some, None, if◌then◌else◌}
use Rattle.std.specs.Option.{option_map, option_map_or, option_and_then}
use Rattle.tl_tables.specs.declared.Chan.TheVariants as chan
use Rattle.tl_tables.specs.declared.Op.{Op}
use Rattle.tl_tables.specs.declared.Perm.{Perm}
use Rattle.tl_tables.specs.declared.Perm.TheVariants as perm
use Rattle.tl_tables.specs.declared.Rule.{Rule}
use Rattle.tl_tables.specs.declared.Rule.TheVariants as rule
use Rattle.tl_tables.specs.Kinds.{conflicts, is_release_ack}
use Rattle.tl_tables.specs.Messages.{same_chan}
use Rattle.tl_beats.specs.declared.Beat.{Beat}
use Rattle.tl_beats.specs.declared.Placed.{Placed}
use Rattle.tl_beats.specs.declared.Request.{Request}
use Rattle.tl_definitions.specs.OpenTables.{open_at}
use Rattle.tl_definitions.specs.Heads.{message_of}
use Rattle.tl_definitions.specs.Messages.{Message, Links, as_request, sources, releases, sinks, probes, round_down, granted_block, claim, at_head}
use Rattle.tl_definitions.specs.Past.{acquires_block, releases_block, grants_block}
use Rattle.tl_definitions.specs.Rules.{Manager}
use Rattle.tl_rows.specs.declared.origin.Origin.{Origin}
use Rattle.tl_rows.specs.declared.reason.Reason.{Reason}
use Rattle.tl_rows.specs.declared.reason.Reason.TheVariants as why
use Rattle.tl_rows.specs.Origins.{message, origins_on, head_before, placed, first_open, last_setter}

-- What the messages of a link leave for reasons: the openers that are open on each source, sink and block, and the last
-- messages that set bounds.
pub record Trail : Type 0 where
  pub source : ℕ → Option Origin
  pub release : ℕ → Option Origin
  pub sink : ℕ → Option Origin
  pub probe : ℕ → Option Origin
  pub setter : ℕ → Option Origin
  pub acquire : ℕ → Option Origin
  pub giving : ℕ → Option Origin
  pub grant : ℕ → Option Origin

-- Tests for what is open on a block: of requests that they acquire it, of Releases, of Grants.
abbrev pub acquires : ℕ → ℕ → Message → Bool
acquires exponent block opener = acquires_block exponent block (as_request opener)

abbrev pub gives_back : ℕ → ℕ → Message → Bool
gives_back exponent block opener = releases_block exponent block (as_request opener)

abbrev pub grants : ℕ → ℕ → Message → Bool
grants exponent block opener = grants_block block (granted_block exponent opener)

-- By source the request and the Release, by sink the Grant, and by block the Probe that is open; by block the last message that
-- set its bound; by block the Acquire and the Release that is open on it on the least source, and the Grant on the least sink.
abbrev pub trail_of : ℕ → List Origin → Trail
trail_of exponent before = record {
  source = λ source. open_at (placed sources) source before;
  release = λ source. open_at (placed releases) source before;
  sink = λ sink. open_at (placed sinks) sink before;
  probe = λ block. open_at (placed (probes exponent)) block before;
  setter = last_setter exponent before;
  acquire = λ block. first_open sources (acquires exponent block) before;
  giving = λ block. first_open releases (gives_back exponent block) before;
  grant = λ block. first_open sinks (grants exponent block) before;
}

-- That of each link of a manager.
abbrev pub trails_of : Links → ℕ → List Placed → ℕ → Trail
trails_of links exponent before link = trail_of exponent (origins_on links link before)

-- The request that a head on D answers.
abbrev pub kept_request : Origin → Request
kept_request origin = as_request (message origin)

abbrev pub answered : (ℕ → Option Origin) → (ℕ → Option Origin) → Op → Beat → Option Request
answered source release o beat =
    if same_chan beat.chan chan.D then (if is_release_ack o then option_map kept_request (release beat.source) else option_map kept_request (source beat.source))
    else None

abbrev pub head_message : Trail → Placed → Op → Message
head_message trail p o = record { op = o; beat = p.beat; request = answered trail.source trail.release o p.beat }

-- The bound that the last message set that set one.
abbrev pub bound_by : ℕ → Option Origin → Perm
bound_by exponent found = option_map_or (λ origin. option_map_or (λ set. set.1) (claim exponent (message origin)) perm.Nothing) found perm.Nothing

abbrev pub named : (Placed → Reason) → Option Origin → Reason
named reason found = option_map_or (λ origin. reason origin.place) found why.NoneBefore

-- What is found at the first of these clients where there is something.
abbrev pub first_some : (ℕ → Option Origin) → List ℕ → Option Origin
first_some found [] = None
first_some found (client ∷ clients) = option_map_or Some (found client) (first_some found clients)

-- Of a client that is not the Grant's own: what set its bound of the block, where that forbids what the Grant sets.
abbrev pub rival_at : ℕ → (ℕ → Trail) → ℕ → ℕ → Perm → ℕ → Option Origin
rival_at exponent trails link block set client =
    if not (client == link) && conflicts set (bound_by exponent ((trails client).setter block)) then (trails client).setter block else None

abbrev pub rival : List ℕ → ℕ → (ℕ → Trail) → ℕ → ℕ × Perm → Option Origin
rival clients exponent trails link (block, set) = first_some (rival_at exponent trails link block set) clients

-- What makes a head break a rule of its own link.
-- S1 to S4: the request that is open on its source. S5 to S7: the Release that is open there. S8, S9: the Grant that is open
-- on its sink.
-- P1, P2: the last message that set its client's bound of its block. P3 to P5: the Probe of the block that is open at its
-- client. P6, P7: the Acquire of the block that is open there; P8: the Release.
-- The other rules it breaks by itself.
abbrev pub link_reason : ℕ → Trail → Beat → Rule → Reason
link_reason exponent trail head rule.S1 = named why.Request (trail.source head.source)
link_reason exponent trail head rule.S2 = named why.Request (trail.source head.source)
link_reason exponent trail head rule.S3 = named why.Request (trail.source head.source)
link_reason exponent trail head rule.S4 = named why.Request (trail.source head.source)
link_reason exponent trail head rule.S5 = named why.Release (trail.release head.source)
link_reason exponent trail head rule.S6 = named why.Release (trail.release head.source)
link_reason exponent trail head rule.S7 = named why.Release (trail.release head.source)
link_reason exponent trail head rule.S8 = named why.Grant (trail.sink head.sink)
link_reason exponent trail head rule.S9 = named why.Grant (trail.sink head.sink)
link_reason exponent trail head rule.P1 = named why.Setter (trail.setter (round_down exponent head.address))
link_reason exponent trail head rule.P2 = named why.Setter (trail.setter (round_down exponent head.address))
link_reason exponent trail head rule.P3 = named why.Probe (trail.probe (round_down exponent head.address))
link_reason exponent trail head rule.P4 = named why.Probe (trail.probe (round_down exponent head.address))
link_reason exponent trail head rule.P5 = named why.Probe (trail.probe (round_down exponent head.address))
link_reason exponent trail head rule.P6 = named why.Request (trail.acquire (round_down exponent head.address))
link_reason exponent trail head rule.P7 = named why.Request (trail.acquire (round_down exponent head.address))
link_reason exponent trail head rule.P8 = named why.Release (trail.giving (round_down exponent head.address))
link_reason exponent trail head _ = why.ByItself

-- What makes a head with this message break a rule.
-- M1: the last message that set the bound of the first other client whose bound forbids the Grant. M2: the Probe of its block
-- that is open at the first such client. M3: so the Grant.
abbrev pub head_reason : List ℕ → ℕ → (ℕ → Trail) → Placed → Op → Rule → Reason
head_reason clients exponent trails p o rule.M1 = named why.Rival (option_and_then (rival clients exponent trails p.link) (claim exponent (head_message (trails p.link) p o)))
head_reason clients exponent trails p o rule.M2 =
    named why.Probe (option_and_then (λ block. first_some (λ client. (trails client).probe block) clients) (granted_block exponent (head_message (trails p.link) p o)))
head_reason clients exponent trails p o rule.M3 = named why.Grant (first_some (λ client. (trails client).grant (round_down exponent p.beat.address)) clients)
head_reason clients exponent trails p o broken = link_reason exponent (trails p.link) p.beat broken

-- A later beat is judged by its head; a monitor counts each beat by itself.
abbrev pub later_reason : Option Placed → Rule → Reason
later_reason head rule.X1 = why.ByItself
later_reason head _ = option_map_or why.Head head why.NoneBefore

abbrev pub reason_at : Manager → List Placed → Placed → Rule → Reason
reason_at m before p broken =
    if at_head m.links before p then option_map_or (λ o. head_reason m.clients m.exponent (trails_of m.links m.exponent before) p o broken) (message_of (m.links p.link) p.beat) why.ByItself
    else later_reason (head_before m.links p.link p.beat.chan before) broken

-- The beat that a reason names, if any.
abbrev pub named_place : Reason → Option Placed
named_place why.ByItself = None
named_place why.NoneBefore = None
named_place (why.Head p) = Some p
named_place (why.Request p) = Some p
named_place (why.Release p) = Some p
named_place (why.Probe p) = Some p
named_place (why.Grant p) = Some p
named_place (why.Setter p) = Some p
named_place (why.Rival p) = Some p
