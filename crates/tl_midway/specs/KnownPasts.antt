-- What is known of the pasts of a manager's links, and what a head breaks by that.
use Rattle.std.specs.Prelude.{ℕ, ◌≡◌, ◌==◌, ◌&&◌, not, Bool, true, false, List, ◌++◌, map, filter, Option, is_some}
use Rattle.std.specs.List.{All, list_any}
use Rattle.std.specs.List.Sorted.{IsStrictlySortedBy}
use Rattle.std.specs.Option.{option_and_then, option_map_or}
use Rattle.std.specs.Ordering.{nat_cmp}
use Rattle.tl_tables.specs.declared.Perm.{Perm}
use Rattle.tl_tables.specs.declared.Rule.{Rule}
use Rattle.tl_tables.specs.declared.Rule.TheVariants as rule
use Rattle.tl_tables.specs.Kinds.{conflicts, is_grant, is_probe}
use Rattle.tl_topology.specs.Regions.{Area}
use Rattle.tl_topology.specs.declared.LinkDecl.{LinkDecl}
use Rattle.tl_beats.specs.declared.Beat.{Beat}
use Rattle.tl_beats.specs.declared.Placed.{Placed}
use Rattle.tl_beats.specs.declared.Request.{Request}
use Rattle.tl_definitions.specs.Messages.{Message, block_of, claim}
use Rattle.tl_definitions.specs.Readings.{may_begin, must_begin}
use Rattle.tl_definitions.specs.Heads.{message_of}
use Rattle.tl_definitions.specs.Rules.{Manager, format_rules, flow_order, permission_order, manager_order}
use Rattle.tl_definitions.specs.Known.{Known, Beginning, surely, answering, known_request, readings_of}
use Rattle.tl_definitions.specs.Printed.{Front, front, every_bound, grant_open, breaks_flow_surely, breaks_manager_surely}
use Rattle.tl_client_rules.specs.Client.{acquired_block}
use Rattle.tl_midway.specs.KnownLink as known_link
use Rattle.tl_midway.specs.KnownLink.{has_open_grant, permission_surely}
use Rattle.tl_midway.specs.declared.known_pasts.LinkPast.{LinkPast}
use Rattle.tl_midway.specs.declared.known_pasts.KnownPasts.{KnownPasts}

-- The numbers of the links that the state has.
abbrev pub numbers_of : KnownPasts → List ℕ
numbers_of state = map (λ (link : LinkPast). link.number) state.links.items

-- The state shows what is known of each link of the manager after these beats.
pub record StandsFor (m : Manager) (start : Beginning) (state : KnownPasts) (before : List Placed) : Type 0 where
  pub clients : numbers_of state ≡ m.clients
  pub rises : IsStrictlySortedBy nat_cmp m.clients
  pub exponent : state.exponent ≡ m.exponent
  pub each : All (λ (link : LinkPast). known_link.StandsFor m start link.number link.past before) state.links.items

-- After these beats the manager's next beat is a head, for certain or perhaps, of a link that is declared so.
pub record MayBegin (m : Manager) (start : Beginning) (before : List Placed) (p : Placed) (certain : Bool) (link : LinkDecl) : Type 0 where
  pub declared : m.links p.link ≡ link
  pub must : must_begin (readings_of m start before p) ≡ certain
  pub may : may_begin (readings_of m start before p) ≡ true

-- This holds after whatever beats of its manager the state stands for that such a head comes after.
abbrev pub AfterBeats : KnownPasts → Placed → Bool → LinkDecl → (Manager → Beginning → List Placed → Type 0) → Type 0
AfterBeats state p certain link Holds = (m : Manager) (start : Beginning) (before : List Placed) → StandsFor m start state before
    → MayBegin m start before p certain link → Holds m start before

-- The same of a head that comes for certain, where the manager has these regions.
abbrev pub AtHead : KnownPasts → Placed → LinkDecl → List Area → (Manager → Beginning → List Placed → Type 0) → Type 0
AtHead state p link areas Holds = AfterBeats state p true link (λ m start before. m.regions ≡ areas → Holds m start before)

-- By what the state shows: what a message sets is forbidden by each bound that another client's may be; a Probe of the block is
-- known to be open at a client; a Grant is.
abbrev pub conflicts_shown : KnownPasts → ℕ → ℕ × Perm → Bool
conflicts_shown state link (block, set) = list_any (λ (own : LinkPast). not (own.number == link)
    && every_bound (conflicts set) ((known_link.shown own.past).client.bound block)) state.links.items

abbrev pub probe_shown : KnownPasts → ℕ → Bool
probe_shown state block = list_any (λ (own : LinkPast). surely is_some ((known_link.shown own.past).client.probe block)) state.links.items

abbrev pub grant_shown : KnownPasts → ℕ → Bool
grant_shown state block = list_any (λ (own : LinkPast). has_open_grant own.past block) state.links.items

-- A Grant of a request that is known surely conflicts; and surely meets a Probe.
abbrev pub conflicts_known : KnownPasts → ℕ → Known (Option Request) → Message → Bool
conflicts_known state link request message =
    surely (λ answered. option_map_or (conflicts_shown state link) (claim state.exponent (answering message answered)) false) request

abbrev pub probe_known : KnownPasts → Known (Option Request) → Bool
probe_known state request = surely (λ answered. option_map_or (probe_shown state) (option_and_then (acquired_block state.exponent) answered) false) request

-- The manager rules that a head with this message breaks.
abbrev pub breaks_shown_manager : KnownPasts → ℕ → Known (Option Request) → Message → Rule → Bool
breaks_shown_manager state link request message rule.M1 = is_grant message.op && conflicts_known state link request message
breaks_shown_manager state link request message rule.M2 = is_grant message.op && probe_known state request
breaks_shown_manager state link request message rule.M3 = is_probe message.op && grant_shown state (block_of state.exponent message)
breaks_shown_manager state link request message _ = false

-- The format rules that a certain head of a link breaks, of a manager whose blocks have 2 to this power bytes.
abbrev pub format_broken : ℕ → List Area → LinkDecl → Beat → List Rule
format_broken exponent areas link head = format_rules exponent areas link head (message_of link head)

-- The flow rules, the permission rules and the manager rules that a certain head with this message breaks, on a link that is
-- strict or isn't.
abbrev pub message_broken : Bool → Manager → Front → ℕ → Message → List Rule
message_broken strict m f link message = filter (breaks_flow_surely (f.past link).flow (known_request (f.past link).flow message) message) flow_order
    ++ filter (permission_surely strict m f link message) permission_order
    ++ filter (breaks_manager_surely m.clients m.exponent f.past (grant_open f) link (known_request (f.past link).flow message) message) manager_order

-- This holds of what is known of each link after whatever beats of its manager the state stands for.
abbrev pub AfterMessages : KnownPasts → (Manager → Front → Type 0) → Type 0
AfterMessages state Holds = (m : Manager) (start : Beginning) (before : List Placed) → StandsFor m start state before → Holds m (front m start before)
