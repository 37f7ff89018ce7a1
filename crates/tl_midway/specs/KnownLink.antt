-- What the state of a link shows of what is known of its past, and what it stands for.
use Rattle.std.specs.Prelude.{ℕ, ◌≡◌, Bool, List, Option, Some, None, if◌then◌else◌, nat_lt}
use Rattle.std.specs.Option.{option_and_then}
use Rattle.tl_tables.specs.declared.Rule.{Rule}
use Rattle.tl_beats.specs.declared.Placed.{Placed}
use Rattle.tl_beats.specs.declared.Request.{Request}
use Rattle.tl_definitions.specs.Messages.{Message, block_of}
use Rattle.tl_definitions.specs.Rules.{Manager}
use Rattle.tl_definitions.specs.Known.{Known, unknown, known, map_known, Beginning, KnownPast, known_request, flow_known, client_known, known_pasts}
use Rattle.tl_definitions.specs.Printed.{Front, front, breaks_flow_surely, breaks_permission_surely, acquire_open, release_open}
use Rattle.tl_client_rules.specs.Client.{acquired_block, released_block}
use Rattle.tl_midway.specs.declared.known_link.KnownLink.{KnownLink}
use Rattle.tl_midway.specs.KnownTable.{known_at, known_on}
use Rattle.tl_midway.specs.CountedTable.{entry_known, open_count, IsCounted}
use Rattle.tl_midway.specs.KnownBounds.{may_be, AreBounds}

-- What is known at first of a source of a link with so many.
abbrev pub first_entry : ℕ → ℕ → Known (Option Request)
first_entry sources source = if nat_lt source sources then unknown else known None

-- What a state shows.
abbrev pub shown : KnownLink → KnownPast
shown state = record {
  flow = record {
    source = λ key. entry_known state.requests (first_entry state.sources key) key;
    release = λ key. entry_known state.releases (first_entry state.sources key) key;
    sink = λ key. known_at state.sinks unknown key;
  };
  client = record {
    probe = λ block. known_on state.probes unknown block;
    bound = may_be state.bounds;
    granted = λ key. entry_known state.granted unknown key;
  };
}

-- Its counts are those of what it shows.
pub record AreCounted (state : KnownLink) : Type 0 where
  pub requests : IsCounted (acquired_block state.exponent) (first_entry state.sources) state.requests
  pub releases : IsCounted (released_block state.exponent) (first_entry state.sources) state.releases
  pub granted : IsCounted (λ block. block) (λ key. unknown) state.granted

-- The state shows this past, of a manager with blocks of this size.
pub record Shows (power : ℕ) (state : KnownLink) (past : KnownPast) : Type 0 where
  pub exponent : state.exponent ≡ power
  pub shows : shown state ≡ past
  pub counted : AreCounted state

-- The state of the link with this number shows what is known after these beats of its manager, the newest first.
abbrev pub StandsFor : Manager → Beginning → ℕ → KnownLink → List Placed → Type 0
StandsFor m start link state before = Shows m.exponent state (known_pasts m start before link)

-- This holds of whatever past the state shows.
abbrev pub ForShown : KnownLink → (ℕ → KnownPast → Type 0) → Type 0
ForShown state Holds = (exponent : ℕ) (past : KnownPast) → Shows exponent state past → Holds exponent past

-- This holds of what is known of each link after whatever beats of its manager the state stands for.
abbrev pub ForStanding : KnownLink → (Manager → Front → ℕ → Type 0) → Type 0
ForStanding state Holds = (m : Manager) (start : Beginning) (link : ℕ) (before : List Placed) → StandsFor m start link state before → Holds m (front m start before) link

-- By its counts: whether an Acquire, a Release or a Grant is known to be open on a block.
abbrev pub has_open_acquire : KnownLink → ℕ → Bool
has_open_acquire state block = nat_lt 0 (open_count state.requests block)

abbrev pub has_open_release : KnownLink → ℕ → Bool
has_open_release state block = nat_lt 0 (open_count state.releases block)

abbrev pub has_open_grant : KnownLink → ℕ → Bool
has_open_grant state block = nat_lt 0 (open_count state.granted block)

-- What is known of the block of a Grant that is open.
abbrev pub granted_made : ℕ → Known (Option Request) → Known (Option (Option ℕ))
granted_made exponent request = map_known (λ answered. Some (option_and_then (acquired_block exponent) answered)) request

-- What is known after a message that answers this request.
abbrev pub known_after : ℕ → Bool → Known (Option Request) → KnownPast → Message → KnownPast
known_after exponent certain request past message =
    record { flow = flow_known certain past.flow message; client = client_known exponent certain request past.client message }

-- What is known after a message, by what a state shows.
abbrev pub known_next : Bool → KnownLink → Message → KnownPast
known_next certain state message = known_after state.exponent certain (known_request (shown state).flow message) (shown state) message

-- The state has what this past has open.
pub record IsOpened (state : KnownLink) (past : KnownPast) : Type 0 where
  pub source : (key : ℕ) → (shown state).flow.source key ≡ past.flow.source key
  pub release : (key : ℕ) → (shown state).flow.release key ≡ past.flow.release key
  pub sink : (key : ℕ) → (shown state).flow.sink key ≡ past.flow.sink key
  pub probe : (block : ℕ) → (shown state).client.probe block ≡ past.client.probe block
  pub granted : (key : ℕ) → (shown state).client.granted key ≡ past.client.granted key

-- It shows this past.
pub record IsPast (state : KnownLink) (past : KnownPast) : Type 0 where
  pub opened : IsOpened state past
  pub bound : AreBounds state.bounds past.client.bound

-- The flow rules and the permission rules that a head with this message breaks, by what a state shows.
abbrev pub breaks_shown_flow : KnownLink → Message → Rule → Bool
breaks_shown_flow state message = breaks_flow_surely (shown state).flow (known_request (shown state).flow message) message

abbrev pub breaks_shown_permission : Bool → KnownLink → Message → Rule → Bool
breaks_shown_permission strict state message =
    breaks_permission_surely strict state.exponent (shown state).client (has_open_acquire state (block_of state.exponent message)) (has_open_release state (block_of state.exponent message)) message

-- The permission rules, by what is known after these beats of the manager.
abbrev pub permission_surely : Bool → Manager → Front → ℕ → Message → Rule → Bool
permission_surely strict m f link message =
    breaks_permission_surely strict m.exponent (f.past link).client (acquire_open m f link message) (release_open m f link message) message
