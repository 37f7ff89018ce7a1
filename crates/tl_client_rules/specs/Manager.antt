-- What the state of a manager shows, and what it stands for.
use Rattle.std.specs.Prelude.{ℕ, Bool, true, ◌≡◌, ◌==◌, ◌++◌, ◌<◌, List, [], length, Option, Some, filter, slice_index_or, if◌then◌else◌}
use Rattle.std.specs.List.{slice_get}
use Rattle.std.specs.Option.{option_map_or}
use Rattle.tl_tables.specs.declared.Op.{Op}
use Rattle.tl_tables.specs.declared.Rule.{Rule}
use Rattle.tl_beats.specs.declared.Beat.{Beat}
use Rattle.tl_beats.specs.declared.Placed.{Placed}
use Rattle.tl_beats.specs.declared.Request.{Request}
use Rattle.tl_topology.specs.declared.LinkDecl.{LinkDecl}
use Rattle.tl_definitions.specs.Heads.{message_of}
use Rattle.tl_definitions.specs.Messages.{at_head, messages_on}
use Rattle.tl_definitions.specs.Past.{ClientPast, LinkPast, past_of, pasts_of}
use Rattle.tl_definitions.specs.Rules.{Manager, breaks_permission, permission_order, breaks_manager, manager_order, format_rules}
use Rattle.tl_definitions.specs.Breaks.{rules_at}
use Rattle.tl_definitions.specs.Judging.{message_in, past_with}
use Rattle.tl_link_rules.specs.Flow.{flow_rules, answered}
use Rattle.tl_client_rules.specs.declared.client.ClientState.{ClientState}
use Rattle.tl_client_rules.specs.Bounds.{IsSettled}
use Rattle.tl_client_rules.specs.Client as client_state
use Rattle.tl_client_rules.specs.Client.{ClientView, answered_in, client_view, head_with}
use Rattle.tl_client_rules.specs.Clients.{place_of}
use Rattle.tl_client_rules.specs.declared.manager.ManagerState.{ManagerState}

-- What a client shows before all messages.
abbrev pub opening_view : ℕ → ClientView
opening_view exponent = client_view exponent (past_of exponent [])

-- What the client at a place among the manager's links shows.
abbrev pub client_there : ManagerState → ℕ → ClientView
client_there state place = option_map_or client_state.shown (slice_get state.states.items place) (opening_view state.exponent)

-- What a state shows: the numbers of its manager's links, the size of its blocks, how many clients it has, and each, by its place.
pub record ManagerView : Type 0 where
  pub clients : List ℕ
  pub exponent : ℕ
  pub count : ℕ
  pub client : ℕ → ClientView

abbrev pub shown : ManagerState → ManagerView
shown state = record { clients = state.clients; exponent = state.exponent; count = length state.states.items; client = client_there state }

-- What is shown of a link; one that is not the manager's shows what no messages leave.
abbrev pub client_in : ManagerView → ℕ → ClientView
client_in view link = option_map_or view.client (place_of link view.clients) (opening_view view.exponent)

abbrev pub client_at : ManagerState → ℕ → ClientView
client_at state link = client_in (shown state) link

abbrev pub past_at : ManagerState → ℕ → ClientPast
past_at state client = (client_at state client).past

-- The link is one of the manager's, and has its client.
abbrev pub HasPlace : ManagerView → ℕ → Type 0
HasPlace view link = (place : ℕ) × (place_of link view.clients ≡ Some place) × (place < view.count)

-- The state shows what these pasts of all links leave.
pub record Shows (numbers : List ℕ) (power : ℕ) (state : ManagerState) (pasts : ℕ → LinkPast) : Type 0 where
  pub clients : state.clients ≡ numbers
  pub exponent : state.exponent ≡ power
  pub each : (link : ℕ) → client_at state link ≡ client_view power (pasts link)

-- The state shows what these beats of its manager leave, the newest first.
abbrev pub StandsFor : Manager → ManagerState → List Placed → Type 0
StandsFor m state before = Shows m.clients m.exponent state (pasts_of m.links m.exponent before)

-- The permission and manager rules that a head with this message, if it is one, breaks on its link, strict or not, after these
-- pasts.
abbrev pub rules_in : List ℕ → ℕ → Bool → (ℕ → LinkPast) → ℕ → Beat → Option Op → List Rule
rules_in clients exponent strict pasts link head found =
    option_map_or (λ o. filter (breaks_permission strict exponent (pasts link).client (message_in (pasts link).flow head o)) permission_order
    ++ filter (breaks_manager clients exponent (λ client. (pasts client).client) link (message_in (pasts link).flow head o)) manager_order) found []

-- The pasts after a head.
abbrev pub pasts_with : ℕ → ℕ → (ℕ → LinkPast) → Beat → Option Op → ℕ → LinkPast
pasts_with exponent link pasts head found = λ n. if link == n then past_with exponent (pasts n) head found else pasts n

-- The same of the next head of a link with this declaration.
abbrev pub head_rules_in : List ℕ → ℕ → (ℕ → LinkPast) → ℕ → LinkDecl → Beat → List Rule
head_rules_in clients exponent pasts link decl head = rules_in clients exponent decl.strict pasts link head (message_of decl head)

abbrev pub pasts_after : ℕ → (ℕ → LinkPast) → ℕ → LinkDecl → Beat → ℕ → LinkPast
pasts_after exponent pasts link decl head = pasts_with exponent link pasts head (message_of decl head)

-- This holds of whatever pasts of the links the state shows by which the head answers this request.
abbrev pub ForShown : ManagerState → ℕ → LinkDecl → Beat → Option Request → (List ℕ → ℕ → (ℕ → LinkPast) → Type 0) → Type 0
ForShown state link decl head request Holds = (clients : List ℕ) (exponent : ℕ) (pasts : ℕ → LinkPast) → Shows clients exponent state pasts
    → request ≡ answered_in (pasts link) head (message_of decl head) → Holds clients exponent pasts

-- This holds of the head after whatever beats of the manager the state stands for after which it answers this request.
abbrev pub AfterBeats : ManagerState → ℕ → LinkDecl → Beat → Option Request → (Manager → List Placed → Placed → Type 0) → Type 0
AfterBeats state link decl head request Holds = (m : Manager) (before : List Placed) (fragment line : ℕ) → let p : Placed = record { link = link; fragment = fragment; line = line; beat = head } in
    m.links link ≡ decl → at_head m.links before p ≡ true → StandsFor m state before
    → request ≡ answered (messages_on m.links link before) head (message_of decl head) → Holds m before p

-- All rules that a head breaks end with these: before them stand the format and the flow rules.
abbrev pub EndWith : LinkDecl → Beat → List Rule → Manager → List Placed → Placed → Type 0
EndWith decl head rules m before p =
    rules_at m before p ≡ format_rules m.exponent m.regions decl head (message_of decl head) ++ flow_rules (messages_on m.links p.link before) head (message_of decl head) ++ rules

-- The manager rules alone, by what a state shows.
abbrev pub manager_rules : ManagerState → ℕ → Beat → Option Request → Option Op → List Rule
manager_rules state link head request found =
    option_map_or (λ o. filter (breaks_manager state.clients state.exponent (past_at state) link (head_with head request o)) manager_order) found []

-- Both states show the same.
abbrev pub SameManager : ManagerState → ManagerState → Type 0
SameManager one two = shown one ≡ shown two

-- What each client can hold is settled.
abbrev pub AreSettled : ManagerState → Type 0
AreSettled state = (n : ℕ) (d : ClientState) → n < length state.states.items → IsSettled (slice_index_or state.states.items n d).bounds
