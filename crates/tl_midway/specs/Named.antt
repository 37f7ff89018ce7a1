-- A link without caches whose channels begin at heads, where nobody recorded what came before: what is known of it is what its beats leave, as if nothing came before, of each source that one of them named.
use Rattle.std.specs.Prelude.{ℕ, ◌≡◌, ◌&&◌, ◌||◌, not, Bool, true, false, cond, List, [], ◌∷◌, ◌++◌, Option, Some, None, nat_lt, is_some, is_none}
use Rattle.std.specs.Option.{option_map_or}
use Rattle.std.specs.List.{All}
use Rattle.tl_tables.specs.declared.Chan.{Chan}
use Rattle.tl_tables.specs.declared.Op.{Op}
use Rattle.tl_tables.specs.declared.Rule.{Rule}
use Rattle.tl_tables.specs.declared.Rule.TheVariants as rule
use Rattle.tl_topology.specs.Regions.{Area}
use Rattle.tl_topology.specs.declared.LinkDecl.{LinkDecl}
use Rattle.tl_beats.specs.declared.Beat.{Beat}
use Rattle.tl_beats.specs.declared.Placed.{Placed}
use Rattle.tl_beats.specs.declared.Request.{Request}
use Rattle.tl_beats.specs.declared.Row.{Row}
use Rattle.tl_definitions.specs.declared.Unfinished.{Unfinished}
use Rattle.tl_definitions.specs.Heads.{message_of, before_on}
use Rattle.tl_definitions.specs.Known.{Known, unknown, known, Beginning, bare, known_pasts}
use Rattle.tl_definitions.specs.LinkPasses.{LinkSnapshot}
use Rattle.tl_definitions.specs.Messages.{sources}
use Rattle.tl_definitions.specs.OpenTables.{touches}
use Rattle.tl_definitions.specs.Past.{FlowPast}
use Rattle.tl_definitions.specs.Printed.{printed_after}
use Rattle.tl_definitions.specs.Readings.{Reading, due, rest, readings_after}
use Rattle.tl_definitions.specs.Rules.{Manager}
use Rattle.tl_state.specs.Slots.{slot_of}
use Rattle.tl_check.specs.Apart as apart
use Rattle.tl_midway.specs.declared.named.NamedLink.{NamedLink}

-- What is known of the sources that were named.
abbrev pub named : (ℕ → Bool) → FlowPast → ℕ → Known (Option Request)
named seen past source = cond (seen source) (known (past.source source)) unknown

abbrev pub read_as : Option Unfinished → Reading
read_as None = due
read_as (Some burst) = rest burst.missing (Some burst.head)

-- After these beats each channel's next is read one way, as the link's bursts say; and of the sources that were named is known what its messages leave.
pub record Follows (m : Manager) (start : Beginning) (link : ℕ) (seen : ℕ → Bool) (s : LinkSnapshot) (before : List Placed) : Type 0 where
  pub readings : (c : Chan) → readings_after (m.links link) (start.most link c) start.by_fields (before_on link c before) ≡ read_as (s.burst c) ∷ []
  pub source : (key : ℕ) → (known_pasts m start before link).flow.source key ≡ named seen s.past.flow key

abbrev pub is_flow : Rule → Bool
is_flow rule.S1 = true
is_flow rule.S2 = true
is_flow rule.S3 = true
is_flow rule.S4 = true
is_flow rule.S5 = true
is_flow rule.S6 = true
is_flow rule.S7 = true
is_flow rule.S8 = true
is_flow rule.S9 = true
is_flow _ = false

-- A flow rule is printed where the source was named.
abbrev pub is_kept : Bool → Rule → Bool
is_kept seen r = seen || not (is_flow r)

-- A head with a message names its source, if that is one of channel A or replies to one.
abbrev pub named_by : Beat → Option Op → ℕ → Bool
named_by beat found key = option_map_or (λ o. touches sources key (bare o beat)) found false

abbrev pub seen_after : Manager → LinkSnapshot → Placed → (ℕ → Bool) → ℕ → Bool
seen_after m s p seen key = (is_none (s.burst p.beat.chan) && named_by p.beat (message_of (m.links p.link) p.beat) key) || seen key

-- Sources that the link doesn't have are known from the beginning.
abbrev pub seen_first : LinkDecl → ℕ → Bool
seen_first link key = not (nat_lt key link.sources)

-- The sources that are known, by a state of the link.
abbrev pub seen_by : LinkDecl → NamedLink → ℕ → Bool
seen_by link state key = seen_first link key || is_some (slot_of state.named key)

-- The state shows what is known of the link after these beats of its manager, the newest first.
pub record StandsFor (m : Manager) (start : Beginning) (link : ℕ) (state : NamedLink) (before : List Placed) : Type 0 where
  pub snapshot : LinkSnapshot
  pub shows : apart.Shows state.state snapshot
  pub follows : Follows m start link (seen_by (m.links link) state) snapshot before

-- The manager has this link under this number, blocks of this size and these regions.
pub record Serves (m : Manager) (link : ℕ) (decl : LinkDecl) (exponent : ℕ) (areas : List Area) : Type 0 where
  pub declared : m.links link ≡ decl
  pub power : m.exponent ≡ exponent
  pub regions : m.regions ≡ areas

-- This holds of each manager, beginning and beats before that the state stands for, where the manager serves the link.
abbrev pub WhereServed : NamedLink → ℕ → LinkDecl → ℕ → List Area → (Manager → Beginning → List Placed → Type 0) → Type 0
WhereServed state number decl exponent areas Holds = (m : Manager) (start : Beginning) (before : List Placed) → StandsFor m start number state before → Serves m number decl exponent areas → Holds m start before

-- No message of the link can have begun before the capture.
abbrev pub BeginsAtHeads : Beginning → ℕ → Type 0
BeginsAtHeads start link = (c : Chan) → start.most link c ≡ 0

-- The rows are those before, and those that are printed of these beats of one link, whatever its manager and its number are.
abbrev pub AddsPrinted : LinkDecl → ℕ → List Area → List Placed → List Row → List Row → Type 0
AddsPrinted decl exponent areas beats old new = (m : Manager) (start : Beginning) (number : ℕ) → Serves m number decl exponent areas → All (λ (p : Placed). p.link ≡ number) beats → BeginsAtHeads start number
    → new ≡ old ++ printed_after m start [] beats

abbrev pub AllBegin : Beginning → List ℕ → Type 0
AllBegin start links = All (BeginsAtHeads start) links
