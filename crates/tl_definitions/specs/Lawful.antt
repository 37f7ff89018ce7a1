-- Pasts that may come before a capture, and what the known snapshot allows.
use Rattle.std.specs.Prelude.{◌≡◌, ℕ, ◌-◌, ◌/◌, ◌^◌, ◌<◌, ◌≤◌, ◌⊎◌, max, Bool, true, false, List, [], reverse, Option, Some, None, if◌then◌else◌}
use Rattle.std.specs.Option.{option_map_or}
use Rattle.std.specs.List.{Contains}
use Rattle.tl_tables.specs.declared.Chan.{Chan}
use Rattle.tl_tables.specs.declared.Chan.TheVariants as chan
use Rattle.tl_tables.specs.declared.Level.{Level}
use Rattle.tl_tables.specs.declared.Level.TheVariants as level
use Rattle.tl_tables.specs.Messages.{same_chan, level_le}
use Rattle.tl_topology.specs.declared.LinkDecl.{LinkDecl}
use Rattle.tl_beats.specs.declared.Placed.{Placed}
use Rattle.tl_definitions.specs.declared.Unfinished.{Unfinished}
use Rattle.tl_definitions.specs.Heads.{before_on, beat_count, unfinished}
use Rattle.tl_definitions.specs.Past.{FlowPast, ClientPast, LinkPast}
use Rattle.tl_definitions.specs.Rules.{Manager}
use Rattle.tl_definitions.specs.Breaks.{rows_in}
use Rattle.tl_definitions.specs.Judging.{Snapshot}
use Rattle.tl_definitions.specs.Readings.{Reading, due, rest}
use Rattle.tl_definitions.specs.Known.{Known, unknown, known, Beginning, KnownFlow, KnownClient, KnownPast, KnownSnapshot}

-- A past is lawful where it has no row of its own. The laws need no more of it: not that its beats are well formed, nor that
-- they lie before the capture, nor that they are in order.
abbrev pub IsLawful : Manager → List Placed → Type 0
IsLawful m past = rows_in m past ≡ []

abbrev pub missing_in : Option Unfinished → ℕ
missing_in burst = option_map_or (λ b. b.missing) burst 0

-- On no channel does the past leave more beats of a message missing than the beginning has it.
abbrev pub LeavesAtMost : Manager → Beginning → List Placed → Type 0
LeavesAtMost m start past = (link : ℕ) (chan : Chan) → missing_in (unfinished (m.links link) (before_on link chan (reverse past))) ≤ start.most link chan

-- The channels that carry bursts at a level: A and D, and with caches B and C.
abbrev pub has_bursts : Level → Chan → Bool
has_bursts l chan.A = true
has_bursts l chan.B = level_le level.C l
has_bursts l chan.C = level_le level.C l
has_bursts l chan.D = true
has_bursts l chan.E = false

-- The most beats that a lawful past can leave missing: all but the first of the largest message of the link.
abbrev pub most_missing : LinkDecl → Chan → ℕ
most_missing link chan = if has_bursts link.level chan then max 1 (2 ^ link.max_size / link.width) - 1 else 0

-- Any lawful past; the same, with bursts that the beginning struck told by their fields; and one that ends between messages.
abbrev pub any_past : Manager → Beginning
any_past m = record { most = λ link. most_missing (m.links link); by_fields = false }

abbrev pub told_bursts : Manager → Beginning
told_bursts m = record { most = λ link. most_missing (m.links link); by_fields = true }

abbrev pub at_heads : Beginning
at_heads = record { most = λ link chan. 0; by_fields = false }

-- What is known allows a value.
abbrev pub Agrees : {V : Type 0} → Known V → V → Type 0
Agrees unknown value = Unit {0}
Agrees (known sure) value = sure ≡ value

-- The readings of a channel allow what is unfinished on it: nothing, where a head may be due; a burst of the capture, as one of
-- them says; or a burst of the past, whose head is of the channel and has more beats than are missing.
abbrev pub AllowsBurst : LinkDecl → Chan → List Reading → Option Unfinished → Type 0
AllowsBurst link chan readings None = Contains readings due
AllowsBurst link chan readings (Some burst) =
    (0 < burst.missing)
    × (Contains readings (rest burst.missing (Some burst.head))
    ⊎ (Contains readings (rest burst.missing None) × (burst.missing < beat_count link burst.head) × (same_chan burst.head.chan chan ≡ true)))

pub record AllowsFlow (sure : KnownFlow) (past : FlowPast) : Type 0 where
  pub source : (key : ℕ) → Agrees (sure.source key) (past.source key)
  pub release : (key : ℕ) → Agrees (sure.release key) (past.release key)
  pub sink : (key : ℕ) → Agrees (sure.sink key) (past.sink key)

pub record AllowsClient (sure : KnownClient) (past : ClientPast) : Type 0 where
  pub probe : (block : ℕ) → Agrees (sure.probe block) (past.probe block)
  pub bound : (block : ℕ) → sure.bound block (past.bound block) ≡ true
  pub granted : (key : ℕ) → Agrees (sure.granted key) (past.granted key)

pub record AllowsPast (sure : KnownPast) (past : LinkPast) : Type 0 where
  pub flow : AllowsFlow sure.flow past.flow
  pub client : AllowsClient sure.client past.client

-- The known snapshot allows a snapshot.
pub record Allows (m : Manager) (sure : KnownSnapshot) (s : Snapshot) : Type 0 where
  pub burst : (link : ℕ) (chan : Chan) → AllowsBurst (m.links link) chan (sure.readings link chan) (s.burst link chan)
  pub past : (link : ℕ) → AllowsPast (sure.past link) (s.past link)
