-- What the judge of one link shows.
use Rattle.std.specs.Prelude.{ℕ, ◌≡◌, ◌++◌, List, [], Option, Some, filter, if◌then◌else◌}
use Rattle.tl_tables.specs.declared.Chan.{Chan}
use Rattle.tl_tables.specs.declared.Op.{Op}
use Rattle.tl_tables.specs.declared.Rule.{Rule}
use Rattle.tl_tables.specs.Kinds.{is_grant}
use Rattle.tl_tables.specs.Messages.{same_chan}
use Rattle.tl_topology.specs.Regions.{areas_of}
use Rattle.tl_beats.specs.Beats.{IsWellFormed}
use Rattle.tl_beats.specs.declared.Beat.{Beat}
use Rattle.tl_beats.specs.declared.Placed.{Placed}
use Rattle.tl_definitions.specs.declared.Unfinished.{Unfinished}
use Rattle.tl_definitions.specs.Judging.{message_in}
use Rattle.tl_definitions.specs.Events.{link_events}
use Rattle.tl_definitions.specs.LinkPasses.{LinkSnapshot, link_judging}
use Rattle.tl_definitions.specs.Messages.{Message, block_of, granted_block, sinks}
use Rattle.tl_definitions.specs.OpenTables.{entry_after}
use Rattle.tl_definitions.specs.Passes.{rows_judged, left_after}
use Rattle.tl_definitions.specs.Rules.{Manager, breaks_flow, breaks_permission, flow_order, permission_order}
use Rattle.tl_link_rules.specs.Bursts.{slot_at}
use Rattle.tl_link_rules.specs.Flow as flow_state
use Rattle.tl_client_rules.specs.Client as client_state
use Rattle.tl_state.specs.Slots.{slot_of}
use Rattle.tl_check.specs.Apart.{one_link}
use Rattle.tl_check.specs.States.{Serves}
use Rattle.tl_apart.specs.declared.link_judge.Head.{Head}
use Rattle.tl_apart.specs.declared.link_judge.LinkJudge.{LinkJudge}
use Rattle.tl_apart.specs.declared.link_judge.Terms.{Terms}

-- It shows what the link has left.
pub record Shows (exponent : ℕ) (judge : LinkJudge) (s : LinkSnapshot) : Type 0 where
  pub bursts : (chan : Chan) → slot_at judge.bursts chan ≡ s.burst chan
  pub flow : flow_state.shown judge.flow ≡ s.past.flow
  pub client : client_state.Shows exponent judge.client s.past
  pub granted : (sink : ℕ) → slot_of judge.granted sink ≡ s.past.client.granted sink

-- The heads of unfinished bursts are well-formed.
abbrev pub AreFormed : LinkJudge → Type 0
AreFormed judge = (chan : Chan) (burst : Unfinished) → slot_at judge.bursts chan ≡ Some burst → IsWellFormed burst.head

-- This holds of each manager that has its link with this number on these terms, and of whatever the judge shows.
abbrev pub ForShown : Terms → ℕ → LinkJudge → (Manager → LinkSnapshot → Type 0) → Type 0
ForShown terms link judge Holds = (m : Manager) (s : LinkSnapshot) → Serves m link terms.decl.now terms.exponent (areas_of terms.regions.now)
    → Shows terms.exponent judge s → Holds m s

-- A manager that has all its links on these terms.
abbrev pub alone : Terms → Manager
alone terms = one_link terms.decl.now terms.exponent (areas_of terms.regions.now)

-- The message of a head.
abbrev pub is_message : Beat → Head → Message
is_message beat head = record { op = head.op; beat = beat; request = head.request }

-- The rules that a message breaks by what the link has left.
abbrev pub message_rules : Manager → LinkSnapshot → Placed → Op → List Rule
message_rules m s p o = filter (breaks_flow s.past.flow (message_in s.past.flow p.beat o)) flow_order
    ++ filter (breaks_permission (m.links p.link).strict m.exponent s.past.client (message_in s.past.flow p.beat o)) permission_order

-- The block, if known, of the Grant that is open on a sink, after one more message.
abbrev pub granted_after : ℕ → Message → (ℕ → Option (Option ℕ)) → ℕ → Option (Option ℕ)
granted_after exponent message granted = entry_after sinks (granted_block exponent) message granted

-- The block that an event tells, if it is known.
abbrev pub told_block : ℕ → Message → Option ℕ
told_block exponent message = if is_grant message.op then granted_block exponent message else Some (block_of exponent message)

-- A snapshot with something else unfinished on a channel.
abbrev pub with_burst : LinkSnapshot → Chan → Option Unfinished → LinkSnapshot
with_burst s chan slot = record { burst = λ other. if same_chan chan other then slot else s.burst other; past = s.past }

-- From what it showed the judge has gone on with these later beats of its link, which break no rule and tell nothing.
pub record HasRun (m : Manager) (s : LinkSnapshot) (exponent : ℕ) (judge : LinkJudge) (run : List Placed) : Type 0 where
  pub rows : rows_judged (link_judging m) s run ≡ []
  pub events : link_events m s run ≡ []
  pub shows : Shows exponent judge (left_after (link_judging m) s run)
