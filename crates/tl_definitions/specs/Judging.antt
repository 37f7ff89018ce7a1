-- Judging by a snapshot: what the past of a manager leaves for its future stands for all beats before.
use Rattle.std.specs.Prelude.{ℕ, ◌≡◌, ◌↔◌, ◌==◌, ◌&&◌, List, [], ◌∷◌, ◌++◌, Option, Some, None, if◌then◌else◌, map, is_none, reverse}
use Rattle.std.specs.Option.{option_map_or}
use Rattle.std.specs.List.{Contains}
use Rattle.std.specs.List.Sorted.{IsStrictlySortedBy}
use Rattle.tl_tables.specs.declared.Chan.{Chan}
use Rattle.tl_tables.specs.declared.Chan.TheVariants as chan
use Rattle.tl_tables.specs.declared.Op.{Op}
use Rattle.tl_tables.specs.declared.Rule.{Rule}
use Rattle.tl_tables.specs.declared.Rule.TheVariants as rule
use Rattle.tl_tables.specs.Messages.{same_chan}
use Rattle.tl_tables.specs.Params.{cap_of}
use Rattle.tl_beats.specs.declared.Beat.{Beat}
use Rattle.tl_beats.specs.declared.Placed.{Placed}
use Rattle.tl_beats.specs.declared.Request.{Request}
use Rattle.tl_beats.specs.declared.Row.{Row}
use Rattle.tl_definitions.specs.declared.Unfinished.{Unfinished}
use Rattle.tl_tables.specs.Kinds.{is_grant, is_release_ack}
use Rattle.tl_definitions.specs.OpenTables.{touches, entry_after, passes, count_after}
use Rattle.tl_definitions.specs.Heads.{message_of, before_on, unfinished, after_beat}
use Rattle.tl_definitions.specs.Messages.{Message, as_request, sources, releases, sinks, probes, granted_block, claim, claimed_or}
use Rattle.tl_definitions.specs.Past.{FlowPast, ClientPast, LinkPast, pasts_of, acquires_block, releases_block, grants_block}
use Rattle.tl_definitions.specs.Rules.{Manager, rules_of_message}
use Rattle.tl_definitions.specs.Breaks.{later_rules, rules_at, row_of, rows_in}
use Rattle.tl_definitions.specs.Positions.{position_order}
use Rattle.tl_definitions.specs.Report.{row_order, of_manager, IsReport}
use Rattle.tl_definitions.specs.Passes.{Judge, Pass, IsPass, IsChain, SomeHas, rows_judged, left_after, pass_beats, last_exit}

-- For each link and channel the burst that is unfinished, and for each link what its messages leave.
pub record Snapshot : Type 0 where
  pub burst : ℕ → Chan → Option Unfinished
  pub past : ℕ → LinkPast

abbrev pub snapshot : Manager → List Placed → Snapshot
snapshot m before = record {
  burst = λ link chan. unfinished (m.links link) (before_on link chan before);
  past = pasts_of m.links m.exponent before;
}

-- A head's message, its request read from the link's past.
abbrev pub request_in : FlowPast → Op → Beat → Option Request
request_in past o beat =
    if same_chan beat.chan chan.D then (if is_release_ack o then past.release beat.source else past.source beat.source)
    else None

abbrev pub message_in : FlowPast → Beat → Op → Message
message_in past beat o = record { op = o; beat = beat; request = request_in past o beat }

-- The rules that a beat breaks, by the snapshot of the beats before it.
abbrev pub judged_head : Manager → Snapshot → Placed → Option Op → List Rule
judged_head m s p None = rule.F1 ∷ []
judged_head m s p (Some o) = rules_of_message m s.past p.link (message_in (s.past p.link).flow p.beat o)

abbrev pub judged_place : Manager → Snapshot → Placed → Option Unfinished → List Rule
judged_place m s p None = judged_head m s p (message_of (m.links p.link) p.beat)
judged_place m s p (Some burst) = later_rules (m.links p.link) p.beat burst.head

abbrev pub judged_rules : Manager → Snapshot → Placed → List Rule
judged_rules m s p = judged_place m s p (s.burst p.link p.beat.chan)

-- What a link's past leaves after one more message.
abbrev pub flow_after : FlowPast → Message → FlowPast
flow_after past message = record {
  source = entry_after sources as_request message past.source;
  release = entry_after releases as_request message past.release;
  sink = λ sink. if touches sinks sink message then is_grant message.op else past.sink sink;
}

abbrev pub client_after : ℕ → FlowPast → ClientPast → Message → ClientPast
client_after exponent flow past message = record {
  probe = entry_after (probes exponent) (λ m. cap_of m.op m.beat.param) message past.probe;
  bound = λ block. claimed_or (claim exponent message) block (past.bound block);
  granted = entry_after sinks (granted_block exponent) message past.granted;
  acquires = λ block. count_after sources (λ m. acquires_block exponent block (as_request m)) message
      (passes (acquires_block exponent block) (flow.source message.beat.source)) (past.acquires block);
  releases = λ block. count_after releases (λ m. releases_block exponent block (as_request m)) message
      (passes (releases_block exponent block) (flow.release message.beat.source)) (past.releases block);
  grants = λ block. count_after sinks (λ m. grants_block block (granted_block exponent m)) message
      (passes (grants_block block) (past.granted message.beat.sink)) (past.grants block);
}

abbrev pub past_after : ℕ → LinkPast → Message → LinkPast
past_after exponent past message = record { flow = flow_after past.flow message; client = client_after exponent past.flow past.client message }

abbrev pub past_with : ℕ → LinkPast → Beat → Option Op → LinkPast
past_with exponent past beat found = option_map_or (λ o. past_after exponent past (message_in past.flow beat o)) found past

-- The snapshot after one more beat.
abbrev pub judged_next : Manager → Snapshot → Placed → Snapshot
judged_next m s p = record {
  burst = λ link chan. if (p.link == link) && same_chan p.beat.chan chan then after_beat (m.links link) p.beat (s.burst link chan) else s.burst link chan;
  past = λ link. if (p.link == link) && is_none (s.burst p.link p.beat.chan) then past_with m.exponent (s.past link) p.beat (message_of (m.links link) p.beat)
      else s.past link;
}

-- Judging by the snapshot of any beats gives the rules that the next beat breaks after them, and the snapshot of them all.
abbrev pub JudgingIsExact : Type 0
JudgingIsExact = (m : Manager) (before : List Placed) (p : Placed) →
    (judged_rules m (snapshot m before) p ≡ rules_at m before p) × (judged_next m (snapshot m before) p ≡ snapshot m (p ∷ before))

-- A manager judges its beats by the snapshot.
abbrev pub judging : Manager → Judge Snapshot
judging m = record { rows = λ s p. map (row_of p) (judged_rules m s p); next = judged_next m }

-- A chain from the beginning has the rows of its whole list of beats, and ends with the snapshot of that.
abbrev pub ChainsAreWhole : Type 0
ChainsAreWhole = (m : Manager) (passes : List (Pass Snapshot)) → IsChain (judging m) (snapshot m []) passes →
    ((row : Row) → SomeHas passes row ↔ Contains (rows_in m (pass_beats passes)) row)
    × (last_exit (snapshot m []) passes ≡ snapshot m (reverse (pass_beats passes)))

-- Rows in strict order that are those of judging beats in strict order make a pass.
abbrev pub SortedRowsAreAPass : Type 0
SortedRowsAreAPass = (m : Manager) (s : Snapshot) (beats : List Placed) (rows : List Row) → IsStrictlySortedBy position_order beats
    → IsStrictlySortedBy row_order rows → ((row : Row) → Contains rows row ↔ Contains (rows_judged (judging m) s beats) row)
    → IsPass (judging m) (record { entry = s; beats = beats; exit = left_after (judging m) s beats; rows = rows })

-- A pass from the beginning has the report of its beats.
abbrev pub FirstPassesAreReports : Type 0
FirstPassesAreReports = (m : Manager) (pass : Pass Snapshot) → IsPass (judging m) pass → pass.entry ≡ snapshot m []
    → IsReport (of_manager m pass.beats ∷ []) pass.rows
