-- The judge of a link goes on.
use Rattle.std.proofs.Common.{◌≡◌, ℕ, cond, List, [], ◌++◌, append_assoc, Option, Some, None, refl, sym, ap, subst, ◌∙◌}
use Rattle.std.specs.Prelude.{filter, map, is_none}
use Rattle.std.specs.Option.{option_map, option_and_then}
use Rattle.std.proofs.lemmas.List.{map-append}
use Rattle.tl_tables.specs.declared.Chan.{Chan}
use Rattle.tl_tables.specs.declared.Op.{Op}
use Rattle.tl_tables.specs.declared.Rule.{Rule}
use Rattle.tl_tables.specs.Messages.{same_chan}
use Rattle.tl_topology.specs.Regions.{Area, areas_of}
use Rattle.tl_topology.specs.declared.LinkDecl.{LinkDecl}
use Rattle.tl_beats.specs.declared.Beat.{Beat}
use Rattle.tl_beats.specs.declared.Placed.{Placed}
use Rattle.tl_beats.specs.declared.Request.{Request}
use Rattle.tl_beats.specs.declared.Row.{Row}
use Rattle.tl_definitions.specs.declared.Unfinished.{Unfinished}
use Rattle.tl_definitions.specs.Breaks.{row_of}
use Rattle.tl_definitions.specs.Events.{head_event, place_event, event_of}
use Rattle.tl_definitions.specs.Heads.{message_of, after_beat}
use Rattle.tl_definitions.specs.Judging.{request_in, message_in, past_with}
use Rattle.tl_definitions.specs.LinkPasses.{LinkSnapshot, link_head, link_place, link_rules, link_next}
use Rattle.tl_definitions.specs.Messages.{granted_block, sinks}
use Rattle.tl_definitions.specs.OpenTables.{touches, if_opens, entry_after}
use Rattle.tl_definitions.specs.Past.{FlowPast, LinkPast}
use Rattle.tl_definitions.specs.Rules.{Manager, breaks_format, breaks_flow, breaks_permission, format_order, flow_order, permission_order, format_rules}
use Rattle.tl_link_rules.specs.Bursts.{slot_at, slots_after}
use Rattle.tl_link_rules.specs.Flow as flow_state
use Rattle.tl_client_rules.specs.Client as client_state
use Rattle.tl_client_rules.specs.Client.{ClientView, client_view, head_with}
use Rattle.tl_state.specs.Slots.{slot_of}
use Rattle.tl_check.specs.Apart.{one_link}
use Rattle.tl_check.specs.States.{Serves}
use Rattle.tl_apart.specs.LinkJudge.{Shows, alone, message_rules}
use Rattle.tl_apart.specs.declared.link_judge.LinkJudge.{LinkJudge}
use Rattle.tl_apart.specs.declared.link_judge.Terms.{Terms}

-- ---- a link's judge reads no link but its own

-- A manager that serves a link so has for it the same rules as one that serves all its links so.
place_alone : (m : Manager) (s : LinkSnapshot) (p : Placed) (burst : Option Unfinished) → link_place m s p burst ≡ link_place (one_link (m.links p.link) m.exponent m.regions) s p burst
place_alone m s p None =
    elim (message_of (m.links p.link) p.beat) as (λ found. link_head m s p found ≡ link_head (one_link (m.links p.link) m.exponent m.regions) s p found) [ None ↦ refl | Some o ↦ refl ]
place_alone m s p (Some burst) = refl

served : (m : Manager) (link : ℕ) (decl : LinkDecl) (exponent : ℕ) (areas : List Area) → Serves m link decl exponent areas → one_link (m.links link) m.exponent m.regions ≡ one_link decl exponent areas
served m link decl exponent areas serves = λ i. one_link (serves.declared i) (serves.block i) (serves.regions i)

pub rules_alone : (m : Manager) (terms : Terms) (s : LinkSnapshot) (p : Placed) → Serves m p.link terms.decl.now terms.exponent (areas_of terms.regions.now) → link_rules (alone terms) s p ≡ link_rules m s p
rules_alone m terms s p serves =
    sym (place_alone m s p (s.burst p.beat.chan) ∙ ap (λ t. link_rules t s p) (served m p.link terms.decl.now terms.exponent (areas_of terms.regions.now) serves))

pub next_alone : (m : Manager) (terms : Terms) (s : LinkSnapshot) (p : Placed) → Serves m p.link terms.decl.now terms.exponent (areas_of terms.regions.now) → link_next (alone terms) s p ≡ link_next m s p
next_alone m terms s p serves = sym (ap (λ t. link_next t s p) (served m p.link terms.decl.now terms.exponent (areas_of terms.regions.now) serves))

event_alone_at : (m : Manager) (s : LinkSnapshot) (p : Placed) (burst : Option Unfinished) → place_event m s p burst ≡ place_event (one_link (m.links p.link) m.exponent m.regions) s p burst
event_alone_at m s p None =
    elim (message_of (m.links p.link) p.beat) as (λ found. option_and_then (head_event m s p) found ≡ option_and_then (head_event (one_link (m.links p.link) m.exponent m.regions) s p) found) [ None ↦ refl | Some o ↦ refl ]
event_alone_at m s p (Some burst) = refl

pub event_alone : (m : Manager) (terms : Terms) (s : LinkSnapshot) (p : Placed) → Serves m p.link terms.decl.now terms.exponent (areas_of terms.regions.now) → event_of (alone terms) s p ≡ event_of m s p
event_alone m terms s p serves =
    sym (event_alone_at m s p (s.burst p.beat.chan) ∙ ap (λ t. event_of t s p) (served m p.link terms.decl.now terms.exponent (areas_of terms.regions.now) serves))

-- ---- the rules of a head

pub head_is_judged : (m : Manager) (s : LinkSnapshot) (p : Placed) (o : Op) → s.burst p.beat.chan ≡ None → message_of (m.links p.link) p.beat ≡ Some o
    → format_rules m.exponent m.regions (m.links p.link) p.beat (message_of (m.links p.link) p.beat) ++ message_rules m s p o ≡ link_rules m s p
head_is_judged m s p o free is =
    let format : List Rule = filter (breaks_format m.exponent m.regions (m.links p.link) o p.beat) format_order in
    let flow : List Rule = filter (breaks_flow s.past.flow (message_in s.past.flow p.beat o)) flow_order in
    let permission : List Rule = filter (breaks_permission (m.links p.link).strict m.exponent s.past.client (message_in s.past.flow p.beat o)) permission_order in
    ap (λ found. format_rules m.exponent m.regions (m.links p.link) p.beat found ++ message_rules m s p o) is ∙ sym (append_assoc format flow permission)
    ∙ sym (ap (link_head m s p) is) ∙ sym (ap (link_place m s p) free)

-- A head that breaks no rule of any kind.
pub clean_rules : (m : Manager) (s : LinkSnapshot) (p : Placed) (o : Op) → s.burst p.beat.chan ≡ None → message_of (m.links p.link) p.beat ≡ Some o
    → filter (breaks_format m.exponent m.regions (m.links p.link) o p.beat) format_order ≡ []
    → filter (breaks_flow s.past.flow (message_in s.past.flow p.beat o)) flow_order ≡ []
    → filter (breaks_permission (m.links p.link).strict m.exponent s.past.client (message_in s.past.flow p.beat o)) permission_order ≡ [] → link_rules m s p ≡ []
clean_rules m s p o free is format flow permission =
    sym (head_is_judged m s p o free is) ∙ ap (λ found. format_rules m.exponent m.regions (m.links p.link) p.beat found ++ message_rules m s p o) is
    ∙ ap (λ rules. rules ++ message_rules m s p o) format
    ∙ ap (λ rules. rules ++ filter (breaks_permission (m.links p.link).strict m.exponent s.past.client (message_in s.past.flow p.beat o)) permission_order) flow ∙ permission

-- Rows put after others in two parts.
pub put_both : (p : Placed) (xs ys : List Rule) (r0 r1 r2 : List Row) → r1 ≡ r0 ++ map (row_of p) xs → r2 ≡ r1 ++ map (row_of p) ys → r2 ≡ r0 ++ map (row_of p) (xs ++ ys)
put_both p xs ys r0 r1 r2 one two =
    two ∙ ap (λ rows. rows ++ map (row_of p) ys) one ∙ append_assoc r0 (map (row_of p) xs) (map (row_of p) ys) ∙ ap (λ rows. r0 ++ rows) (sym (map-append (row_of p) xs ys))

-- ---- what the judge shows after a head

with_flow : (exponent : ℕ) (past : LinkPast) (beat : Beat) (found : Option Op) → flow_state.flow_with past.flow beat found ≡ (past_with exponent past beat found).flow
with_flow exponent past beat None = refl
with_flow exponent past beat (Some o) = refl

module _ (m : Manager) (s : LinkSnapshot) (p : Placed) (old new : LinkJudge) (shows : Shows m.exponent old s)
    (passed : (chan : Chan) → slot_at new.bursts chan ≡ slots_after (m.links p.link) p.beat (slot_at old.bursts) chan) (free : slot_at old.bursts p.beat.chan ≡ None) (o : Op)
    (is : message_of (m.links p.link) p.beat ≡ Some o) (request : Option Request) (answers : request ≡ request_in (flow_state.shown old.flow) o p.beat)
    (flowed : flow_state.shown new.flow ≡ flow_state.flow_with (flow_state.shown old.flow) p.beat (message_of (m.links p.link) p.beat))
    (held : client_state.Shows m.exponent new.client (past_with m.exponent s.past p.beat (message_of (m.links p.link) p.beat)))
    (kept : (sink : ℕ) → slot_of new.granted sink ≡ entry_after sinks (granted_block m.exponent) (record { op = o; beat = p.beat; request = request }) (slot_of old.granted) sink) where
  past_free : (link_next m s p).past ≡ past_with m.exponent s.past p.beat (message_of (m.links p.link) p.beat)
  past_free = ap (λ slot. cond (is_none slot) (past_with m.exponent s.past p.beat (message_of (m.links p.link) p.beat)) s.past) (sym (shows.bursts p.beat.chan) ∙ free)

  pub message_next : Shows m.exponent new (link_next m s p)
  message_next = record {
    bursts = λ chan. passed chan ∙ ap (λ slot. cond (same_chan p.beat.chan chan) (after_beat (m.links p.link) p.beat slot) slot) (shows.bursts chan);
    flow = flowed ∙ ap (λ f. flow_state.flow_with f p.beat (message_of (m.links p.link) p.beat)) shows.flow
        ∙ with_flow m.exponent s.past p.beat (message_of (m.links p.link) p.beat) ∙ sym (ap (λ (past : LinkPast). past.flow) past_free);
    client = subst (client_state.Shows m.exponent new.client) (sym past_free) held;
    granted = λ sink. kept sink
        ∙ ap (λ r. entry_after sinks (granted_block m.exponent) (record { op = o; beat = p.beat; request = r }) (slot_of old.granted) sink) (answers ∙ ap (λ f. request_in f o p.beat) shows.flow)
        ∙ ap (λ entry. cond (touches sinks sink (message_in s.past.flow p.beat o)) (option_map (granted_block m.exponent) (if_opens sinks (message_in s.past.flow p.beat o))) entry) (shows.granted sink)
        ∙ sym (ap (λ (past : LinkPast). past.client.granted sink) past_free ∙ ap (λ found. (past_with m.exponent s.past p.beat found).client.granted sink) is);
  }

-- The request that a head answers, read from what the link has left.
pub answered : (s : LinkSnapshot) (old : LinkJudge) (beat : Beat) (found : Option Op) (o : Op) (request : Option Request) (exponent : ℕ) → Shows exponent old s → found ≡ Some o
    → request ≡ request_in (flow_state.shown old.flow) o beat → request ≡ client_state.answered_in s.past beat found
answered s old beat found o request exponent shows is answers = answers ∙ ap (λ f. request_in f o beat) shows.flow ∙ sym (ap (client_state.answered_in s.past beat) is)

-- The rows of a message, put after others in two parts.
pub message_rows : (terms : Terms) (s : LinkSnapshot) (p : Placed) (o : Op) (past : FlowPast) (found : Option Op) (flows permissions : List Rule) (r0 r1 r2 : List Row) → past ≡ s.past.flow → found ≡ Some o
    → flows ≡ flow_state.rules_in past p.beat found → permissions ≡ client_state.rules_in terms.decl.now.strict terms.exponent s.past p.beat found
    → r1 ≡ r0 ++ map (row_of p) flows → r2 ≡ r1 ++ map (row_of p) permissions → r2 ≡ r0 ++ map (row_of p) (message_rules (alone terms) s p o)
message_rows terms s p o past found flows permissions r0 r1 r2 shows is f g one two =
    put_both p flows permissions r0 r1 r2 one two
    ∙ ap (λ rules. r0 ++ map (row_of p) (rules ++ permissions)) (f ∙ ap (λ x. flow_state.rules_in x p.beat found) shows ∙ ap (flow_state.rules_in s.past.flow p.beat) is)
    ∙ ap (λ rules. r0 ++ map (row_of p) (filter (breaks_flow s.past.flow (message_in s.past.flow p.beat o)) flow_order ++ rules))
    (g ∙ ap (client_state.rules_in terms.decl.now.strict terms.exponent s.past p.beat) is)

-- Rules that are kept by what the judge shows are kept by what the link has left.
pub clean_flow : (s : LinkSnapshot) (beat : Beat) (o : Op) (past : FlowPast) (request : Option Request) → past ≡ s.past.flow → request ≡ request_in past o beat
    → filter (breaks_flow past (record { op = o; beat = beat; request = request })) flow_order ≡ [] → filter (breaks_flow s.past.flow (message_in s.past.flow beat o)) flow_order ≡ []
clean_flow s beat o past request shows is none =
    sym (ap (λ r. filter (breaks_flow past (record { op = o; beat = beat; request = r })) flow_order) is ∙ ap (λ f. filter (breaks_flow f (message_in f beat o)) flow_order) shows) ∙ none

pub clean_permissions : (terms : Terms) (s : LinkSnapshot) (beat : Beat) (o : Op) (view : ClientView) → view ≡ client_view terms.exponent s.past
    → filter (breaks_permission terms.decl.now.strict view.exponent view.past (head_with beat None o)) permission_order ≡ []
    → filter (breaks_permission terms.decl.now.strict terms.exponent s.past.client (message_in s.past.flow beat o)) permission_order ≡ []
clean_permissions terms s beat o view shows none =
    sym (ap (λ (v : ClientView). filter (breaks_permission terms.decl.now.strict v.exponent v.past (head_with beat None o)) permission_order) shows) ∙ none
