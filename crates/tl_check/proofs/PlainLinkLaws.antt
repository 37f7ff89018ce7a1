-- A link's state goes on.
use Rattle.std.proofs.Common.{◌≡◌, ℕ, ◌-◌, true, false, cond, List, [], ◌∷◌, ◌++◌, append-nil, append_assoc, Option, Some, None, refl, sym, ap, subst, ◌∙◌}
use Rattle.std.specs.Prelude.{filter, map, is_none, nat_lt}
use Rattle.std.specs.Option.{option_map_or}
use Rattle.std.proofs.lemmas.List.{map-append}
use Rattle.std.proofs.lemmas.Option.{cond_some}
use Rattle.tl_tables.specs.declared.Chan.{Chan}
use Rattle.tl_tables.specs.declared.Op.{Op}
use Rattle.tl_tables.specs.declared.Rule.{Rule}
use Rattle.tl_tables.specs.declared.Rule.TheVariants as rule
use Rattle.tl_tables.specs.Messages.{same_chan}
use Rattle.tl_topology.specs.Regions.{Area}
use Rattle.tl_topology.specs.declared.LinkDecl.{LinkDecl}
use Rattle.tl_beats.specs.Beats.{IsWellFormed}
use Rattle.tl_beats.specs.declared.Beat.{Beat}
use Rattle.tl_beats.specs.declared.Placed.{Placed}
use Rattle.tl_beats.specs.declared.Row.{Row}
use Rattle.tl_definitions.specs.declared.Unfinished.{Unfinished}
use Rattle.tl_definitions.specs.Breaks.{later_rules, row_of}
use Rattle.tl_definitions.specs.Heads.{message_of, beat_count, after_beat}
use Rattle.tl_definitions.specs.Judging.{message_in, past_with}
use Rattle.tl_definitions.specs.LinkPasses.{LinkSnapshot, link_head, link_place, link_rules, link_next}
use Rattle.tl_definitions.specs.Past.{LinkPast, FlowPast}
use Rattle.tl_definitions.specs.Rules.{breaks_format, format_order, breaks_flow, flow_order, format_rules}
use Rattle.tl_link_rules.specs.Bursts.{slot_at, slots_after}
use Rattle.tl_link_rules.specs.declared.bursts.BurstState.{BurstState}
use Rattle.tl_link_rules.specs.Flow.{rules_in, flow_with}
use Rattle.tl_check.specs.Apart.{Shows, one_link}
use Rattle.tl_check.specs.Requests.{is_plain, request_at, Has}
use Rattle.tl_check.specs.declared.apart.PlainLink.{PlainLink}
use Rattle.tl_check.specs.declared.requests.Requests.{Requests}
use Rattle.tl_check.proofs.PlainLaws.{no_permission}

-- The rules of a head are its format rules and its flow rules.
pub head_is_judged : (decl : LinkDecl) (exponent : ℕ) (areas : List Area) (s : LinkSnapshot) (p : Placed) (found : Option Op) (format flows : List Rule)
    → format ≡ format_rules exponent areas decl p.beat found → flows ≡ rules_in s.past.flow p.beat found → option_map_or is_plain found true ≡ true
    → format ++ flows ≡ link_head (one_link decl exponent areas) s p found
head_is_judged decl exponent areas s p None format flows f g plain = ap (λ x. x ++ flows) f ∙ ap (λ x. (rule.F1 ∷ []) ++ x) g
head_is_judged decl exponent areas s p (Some o) format flows f g plain =
    let message = message_in s.past.flow p.beat o in
    let first : List Rule = filter (breaks_format exponent areas decl o p.beat) format_order in
    let second : List Rule = filter (breaks_flow s.past.flow message) flow_order in
    ap (λ x. x ++ flows) f ∙ ap (λ x. first ++ x) g ∙ sym (append-nil (first ++ second))
    ∙ ap (λ x. first ++ second ++ x) (sym (no_permission decl.strict exponent s.past.client o p.beat message.request plain))

-- Its rows, put after others one list after the other.
pub head_rows : (decl : LinkDecl) (exponent : ℕ) (areas : List Area) (s : LinkSnapshot) (p : Placed) (format flows : List Rule) (r0 r1 r2 : List Row) → s.burst p.beat.chan ≡ None
    → format ≡ format_rules exponent areas decl p.beat (message_of decl p.beat) → flows ≡ rules_in s.past.flow p.beat (message_of decl p.beat)
    → option_map_or is_plain (message_of decl p.beat) true ≡ true → r1 ≡ r0 ++ map (row_of p) format → r2 ≡ r1 ++ map (row_of p) flows
    → r2 ≡ r0 ++ map (row_of p) (link_rules (one_link decl exponent areas) s p)
head_rows decl exponent areas s p format flows r0 r1 r2 free f g plain one two =
    two ∙ ap (λ rows. rows ++ map (row_of p) flows) one ∙ append_assoc r0 (map (row_of p) format) (map (row_of p) flows)
    ∙ ap (λ rows. r0 ++ rows) (sym (map-append (row_of p) format flows)
    ∙ ap (map (row_of p)) (head_is_judged decl exponent areas s p (message_of decl p.beat) format flows f g plain ∙ sym (ap (link_place (one_link decl exponent areas) s p) free)))

pub later_rows : (decl : LinkDecl) (exponent : ℕ) (areas : List Area) (s : LinkSnapshot) (p : Placed) (head : Beat) (burst : Unfinished) (rules : List Rule) (r0 r1 : List Row)
    → s.burst p.beat.chan ≡ Some burst → burst.head ≡ head → rules ≡ later_rules decl p.beat head → r1 ≡ r0 ++ map (row_of p) rules
    → r1 ≡ r0 ++ map (row_of p) (link_rules (one_link decl exponent areas) s p)
later_rows decl exponent areas s p head burst rules r0 r1 taken is known one =
    one ∙ ap (λ rs. r0 ++ map (row_of p) rs) (known ∙ ap (later_rules decl p.beat) (sym is) ∙ sym (ap (link_place (one_link decl exponent areas) s p) taken))

-- What the state shows after a beat.
with_flow : (exponent : ℕ) (past : LinkPast) (beat : Beat) (found : Option Op) → flow_with past.flow beat found ≡ (past_with exponent past beat found).flow
with_flow exponent past beat None = refl
with_flow exponent past beat (Some o) = refl

module _ (decl : LinkDecl) (exponent : ℕ) (areas : List Area) (s : LinkSnapshot) (p : Placed) (old new : PlainLink) (shows : Shows old s)
    (passed : (chan : Chan) → slot_at new.bursts chan ≡ slots_after decl p.beat (slot_at old.bursts) chan) where
  bursts : (chan : Chan) → slot_at new.bursts chan ≡ (link_next (one_link decl exponent areas) s p).burst chan
  bursts chan = passed chan ∙ ap (λ slot. cond (same_chan p.beat.chan chan) (after_beat decl p.beat slot) slot) (shows.bursts chan)

  pub head_next : s.burst p.beat.chan ≡ None → Has new.requests (flow_with s.past.flow p.beat (message_of decl p.beat)) → Shows new (link_next (one_link decl exponent areas) s p)
  head_next free has = record {
    bursts = bursts;
    requests = λ source. has source ∙ ap (λ (past : FlowPast). past.source source) (with_flow exponent s.past p.beat (message_of decl p.beat))
        ∙ sym (ap (λ slot. (cond (is_none slot) (past_with exponent s.past p.beat (message_of decl p.beat)) s.past).flow.source source) free);
  }

  pub later_next : (burst : Unfinished) → s.burst p.beat.chan ≡ Some burst → new.requests ≡ old.requests → Shows new (link_next (one_link decl exponent areas) s p)
  later_next burst taken kept = record {
    bursts = bursts;
    requests = λ source. ap (λ (requests : Requests). request_at requests source) kept ∙ shows.requests source
        ∙ sym (ap (λ slot. (cond (is_none slot) (past_with exponent s.past p.beat (message_of decl p.beat)) s.past).flow.source source) taken);
  }

-- The heads of its bursts are well-formed.
after_formed : (decl : LinkDecl) (beat : Beat) (slot : Option Unfinished) (burst : Unfinished) → IsWellFormed beat
    → ((old : Unfinished) → slot ≡ Some old → IsWellFormed old.head) → after_beat decl beat slot ≡ Some burst → IsWellFormed burst.head
after_formed decl beat None burst formed all is =
    let found = cond_some (nat_lt 0 (beat_count decl beat - 1)) (record { head = beat; missing = beat_count decl beat - 1 }) burst is in
    subst (λ (b : Unfinished). IsWellFormed b.head) found.1 formed
after_formed decl beat (Some old) burst formed all is =
    let found = cond_some (nat_lt 0 (old.missing - 1)) (record { head = old.head; missing = old.missing - 1 }) burst is in
    subst (λ (b : Unfinished). IsWellFormed b.head) found.1 (all old refl)

pub still_formed : (decl : LinkDecl) (beat : Beat) (old new : BurstState) → IsWellFormed beat
    → ((chan : Chan) (burst : Unfinished) → slot_at old chan ≡ Some burst → IsWellFormed burst.head)
    → ((chan : Chan) → slot_at new chan ≡ slots_after decl beat (slot_at old) chan)
    → (chan : Chan) (burst : Unfinished) → slot_at new chan ≡ Some burst → IsWellFormed burst.head
still_formed decl beat old new formed all passed chan burst h =
    elim (same_chan beat.chan chan) as (λ b. cond b (after_beat decl beat (slot_at old chan)) (slot_at old chan) ≡ Some burst → IsWellFormed burst.head) [
      | true ↦ λ g. after_formed decl beat (slot_at old chan) burst formed (λ o e. all chan o e) g
      | false ↦ λ g. all chan burst g
    ] (sym (passed chan) ∙ h)
