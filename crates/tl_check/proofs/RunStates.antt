-- The state of a manager after later beats of one burst.
use Rattle.std.proofs.Common.{◌≡◌, ◌≢◌, inl, inr, ℕ, zero, suc, ◌==◌, ◌&&◌, true, false, cond, [], length, Option, Some, None, refl, sym, ap, subst, ◌∙◌, arith, length-set}
use Rattle.std.proofs.Math.ListN.{set}
use Rattle.std.proofs.lemmas.Option.{slice_get_within}
use Rattle.std.proofs.lemmas.Bool.Decides.{nat_tests}
use Rattle.std.specs.Prelude.{slice_get, nat_lt}
use Rattle.std.specs.Option.{option_and_then, option_map_or}
use Rattle.tl_tables.specs.declared.Chan.{Chan}
use Rattle.tl_tables.specs.Messages.{same_chan}
use Rattle.tl_beats.specs.Beats.{IsWellFormed}
use Rattle.tl_beats.specs.declared.Beat.{Beat}
use Rattle.tl_definitions.specs.declared.Unfinished.{Unfinished}
use Rattle.tl_definitions.specs.Heads.{left}
use Rattle.tl_definitions.specs.Past.{flow_past}
use Rattle.tl_definitions.specs.Rules.{Manager}
use Rattle.tl_link_rules.specs.Bursts.{slot_at, slots_with, later_left}
use Rattle.tl_link_rules.specs.Flow as flow
use Rattle.tl_client_rules.specs.Client.{client_view}
use Rattle.tl_client_rules.specs.Clients.{place_of}
use Rattle.tl_client_rules.specs.Manager as managers
use Rattle.tl_client_rules.specs.Manager.{client_at}
use Rattle.tl_client_rules.proofs.ClientsLaws.{same_link}
use Rattle.tl_check.specs.declared.links.LinkState.{LinkState}
use Rattle.tl_check.specs.declared.state.SpanState.{SpanState}
use Rattle.tl_check.specs.Runs.{with_slot}
use Rattle.tl_check.specs.States.{link_of, burst_at, flow_at, past_at, shown, AreFormed, IsOf}
use Rattle.tl_check.proofs.RunLaws.{same_is}
use Rattle.tl_check.proofs.StateLaws.{get_set_same, get_set_other, link_cases}

-- What is left of a burst has its head.
pub later_formed : (n : ℕ) (slot : Option Unfinished) (burst : Unfinished) → ((b : Unfinished) → slot ≡ Some b → IsWellFormed b.head) → later_left n slot ≡ Some burst → IsWellFormed burst.head
later_formed zero slot burst known h = known burst h
later_formed (suc n) None burst known h = cc
later_formed (suc n) (Some b) burst known h = one b.head _ (known b refl) h
  where
    one : (head : Beat) (missing : ℕ) → IsWellFormed head → left head missing ≡ Some burst → IsWellFormed burst.head
    one head missing formed = elim (nat_lt 0 missing) as (λ t. cond t (Some (record { head = head; missing = missing })) None ≡ Some burst → IsWellFormed burst.head) [
      | true ↦ λ h. subst IsWellFormed (ap (λ o. option_map_or (λ (u : Unfinished). u.head) o head) h) formed
      | false ↦ λ h. cc
    ]

module _ (m : Manager) (old new : SpanState) (link place count : ℕ) (c : Chan) (own next : LinkState) (of : IsOf m old)
    (found : place_of link (managers.shown old.clients).clients ≡ Some place) (stood : slice_get old.links.items place ≡ Some own)
    (put : new.links.items ≡ set old.links.items place next) (kept : new.clients ≡ old.clients) (flows : next.flow ≡ own.flow)
    (slots : (other : Chan) → slot_at next.bursts other ≡ slots_with c count (slot_at own.bursts) other) where
  at : link_of old link ≡ Some own
  at = ap (λ o. option_and_then (λ k. slice_get old.links.items k) o) found ∙ stood

  now_of : (n : ℕ) → link_of new n ≡ option_and_then (λ k. slice_get (set old.links.items place next) k) (place_of n (managers.shown old.clients).clients)
  now_of n = λ i. option_and_then (λ k. slice_get (put i) k) (place_of n (managers.shown (kept i)).clients)

  here : link_of new link ≡ Some next
  here = now_of link ∙ ap (λ o. option_and_then (λ k. slice_get (set old.links.items place next) k) o) found
      ∙ get_set_same old.links.items place next (slice_get_within old.links.items place own stood)

  there : (n : ℕ) → n ≢ link → link_of new n ≡ link_of old n
  there n ne = now_of n ∙ elim (place_of n (managers.shown old.clients).clients) as (λ o. place_of n (managers.shown old.clients).clients ≡ o
      → option_and_then (λ k. slice_get (set old.links.items place next) k) o ≡ option_and_then (λ k. slice_get old.links.items k) o) [
        | None ↦ λ e. refl
        | Some other ↦ λ e. get_set_other old.links.items place other next (λ same. ne (same_link (managers.shown old.clients).clients n link place (e ∙ ap Some same) found))
      ] refl

  own_slot : (d : Chan) → burst_at old link d ≡ slot_at own.bursts d
  own_slot d = ap (λ o. option_and_then (λ (s : LinkState). slot_at s.bursts d) o) at

  own_burst : (d : Chan) → burst_at new link d ≡ cond (same_chan c d) (later_left count (burst_at old link c)) (burst_at old link d)
  own_burst d =
      ap (λ o. option_and_then (λ (s : LinkState). slot_at s.bursts d) o) here ∙ slots d
      ∙ elim (same_chan c d) as (λ t. same_chan c d ≡ t → cond t (later_left count (slot_at own.bursts d)) (slot_at own.bursts d) ≡ cond t (later_left count (burst_at old link c)) (burst_at old link d)) [
        | true ↦ λ e. ap (later_left count) (ap (slot_at own.bursts) (sym (same_is c d e)) ∙ sym (own_slot c))
        | false ↦ λ e. sym (own_slot d)
      ] refl

  bursts : (n : ℕ) (d : Chan) → burst_at new n d ≡ (with_slot (shown old) link c (later_left count (burst_at old link c))).burst n d
  bursts n d = elim (link_cases link n) [
    | inl e ↦ subst (λ k. burst_at new k d ≡ cond ((link == k) && same_chan c d) (later_left count (burst_at old link c)) (burst_at old k d)) e
        (let same : (link == link) ≡ true = grind (arith, nat_tests) in own_burst d ∙ sym (ap (λ t. cond (t && same_chan c d) (later_left count (burst_at old link c)) (burst_at old link d)) same))
    | inr ne ↦ ap (λ o. option_and_then (λ (s : LinkState). slot_at s.bursts d) o) (there n ne.0) ∙ sym (ap (λ t. cond (t && same_chan c d) (later_left count (burst_at old link c)) (burst_at old n d)) ne.1)
  ]

  same_flows : (n : ℕ) → flow_at new n ≡ flow_at old n
  same_flows n = elim (link_cases link n) [
    | inl e ↦ subst (λ k. flow_at new k ≡ flow_at old k) e
        (ap (λ o. option_map_or (λ (s : LinkState). flow.shown s.flow) o (flow_past [])) here ∙ ap flow.shown flows
        ∙ sym (ap (λ o. option_map_or (λ (s : LinkState). flow.shown s.flow) o (flow_past [])) at))
    | inr ne ↦ ap (λ o. option_map_or (λ (s : LinkState). flow.shown s.flow) o (flow_past [])) (there n ne.0)
  ]

  same_pasts : (n : ℕ) → past_at new n ≡ past_at old n
  same_pasts n = λ i. record { flow = same_flows n i; client = (client_at (kept i) n).past }

  still_formed : AreFormed new
  still_formed n d burst h =
      elim ((link == n) && same_chan c d) as (λ t. cond t (later_left count (burst_at old link c)) (burst_at old n d) ≡ Some burst → IsWellFormed burst.head) [
        | true ↦ λ g. later_formed count (burst_at old link c) burst (of.formed link c) g
        | false ↦ λ g. of.formed n d burst g
      ] (sym (bursts n d) ∙ h)

  pub run_next : IsOf m new × (shown new ≡ with_slot (shown old) link c (later_left count (burst_at old link c)))
  run_next = (
    record {
      clients = record {
        clients = ap (λ state. (managers.shown state).clients) kept ∙ of.clients.clients;
        exponent = ap (λ state. (managers.shown state).exponent) kept ∙ of.clients.exponent;
        each = λ n. ap (λ state. client_at state n) kept ∙ of.clients.each n ∙ ap (client_view m.exponent) (sym (same_pasts n));
      };
      rises = of.rises;
      links = ap length put ∙ simp length-set refl ∙ of.links;
      states = ap (λ state. (managers.shown state).count) kept ∙ of.states;
      formed = still_formed;
    },
    λ i. record { burst = λ n d. bursts n d i; past = λ n. same_pasts n i },
  )
