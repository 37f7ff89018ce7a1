-- The state of a manager, by what it shows.
use Rattle.std.proofs.Common.{◌≡◌, ◌≢◌, ◌⊎◌, inl, inr, ℕ, zero, suc, ◌==◌, ◌&&◌, ◌<◌, ◌≤◌, true, false, cond, List, [], ◌∷◌, length, Option, Some, None, refl, sym, ap, subst, ◌∙◌, arith, get_or, length-set}
use Rattle.std.proofs.Math.ListN.{set}
use Rattle.std.proofs.lemmas.List.{get_or-set_same, get_or-set_other}
use Rattle.std.proofs.lemmas.Option.{slice_get_within, slice_get-get_or, slice_get_past}
use Rattle.std.proofs.lemmas.Bool.Decides.{nat_tests}
use Rattle.std.specs.Prelude.{is_none, slice_get, nat_lt}
use Rattle.std.specs.List.{Contains}
use Rattle.std.specs.List.Sorted.{IsStrictlySortedBy}
use Rattle.std.specs.Option.{option_and_then, option_map_or}
use Rattle.std.specs.Ordering.{nat_cmp}
use Rattle.tl_tables.specs.declared.Chan.{Chan}
use Rattle.tl_tables.specs.declared.Op.{Op}
use Rattle.tl_tables.specs.Messages.{same_chan}
use Rattle.tl_topology.specs.declared.LinkDecl.{LinkDecl}
use Rattle.tl_beats.specs.Beats.{IsWellFormed}
use Rattle.tl_beats.specs.declared.Beat.{Beat}
use Rattle.tl_beats.specs.declared.Placed.{Placed}
use Rattle.tl_definitions.specs.declared.Unfinished.{Unfinished}
use Rattle.tl_definitions.specs.Heads.{message_of, left, after_beat}
use Rattle.tl_definitions.specs.Past.{LinkPast, flow_past, past_of}
use Rattle.tl_definitions.specs.Rules.{Manager}
use Rattle.tl_definitions.specs.Judging.{Snapshot, past_with, judged_next}
use Rattle.tl_link_rules.specs.Bursts.{slot_at}
use Rattle.tl_link_rules.specs.Flow as flow
use Rattle.tl_client_rules.specs.Client as client_state
use Rattle.tl_client_rules.specs.Client.{ClientView, client_view}
use Rattle.tl_client_rules.specs.declared.manager.ManagerState.{ManagerState}
use Rattle.tl_client_rules.specs.Manager as managers
use Rattle.tl_client_rules.specs.Clients.{place_of}
use Rattle.tl_client_rules.specs.Manager.{ManagerView, client_at, client_in, client_there, opening_view, pasts_with}
use Rattle.tl_client_rules.proofs.ClientsLaws.{placed_at, same_link, contained_place}
use Rattle.tl_same.specs.SameItems.{SameItems, SameOption}
use Rattle.tl_check.specs.declared.links.LinkState.{LinkState}
use Rattle.tl_check.specs.declared.state.SpanState.{SpanState}
use Rattle.tl_check.specs.Links.{IsNext, AreOpening, SameLink}
use Rattle.tl_check.specs.States.{HasLink, link_of, burst_at, flow_at, past_at, shown, AreFormed, IsOf, StandsFor, SameSpan}

-- ---- before all beats

opening_burst : (links : List LinkState) → AreOpening links → (n : ℕ) (chan : Chan) → option_and_then (λ (s : LinkState). slot_at s.bursts chan) (slice_get links n) ≡ None
opening_burst [] opening n chan = refl
opening_burst (s ∷ links) opening zero chan = opening.0.bursts chan
opening_burst (s ∷ links) opening (suc n) chan = opening_burst links opening.1 n chan

opening_flow : (links : List LinkState) → AreOpening links → (n : ℕ) → option_map_or (λ (s : LinkState). flow.shown s.flow) (slice_get links n) (flow_past []) ≡ flow_past []
opening_flow [] opening n = refl
opening_flow (s ∷ links) opening zero = opening.0.flow
opening_flow (s ∷ links) opening (suc n) = opening_flow links opening.1 n

pub opening_stands : (m : Manager) (state : SpanState) → IsStrictlySortedBy nat_cmp m.clients → length state.links.items ≡ length m.clients → AreOpening state.links.items
    → managers.StandsFor m state.clients [] → (managers.shown state.clients).count ≡ length m.clients → StandsFor m state []
opening_stands m state rises many opening stands counted =
    let numbers : List ℕ = (managers.shown state.clients).clients in
    let bursts : (n : ℕ) (chan : Chan) → burst_at state n chan ≡ None = λ n chan.
    elim (place_of n numbers) as (λ o. option_and_then (λ (s : LinkState). slot_at s.bursts chan) (option_and_then (λ place. slice_get state.links.items place) o) ≡ None) [
      | None ↦ refl
      | Some place ↦ opening_burst state.links.items opening place chan
    ] in
    let flows : (n : ℕ) → flow_at state n ≡ flow_past [] = λ n.
    elim (place_of n numbers) as (λ o. option_map_or (λ (s : LinkState). flow.shown s.flow) (option_and_then (λ place. slice_get state.links.items place) o) (flow_past []) ≡ flow_past []) [
      | None ↦ refl
      | Some place ↦ opening_flow state.links.items opening place
    ] in
    let pasts : (n : ℕ) → past_at state n ≡ past_of m.exponent [] = λ n. λ i. record {
      flow = flows n i;
      client = ap (λ (v : ClientView). v.past) (stands.each n) i;
    } in
    record {
      is_of = record {
        clients = record { clients = stands.clients; exponent = stands.exponent; each = λ n. stands.each n ∙ ap (client_view m.exponent) (sym (pasts n)) };
        rises = rises;
        links = many;
        states = counted;
        formed = λ n chan burst h. (let none : None ≡ Some burst = sym (bursts n chan) ∙ h in cc);
      };
      shows = λ i. record { burst = λ n chan. bursts n chan i; past = λ n. pasts n i };
    }

-- ---- lists with one item changed

pub get_set_same : {X : Type 0} (xs : List X) (i : ℕ) (v : X) → i < length xs → slice_get (set xs i v) i ≡ Some v
get_set_same xs i v within = slice_get-get_or (set xs i v) i v (simp length-set (omega arith)) ∙ ap Some (get_or-set_same xs i v v within)

pub get_set_other : {X : Type 0} (xs : List X) (i j : ℕ) (v : X) → j ≢ i → slice_get (set xs i v) j ≡ slice_get xs j
get_set_other xs i j v ne =
    elim (nat_lt j (length xs)) as (λ b. nat_lt j (length xs) ≡ b → slice_get (set xs i v) j ≡ slice_get xs j) [
      | true ↦ λ h. let within : j < length xs = grind (arith, nat_tests) in
          slice_get-get_or (set xs i v) j v (simp length-set (omega arith)) ∙ ap Some (get_or-set_other xs i j v v ne) ∙ sym (slice_get-get_or xs j v within)
      | false ↦ λ h. let past : length xs ≤ j = grind (arith, nat_tests) in
          slice_get_past (set xs i v) j (simp length-set (omega arith)) ∙ sym (slice_get_past xs j past)
    ] refl

pub link_cases : (a b : ℕ) → (a ≡ b) ⊎ ((b ≢ a) × ((a == b) ≡ false))
link_cases a b = elim (a == b) as (λ t. (a == b) ≡ t → (a ≡ b) ⊎ ((b ≢ a) × ((a == b) ≡ false))) [
  | true ↦ λ h. inl (grind (arith, nat_tests))
  | false ↦ λ h. inr ((λ e. grind (arith, nat_tests)), h)
] refl

-- ---- one beat more

left_formed : (head : Beat) (missing : ℕ) (burst : Unfinished) → IsWellFormed head → left head missing ≡ Some burst → IsWellFormed burst.head
left_formed head missing burst formed =
    elim (nat_lt 0 missing) as (λ t. cond t (Some (record { head = head; missing = missing })) None ≡ Some burst → IsWellFormed burst.head) [
      | true ↦ λ h. subst IsWellFormed (ap (λ o. option_map_or (λ (u : Unfinished). u.head) o head) h) formed
      | false ↦ λ h. cc
    ]

after_formed : (link : LinkDecl) (beat : Beat) (slot : Option Unfinished) (burst : Unfinished) → IsWellFormed beat
    → ((b : Unfinished) → slot ≡ Some b → IsWellFormed b.head) → after_beat link beat slot ≡ Some burst → IsWellFormed burst.head
after_formed link beat None burst formed known h = left_formed beat _ burst formed h
after_formed link beat (Some b) burst formed known h = left_formed b.head _ burst (known b refl) h

with_flow : (exponent : ℕ) (past : LinkPast) (beat : Beat) (found : Option Op) → flow.flow_with past.flow beat found ≡ (past_with exponent past beat found).flow
with_flow exponent past beat None = refl
with_flow exponent past beat (Some o) = refl

module _ (m : Manager) (old new : SpanState) (p : Placed) (decl : LinkDecl) (place : ℕ) (link next : LinkState)
    (of : IsOf m old) (is : m.links p.link ≡ decl) (formed : IsWellFormed p.beat) (found : place_of p.link (managers.shown old.clients).clients ≡ Some place)
    (stood : slice_get old.links.items place ≡ Some link) (stepped : IsNext decl p.beat link next) (put : new.links.items ≡ set old.links.items place next)
    (numbered : (managers.shown new.clients).clients ≡ (managers.shown old.clients).clients) where
  at : link_of old p.link ≡ Some link
  at = ap (λ o. option_and_then (λ k. slice_get old.links.items k) o) found ∙ stood

  -- What is left of any link, by its place among the old numbers.
  now_of : (n : ℕ) → link_of new n ≡ option_and_then (λ k. slice_get (set old.links.items place next) k) (place_of n (managers.shown old.clients).clients)
  now_of n = λ i. option_and_then (λ k. slice_get (put i) k) (place_of n (numbered i))

  here : link_of new p.link ≡ Some next
  here = now_of p.link ∙ ap (λ o. option_and_then (λ k. slice_get (set old.links.items place next) k) o) found
      ∙ get_set_same old.links.items place next (slice_get_within old.links.items place link stood)

  there : (n : ℕ) → n ≢ p.link → link_of new n ≡ link_of old n
  there n ne = now_of n ∙ elim (place_of n (managers.shown old.clients).clients) as (λ o. place_of n (managers.shown old.clients).clients ≡ o
      → option_and_then (λ k. slice_get (set old.links.items place next) k) o ≡ option_and_then (λ k. slice_get old.links.items k) o) [
        | None ↦ λ e. refl
        | Some other ↦ λ e. get_set_other old.links.items place other next (λ same. ne (same_link (managers.shown old.clients).clients n p.link place (e ∙ ap Some same) found))
      ] refl

  own_burst : (chan : Chan) → burst_at new p.link chan ≡ (judged_next m (shown old) p).burst p.link chan
  own_burst chan =
      let same : (p.link == p.link) ≡ true = grind (arith, nat_tests) in
      ap (λ o. option_and_then (λ (s : LinkState). slot_at s.bursts chan) o) here ∙ stepped.bursts chan ∙ sym (rw (same, at, is) refl)

  pub bursts : (n : ℕ) (chan : Chan) → burst_at new n chan ≡ (judged_next m (shown old) p).burst n chan
  bursts n chan = elim (link_cases p.link n) [
    | inl e ↦ subst (λ k. burst_at new k chan ≡ (judged_next m (shown old) p).burst k chan) e (own_burst chan)
    | inr ne ↦ ap (λ o. option_and_then (λ (s : LinkState). slot_at s.bursts chan) o) (there n ne.0) ∙ sym (rw ne.1 refl)
  ]

  pub still_formed : AreFormed new
  still_formed n chan burst h =
      elim ((p.link == n) && same_chan p.beat.chan chan) as (λ t. cond t (after_beat (m.links n) p.beat (burst_at old n chan)) (burst_at old n chan) ≡ Some burst → IsWellFormed burst.head) [
        | true ↦ λ g. after_formed (m.links n) p.beat (burst_at old n chan) burst formed (of.formed n chan) g
        | false ↦ λ g. of.formed n chan burst g
      ] (sym (bursts n chan) ∙ h)

  many : length new.links.items ≡ length m.clients
  many = ap length put ∙ simp length-set refl ∙ of.links

  -- What is in flight after a head, and after a later beat.
  flow_here : flow_at new p.link ≡ cond (is_none (slot_at link.bursts p.beat.chan)) (flow.flow_with (flow_at old p.link) p.beat (message_of decl p.beat)) (flow_at old p.link)
  flow_here =
      ap (λ o. option_map_or (λ (s : LinkState). flow.shown s.flow) o (flow_past [])) here ∙ stepped.flow
      ∙ sym (ap (λ o. cond (is_none (slot_at link.bursts p.beat.chan)) (flow.flow_with (option_map_or (λ (s : LinkState). flow.shown s.flow) o (flow_past [])) p.beat (message_of decl p.beat))
      (option_map_or (λ (s : LinkState). flow.shown s.flow) o (flow_past []))) at)

  flow_there : (n : ℕ) → n ≢ p.link → flow_at new n ≡ flow_at old n
  flow_there n ne = ap (λ o. option_map_or (λ (s : LinkState). flow.shown s.flow) o (flow_past [])) (there n ne)

  slot_here : burst_at old p.link p.beat.chan ≡ slot_at link.bursts p.beat.chan
  slot_here = ap (λ o. option_and_then (λ (s : LinkState). slot_at s.bursts p.beat.chan) o) at

  -- After a head.
  module _ (head : slot_at link.bursts p.beat.chan ≡ None)
      (shows : managers.Shows m.clients m.exponent new.clients (pasts_with m.exponent p.link (past_at old) p.beat (message_of decl p.beat)))
      (counted : (managers.shown new.clients).count ≡ (managers.shown old.clients).count) where
    flows : (n : ℕ) → flow_at new n ≡ (pasts_with m.exponent p.link (past_at old) p.beat (message_of decl p.beat) n).flow
    flows n = elim (link_cases p.link n) [
      | inl e ↦ subst (λ k. flow_at new k ≡ (pasts_with m.exponent p.link (past_at old) p.beat (message_of decl p.beat) k).flow) e
          (let same : (p.link == p.link) ≡ true = grind (arith, nat_tests) in
          flow_here ∙ ap (λ o. cond (is_none o) (flow.flow_with (flow_at old p.link) p.beat (message_of decl p.beat)) (flow_at old p.link)) head
          ∙ with_flow m.exponent (past_at old p.link) p.beat (message_of decl p.beat)
          ∙ sym (ap (λ t. (cond t (past_with m.exponent (past_at old p.link) p.beat (message_of decl p.beat)) (past_at old p.link)).flow) same))
      | inr ne ↦ flow_there n ne.0 ∙ sym (ap (λ t. (cond t (past_with m.exponent (past_at old n) p.beat (message_of decl p.beat)) (past_at old n)).flow) ne.1)
    ]

    pasts : (n : ℕ) → past_at new n ≡ pasts_with m.exponent p.link (past_at old) p.beat (message_of decl p.beat) n
    pasts n = λ i. record { flow = flows n i; client = ap (λ (v : ClientView). v.past) (shows.each n) i }

    next_pasts : (n : ℕ) → pasts_with m.exponent p.link (past_at old) p.beat (message_of decl p.beat) n ≡ (judged_next m (shown old) p).past n
    next_pasts n = elim (link_cases p.link n) [
      | inl e ↦ subst (λ k. pasts_with m.exponent p.link (past_at old) p.beat (message_of decl p.beat) k ≡ (judged_next m (shown old) p).past k) e
          (let free : is_none (burst_at old p.link p.beat.chan) ≡ true = ap is_none (slot_here ∙ head) in
          let same : (p.link == p.link) ≡ true = grind (arith, nat_tests) in
          ap (λ t. cond t (past_with m.exponent (past_at old p.link) p.beat (message_of decl p.beat)) (past_at old p.link)) same
          ∙ ap (λ d. past_with m.exponent (past_at old p.link) p.beat (message_of d p.beat)) (sym is)
          ∙ sym (ap (λ t. cond t (past_with m.exponent (past_at old p.link) p.beat (message_of (m.links p.link) p.beat)) (past_at old p.link)) (ap (λ t. t && is_none (burst_at old p.link p.beat.chan)) same ∙ free)))
      | inr ne ↦ ap (λ t. cond t (past_with m.exponent (past_at old n) p.beat (message_of decl p.beat)) (past_at old n)) ne.1
          ∙ sym (ap (λ t. cond (t && is_none (burst_at old p.link p.beat.chan)) (past_with m.exponent (past_at old n) p.beat (message_of (m.links n) p.beat)) (past_at old n)) ne.1)
    ]

    pub head_next : IsOf m new × (shown new ≡ judged_next m (shown old) p)
    head_next = (
      record {
        clients = record { clients = shows.clients; exponent = shows.exponent; each = λ n. shows.each n ∙ ap (client_view m.exponent) (sym (pasts n)) };
        rises = of.rises;
        links = many;
        states = counted ∙ of.states;
        formed = still_formed;
      },
      λ i. record { burst = λ n chan. bursts n chan i; past = λ n. (pasts n ∙ next_pasts n) i },
    )

  -- After a later beat.
  module _ (burst : Unfinished) (later : slot_at link.bursts p.beat.chan ≡ Some burst) (kept : new.clients ≡ old.clients) where
    same_flows : (n : ℕ) → flow_at new n ≡ flow_at old n
    same_flows n = elim (link_cases p.link n) [
      | inl e ↦ subst (λ k. flow_at new k ≡ flow_at old k) e
          (flow_here ∙ ap (λ o. cond (is_none o) (flow.flow_with (flow_at old p.link) p.beat (message_of decl p.beat)) (flow_at old p.link)) later)
      | inr ne ↦ flow_there n ne.0
    ]

    same_pasts : (n : ℕ) → past_at new n ≡ past_at old n
    same_pasts n = λ i. record { flow = same_flows n i; client = ap (λ state. (client_at state n).past) kept i }

    judged_pasts : (n : ℕ) → past_at old n ≡ (judged_next m (shown old) p).past n
    judged_pasts n =
        let taken : is_none (burst_at old p.link p.beat.chan) ≡ false = ap is_none (slot_here ∙ later) in
        sym (elim (p.link == n) as (λ t. cond (t && is_none (burst_at old p.link p.beat.chan)) (past_with m.exponent (past_at old n) p.beat (message_of (m.links n) p.beat)) (past_at old n) ≡ past_at old n) [
          | true ↦ ap (λ t. cond t (past_with m.exponent (past_at old n) p.beat (message_of (m.links n) p.beat)) (past_at old n)) taken
          | false ↦ refl
        ])

    pub later_next : IsOf m new × (shown new ≡ judged_next m (shown old) p)
    later_next = (
      record {
        clients = record {
          clients = ap (λ state. (managers.shown state).clients) kept ∙ of.clients.clients;
          exponent = ap (λ state. (managers.shown state).exponent) kept ∙ of.clients.exponent;
          each = λ n. ap (λ state. client_at state n) kept ∙ of.clients.each n ∙ ap (client_view m.exponent) (sym (same_pasts n));
        };
        rises = of.rises;
        links = many;
        states = ap (λ state. (managers.shown state).count) kept ∙ of.states;
        formed = still_formed;
      },
      λ i. record { burst = λ n chan. bursts n chan i; past = λ n. (same_pasts n ∙ judged_pasts n) i },
    )

-- A state of a manager has each of its links.
pub has_link : (m : Manager) (state : SpanState) → IsOf m state → (link : ℕ) → Contains m.clients link → HasLink state link
has_link m state of link has =
    let found = contained_place m.clients link of.rises has in
    let many = of.states in
    let most = of.links in
    (found.0, ap (place_of link) of.clients.clients ∙ found.1, omega (arith, many, found.2), omega (arith, most, found.2))

-- ---- states that show the same

picked : (xs ys : List LinkState) → SameItems SameLink xs ys → (n : ℕ) → SameOption SameLink (slice_get xs n) (slice_get ys n)
picked xs ys same n =
    elim (slice_get xs n) as (λ o. slice_get xs n ≡ o → SameOption SameLink o (slice_get ys n)) [
      | None ↦ λ e. elim (nat_lt n (length ys)) as (λ b. nat_lt n (length ys) ≡ b → SameOption SameLink None (slice_get ys n)) [
        | true ↦ λ h. elim (slice_get ys n) as (λ o. slice_get ys n ≡ o → SameOption SameLink None o) [
          | None ↦ λ g. tt
          | Some y ↦ λ g. (let within : n < length xs = (let count = same.count in grind (arith, nat_tests)) in
              let some : None ≡ Some (get_or xs n y) = sym e ∙ slice_get-get_or xs n y within in cc)
        ] refl
        | false ↦ λ h. (let past : length ys ≤ n = grind (arith, nat_tests) in subst (SameOption SameLink None) (sym (slice_get_past ys n past)) tt)
      ] refl
      | Some x ↦ λ e. (let within : n < length xs = slice_get_within xs n x e in
          let across : n < length ys = (let count = same.count in omega arith) in
          let first : Some (get_or xs n x) ≡ Some x = sym (slice_get-get_or xs n x within) ∙ e in
          let one : get_or xs n x ≡ x = ap (λ o. option_map_or (λ (s : LinkState). s) o x) first in
          subst (SameOption SameLink (Some x)) (sym (slice_get-get_or ys n x across)) (subst (λ s. SameLink s (get_or ys n x)) one (same.each n x within)))
    ] refl

same_slots : (o q : Option LinkState) (chan : Chan) → SameOption SameLink o q → option_and_then (λ (s : LinkState). slot_at s.bursts chan) o ≡ option_and_then (λ (s : LinkState). slot_at s.bursts chan) q
same_slots None None chan same = refl
same_slots None (Some y) chan same = absurd same
same_slots (Some x) None chan same = absurd same
same_slots (Some x) (Some y) chan same = same.bursts chan

same_flow : (o q : Option LinkState) → SameOption SameLink o q
    → option_map_or (λ (s : LinkState). flow.shown s.flow) o (flow_past []) ≡ option_map_or (λ (s : LinkState). flow.shown s.flow) q (flow_past [])
same_flow None None same = refl
same_flow None (Some y) same = absurd same
same_flow (Some x) None same = absurd same
same_flow (Some x) (Some y) same = same.flow

picked_of : (xs ys : List LinkState) → SameItems SameLink xs ys → (o : Option ℕ) → SameOption SameLink (option_and_then (λ k. slice_get xs k) o) (option_and_then (λ k. slice_get ys k) o)
picked_of xs ys same None = tt
picked_of xs ys same (Some n) = picked xs ys same n

-- What is left of a link in states that are the same.
link_same : (one two : SpanState) → SameSpan one two → (n : ℕ) → SameOption SameLink (link_of one n) (link_of two n)
link_same one two same n =
    subst (λ numbers. SameOption SameLink (link_of one n) (option_and_then (λ k. slice_get two.links.items k) (place_of n numbers))) (ap (λ (v : ManagerView). v.clients) same.clients)
    (picked_of one.links.items two.links.items same.links (place_of n (managers.shown one.clients).clients))

pub same_shown : (one two : SpanState) → SameSpan one two → shown one ≡ shown two
same_shown one two same = λ i. record {
  burst = λ n chan. same_slots (link_of one n) (link_of two n) chan (link_same one two same n) i;
  past = λ n. record {
    flow = same_flow (link_of one n) (link_of two n) (link_same one two same n) i;
    client = ap (λ (v : ManagerView). (client_in v n).past) same.clients i;
  };
}

pub same_is_of : (m : Manager) (one two : SpanState) → IsOf m one → SameSpan one two → IsOf m two
same_is_of m one two of same = record {
  clients = record {
    clients = ap (λ (v : ManagerView). v.clients) (sym same.clients) ∙ of.clients.clients;
    exponent = ap (λ (v : ManagerView). v.exponent) (sym same.clients) ∙ of.clients.exponent;
    each = λ n. ap (λ (v : ManagerView). client_in v n) (sym same.clients) ∙ of.clients.each n ∙ ap (λ (s : Snapshot). client_view m.exponent (s.past n)) (same_shown one two same);
  };
  rises = of.rises;
  links = sym same.links.count ∙ of.links;
  states = ap (λ (v : ManagerView). v.count) (sym same.clients) ∙ of.states;
  formed = λ n chan burst h. of.formed n chan burst (ap (λ (s : Snapshot). s.burst n chan) (same_shown one two same) ∙ h);
}

-- A state with other clients, which show the same.
pub same_back : (one two : SpanState) → SameSpan one two → SameSpan two one
same_back one two same = record {
  links = record {
    count = sym same.links.count;
    each = λ n d within.
        let inside : n < length one.links.items = (let many = same.links.count in omega (arith, many, within)) in
        let link = same.links.each n d inside in
        record { bursts = λ chan. sym (link.bursts chan); flow = sym link.flow };
  };
  clients = sym same.clients;
}

pub same_clients : (state : SpanState) (clients : ManagerState) → managers.SameManager state.clients clients → SameSpan state (record { links = state.links; clients = clients })
same_clients state clients same = record {
  links = record { count = refl; each = λ n d within. record { bursts = λ chan. refl; flow = refl } };
  clients = same;
}

-- ---- states of one manager that show the same

module _ (m : Manager) (state : SpanState) (of : IsOf m state) where
  -- The link at a place, and its place.
  placed : (k d : ℕ) → k < length m.clients → place_of (get_or m.clients k d) (managers.shown state.clients).clients ≡ Some k
  placed k d within = ap (place_of (get_or m.clients k d)) of.clients.clients ∙ placed_at m.clients (get_or m.clients k d) k of.rises (slice_get-get_or m.clients k d within)

  stands_at : (k : ℕ) (d : LinkState) → k < length m.clients → link_of state (get_or m.clients k 0) ≡ Some (get_or state.links.items k d)
  stands_at k d within = ap (λ o. option_and_then (λ place. slice_get state.links.items place) o) (placed k 0 within)
      ∙ slice_get-get_or state.links.items k d (let many = of.links in omega (arith, many, within))

  client_there_at : (k : ℕ) → k < length m.clients → client_at state.clients (get_or m.clients k 0) ≡ client_there state.clients k
  client_there_at k within = ap (λ o. option_map_or (client_there state.clients) o (opening_view (managers.shown state.clients).exponent)) (placed k 0 within)

  -- Past the last place nothing stands.
  client_past : (k : ℕ) → length m.clients ≤ k → client_there state.clients k ≡ opening_view m.exponent
  client_past k past = ap (λ o. option_map_or client_state.shown o (opening_view (managers.shown state.clients).exponent)) (slice_get_past state.clients.states.items k (let many = of.states in omega (arith, many, past)))
      ∙ ap opening_view of.clients.exponent

-- Two states of one manager are the same exactly where they show the same.
pub shown_same : (m : Manager) (one two : SpanState) → IsOf m one → IsOf m two → shown one ≡ shown two → SameSpan one two
shown_same m one two first second same = record {
  links = record {
    count = first.links ∙ sym second.links;
    each = λ k d within.
        let inside : k < length m.clients = (let many = first.links in omega (arith, many, within)) in
        let link : ℕ = get_or m.clients k 0 in
        let here : link_of one link ≡ Some (get_or one.links.items k d) = stands_at m one first k d inside in
        let there : link_of two link ≡ Some (get_or two.links.items k d) = stands_at m two second k d inside in
        record {
          bursts = λ chan. sym (ap (λ o. option_and_then (λ (s : LinkState). slot_at s.bursts chan) o) here) ∙ ap (λ (s : Snapshot). s.burst link chan) same
              ∙ ap (λ o. option_and_then (λ (s : LinkState). slot_at s.bursts chan) o) there;
          flow = sym (ap (λ o. option_map_or (λ (s : LinkState). flow.shown s.flow) o (flow_past [])) here) ∙ ap (λ (s : Snapshot). (s.past link).flow) same
              ∙ ap (λ o. option_map_or (λ (s : LinkState). flow.shown s.flow) o (flow_past [])) there;
        };
  };
  clients = λ i. record {
    clients = (first.clients.clients ∙ sym second.clients.clients) i;
    exponent = (first.clients.exponent ∙ sym second.clients.exponent) i;
    count = (first.states ∙ sym second.states) i;
    client = λ k. client_same k i;
  };
}
  where
    client_same : (k : ℕ) → client_there one.clients k ≡ client_there two.clients k
    client_same k = elim (nat_lt k (length m.clients)) as (λ b. nat_lt k (length m.clients) ≡ b → client_there one.clients k ≡ client_there two.clients k) [
      | true ↦ λ e. (let inside : k < length m.clients = grind (arith, nat_tests) in
          let link : ℕ = get_or m.clients k 0 in
          sym (client_there_at m one first k inside) ∙ first.clients.each link ∙ ap (λ (s : Snapshot). client_view m.exponent (s.past link)) same
          ∙ sym (second.clients.each link) ∙ client_there_at m two second k inside)
      | false ↦ λ e. (let past : length m.clients ≤ k = grind (arith, nat_tests) in client_past m one first k past ∙ sym (client_past m two second k past))
    ] refl
