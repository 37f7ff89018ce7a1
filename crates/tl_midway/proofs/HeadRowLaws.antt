-- The rows of a certain head, by what the state shows of all links.
use Rattle.std.proofs.Common.{◌≡◌, ℕ, ◌==◌, ◌&&◌, ◌||◌, Bool, true, false, List, [], ◌∷◌, ◌++◌, map, get_or, Option, Some, None, refl, sym, ap, subst, ◌∙◌, append_assoc}
use Rattle.std.specs.Prelude.{not, filter, is_some}
use Rattle.std.specs.List.{All, list_any}
use Rattle.std.specs.Option.{option_map_or}
use Rattle.std.proofs.lemmas.List.{map-append}
use Rattle.std.proofs.lemmas.List.Elements.{All-head, All-tail}
use Rattle.tl_tables.specs.declared.Op.{Op}
use Rattle.tl_tables.specs.declared.Perm.{Perm}
use Rattle.tl_tables.specs.declared.Rule.{Rule}
use Rattle.tl_tables.specs.declared.Rule.TheVariants as rule
use Rattle.tl_tables.specs.Kinds.{conflicts, is_grant, is_probe}
use Rattle.tl_topology.specs.Regions.{Area}
use Rattle.tl_topology.specs.declared.LinkDecl.{LinkDecl}
use Rattle.tl_beats.specs.declared.Placed.{Placed}
use Rattle.tl_beats.specs.declared.Request.{Request}
use Rattle.tl_beats.specs.declared.Row.{Row}
use Rattle.tl_definitions.specs.Heads.{message_of}
use Rattle.tl_definitions.specs.Messages.{Message, block_of, claim, granted_block}
use Rattle.tl_definitions.specs.Rules.{Manager, format_rules, flow_order, permission_order, manager_order}
use Rattle.tl_definitions.specs.Breaks.{row_of}
use Rattle.tl_definitions.specs.Known.{Known, Beginning, KnownPast, surely, bare, answering, known_request, readings_of, known_pasts}
use Rattle.tl_definitions.specs.Printed.{Front, front, every_bound, conflicts_surely, grant_open, breaks_flow_surely, breaks_manager_surely, printed_rules}
use Rattle.tl_client_rules.specs.Clients.{place_of}
use Rattle.tl_midway.specs.KnownLink as known_link
use Rattle.tl_midway.specs.KnownLink.{shown, has_open_grant, breaks_shown_flow, permission_surely}
use Rattle.tl_midway.specs.ManagerReadings.{HasPlace}
use Rattle.tl_midway.specs.KnownPasts.{numbers_of, StandsFor, MayBegin, conflicts_shown, probe_shown, grant_shown, breaks_shown_manager, message_broken}
use Rattle.tl_midway.specs.declared.known_link.KnownLink.{KnownLink}
use Rattle.tl_midway.specs.declared.known_pasts.LinkPast.{LinkPast}
use Rattle.tl_midway.specs.declared.known_pasts.KnownPasts.{KnownPasts}
use Rattle.tl_midway.proofs.MemberLaws.{any_mapped}
use Rattle.tl_midway.proofs.StandLaws.{grant_stands}
use Rattle.tl_midway.proofs.PlaceLaws.{inside, own_number}
use Rattle.tl_midway.proofs.PrintedLaws.{head_broken, head_printed}

any_each : {X : Type 0} (test other : X → Bool) (xs : List X) → All (λ x. test x ≡ other x) xs → list_any test xs ≡ list_any other xs
any_each test other [] same = refl
any_each test other (x ∷ xs) same =
    let here : test x ≡ other x = All-head (λ y. test y ≡ other y) x xs same in
    let rest : list_any test xs ≡ list_any other xs = any_each test other xs (All-tail (λ y. test y ≡ other y) x xs same) in
    λ i. here i || rest i

abbrev number : LinkPast → ℕ
number link = link.number

module _ (m : Manager) (start : Beginning) (before : List Placed) (state : KnownPasts) (stands : StandsFor m start state before) where
  abbrev pasts : ℕ → KnownPast
  pasts = known_pasts m start before

  abbrev f : Front
  f = front m start before

  -- What is asked of any client is asked of any link that the state has.
  pub over_clients : (test : LinkPast → Bool) (of : ℕ → Bool) → ((link : LinkPast) → known_link.StandsFor m start link.number link.past before → test link ≡ of link.number)
      → list_any test state.links.items ≡ list_any of m.clients
  over_clients test of same =
      any_each test (λ link. of link.number) state.links.items (λ k d below. same (get_or state.links.items k d) (stands.each k d below))
      ∙ sym (any_mapped of number state.links.items) ∙ ap (list_any of) stands.clients

  conflict_stands : (link : ℕ) (claimed : ℕ × Perm) → conflicts_shown state link claimed ≡ conflicts_surely m.clients pasts link claimed
  conflict_stands link (block, set) =
      over_clients (λ own. not (own.number == link) && every_bound (conflicts set) ((shown own.past).client.bound block))
      (λ client. not (client == link) && every_bound (conflicts set) ((pasts client).client.bound block))
      (λ own stood. ap (λ (past : KnownPast). not (own.number == link) && every_bound (conflicts set) (past.client.bound block)) stood.shows)

  probe_stands : (block : ℕ) → probe_shown state block ≡ list_any (λ client. surely is_some ((pasts client).client.probe block)) m.clients
  probe_stands block =
      over_clients (λ own. surely is_some ((shown own.past).client.probe block)) (λ client. surely is_some ((pasts client).client.probe block))
      (λ own stood. ap (λ (past : KnownPast). surely is_some (past.client.probe block)) stood.shows)

  grant_is : (block : ℕ) → grant_shown state block ≡ list_any (λ client. grant_open f client block) m.clients
  grant_is block =
      over_clients (λ own. has_open_grant own.past block) (λ client. grant_open f client block)
      (λ own stood. grant_stands m start own.number before own.past block stood)

  pub across_stands : (link : ℕ) (request : Known (Option Request)) (message : Message) (r : Rule)
      → breaks_shown_manager state link request message r ≡ breaks_manager_surely m.clients m.exponent pasts (grant_open f) link request message r
  across_stands link request message rule.M1 =
      λ i. is_grant message.op && surely (λ answered. option_map_or (λ claimed. conflict_stands link claimed i) (claim (stands.exponent i) (answering message answered)) false) request
  across_stands link request message rule.M2 =
      λ i. is_grant message.op && surely (λ answered. option_map_or (λ block. probe_stands block i) (granted_block (stands.exponent i) (answering message answered)) false) request
  across_stands link request message rule.M3 =
      ap (λ b. is_probe message.op && b) (ap (λ e. grant_shown state (block_of e message)) stands.exponent ∙ grant_is (block_of m.exponent message))
  across_stands link request message _ = refl

  across_rules : (link : ℕ) (request asked : Known (Option Request)) (message : Message) → request ≡ asked
      → filter (breaks_shown_manager state link request message) manager_order ≡ filter (breaks_manager_surely m.clients m.exponent pasts (grant_open f) link asked message) manager_order
  across_rules link request asked message is =
      let same : breaks_shown_manager state link request message ≡ breaks_manager_surely m.clients m.exponent pasts (grant_open f) link request message = λ i r. across_stands link request message r i in
      ap (λ broken. filter broken manager_order) same
      ∙ ap (λ q. filter (breaks_manager_surely m.clients m.exponent pasts (grant_open f) link q message) manager_order) is

  -- The state of a link, as the code finds it.
  pub found_stands : (p : Placed) (place : ℕ) (own : LinkPast) → place_of p.link (numbers_of state) ≡ Some place → HasPlace (numbers_of state) p.link
      → own ≡ get_or state.links.items place own → known_link.StandsFor m start p.link own.past before
  found_stands p place own at has here =
      let within = inside number state.links.items p.link place has at in
      subst (λ n. known_link.StandsFor m start n own.past before) (own_number number state.links.items p.link place own at within here)
      (subst (λ (s : LinkPast). known_link.StandsFor m start s.number s.past before) (sym here) (stands.each place own within))

  -- The rules of its messages: those of flow, of permissions and over all links.
  pub rules_are : (strict : Bool) (link : ℕ) (own : KnownLink) (message : Message) (request : Known (Option Request)) (flow permissions across : List Rule) → known_link.StandsFor m start link own before
      → flow ≡ filter (breaks_shown_flow own message) flow_order → permissions ≡ filter (permission_surely strict m f link message) permission_order
      → request ≡ known_request (shown own).flow message → across ≡ filter (breaks_shown_manager state link request message) manager_order
      → flow ++ permissions ++ across ≡ message_broken strict m f link message
  rules_are strict link own message request flow permissions across stood one two asked three =
      let first = one ∙ ap (λ (past : KnownPast). filter (breaks_flow_surely past.flow (known_request past.flow message) message) flow_order) stood.shows in
      let third = three ∙ across_rules link request (known_request (pasts link).flow message) message (asked ∙ ap (λ (past : KnownPast). known_request past.flow message) stood.shows) in
      λ i. first i ++ two i ++ third i

-- ---- rows

pub put_two : (p : Placed) (xs ys : List Rule) (r0 r1 r2 : List Row) → r1 ≡ r0 ++ map (row_of p) xs → r2 ≡ r1 ++ map (row_of p) ys → r2 ≡ r0 ++ map (row_of p) (xs ++ ys)
put_two p xs ys r0 r1 r2 one two =
    two ∙ ap (λ rows. rows ++ map (row_of p) ys) one ∙ append_assoc r0 (map (row_of p) xs) (map (row_of p) ys) ∙ ap (λ rows. r0 ++ rows) (sym (map-append (row_of p) xs ys))

pub put_three : (p : Placed) (xs ys zs total : List Rule) (r0 r1 r2 r3 : List Row) → xs ++ ys ++ zs ≡ total → r1 ≡ r0 ++ map (row_of p) xs → r2 ≡ r1 ++ map (row_of p) ys
    → r3 ≡ r2 ++ map (row_of p) zs → r3 ≡ r0 ++ map (row_of p) total
put_three p xs ys zs total r0 r1 r2 r3 are one two three =
    put_two p (xs ++ ys) zs r0 r2 r3 (put_two p xs ys r0 r1 r2 one two) three ∙ ap (λ rules. r0 ++ map (row_of p) rules) are

module _ (m : Manager) (start : Beginning) (before : List Placed) (p : Placed) (link : LinkDecl) (exponent : ℕ) (areas : List Area) (format : List Rule)
    (begins : MayBegin m start before p true link) (power : exponent ≡ m.exponent) (regions : m.regions ≡ areas) (is : format ≡ format_rules exponent areas link p.beat (message_of link p.beat)) where
  printed : printed_rules m start before p ≡ head_broken m (front m start before) p (message_of (m.links p.link) p.beat)
  printed = head_printed m (front m start before) p (readings_of m start before p) begins.must begins.may

  served : format ≡ format_rules m.exponent m.regions (m.links p.link) p.beat (message_of (m.links p.link) p.beat)
  served = is
      ∙ ap (λ e. format_rules e areas link p.beat (message_of link p.beat)) power
      ∙ ap (λ xs. format_rules m.exponent xs link p.beat (message_of link p.beat)) (sym regions)
      ∙ ap (λ d. format_rules m.exponent m.regions d p.beat (message_of d p.beat)) (sym begins.declared)

  message_is : (found : Option Op) → message_of link p.beat ≡ found → message_of (m.links p.link) p.beat ≡ found
  message_is found at = ap (λ d. message_of d p.beat) begins.declared ∙ at

  pub without_message : (r0 r1 : List Row) → message_of link p.beat ≡ None → r1 ≡ r0 ++ map (row_of p) format → r1 ≡ r0 ++ map (row_of p) (printed_rules m start before p)
  without_message r0 r1 at put =
      put ∙ ap (λ rules. r0 ++ map (row_of p) rules)
      (served ∙ ap (format_rules m.exponent m.regions (m.links p.link) p.beat) (message_is None at) ∙ sym (printed ∙ ap (head_broken m (front m start before) p) (message_is None at)))

  pub with_message : (o : Op) (r0 r1 r2 : List Row) → message_of link p.beat ≡ Some o → r1 ≡ r0 ++ map (row_of p) format
      → r2 ≡ r1 ++ map (row_of p) (message_broken link.strict m (front m start before) p.link (bare o p.beat)) → r2 ≡ r0 ++ map (row_of p) (printed_rules m start before p)
  with_message o r0 r1 r2 at one two =
      let more : List Rule = message_broken link.strict m (front m start before) p.link (bare o p.beat) in
      put_two p format more r0 r1 r2 one two
      ∙ ap (λ rules. r0 ++ map (row_of p) rules)
      (ap (λ rules. rules ++ more) (served ∙ ap (format_rules m.exponent m.regions (m.links p.link) p.beat) (message_is (Some o) at))
      ∙ ap (λ (d : LinkDecl). format_rules m.exponent m.regions (m.links p.link) p.beat (Some o) ++ message_broken d.strict m (front m start before) p.link (bare o p.beat)) (sym begins.declared)
      ∙ sym (printed ∙ ap (head_broken m (front m start before) p) (message_is (Some o) at)))
