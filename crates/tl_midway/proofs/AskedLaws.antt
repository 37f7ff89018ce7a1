-- What rules ask about of a head: by what the states of links show, it is what the definitions have.
use Rattle.std.proofs.Common.{◌≡◌, ℕ, ◌==◌, ◌&&◌, ◌||◌, Bool, true, false, List, Option, refl, sym, ap, ◌∙◌, cond, None}
use Rattle.std.specs.Prelude.{not}
use Rattle.std.specs.List.{list_any}
use Rattle.std.specs.Option.{option_map_or}
use Rattle.tl_tables.specs.declared.Perm.{Perm}
use Rattle.tl_tables.specs.declared.Rule.{Rule}
use Rattle.tl_tables.specs.declared.Rule.TheVariants as rule
use Rattle.tl_tables.specs.Kinds.{conflicts, is_acquire, is_probe, is_probe_ack, is_release, is_grant, is_release_ack, is_grant_ack}
use Rattle.tl_tables.specs.declared.Op.{Op}
use Rattle.tl_topology.specs.declared.LinkDecl.{LinkDecl}
use Rattle.tl_definitions.specs.Heads.{message_of}
use Rattle.tl_beats.specs.declared.Placed.{Placed}
use Rattle.tl_beats.specs.declared.Request.{Request}
use Rattle.tl_definitions.specs.Messages.{Message, claim, granted_block}
use Rattle.tl_definitions.specs.Known.{Known, known, bare, Beginning, KnownPast, answering, known_request, known_pasts}
use Rattle.tl_definitions.specs.Printed.{front, grant_open, breaks_flow_surely, breaks_manager_surely}
use Rattle.tl_definitions.specs.Rules.{Manager}
use Rattle.tl_midway.specs.Asked.{is_plain, forbidden_shown, hidden_shown, asks_shown_manager}
use Rattle.tl_midway.specs.KnownLink as known_link
use Rattle.tl_midway.specs.KnownLink.{shown, breaks_shown_flow, breaks_shown_permission, permission_surely}
use Rattle.tl_midway.specs.KnownPasts.{StandsFor, breaks_shown_manager}
use Rattle.tl_midway.specs.Unjudged.{is_unknown, some_bound, maybe, asks_flow, asks_permission, may_conflict, asks_manager, asks}
use Rattle.tl_midway.specs.declared.known_link.KnownLink.{KnownLink}
use Rattle.tl_midway.specs.declared.known_pasts.KnownPasts.{KnownPasts}
use Rattle.tl_midway.proofs.HeadRowLaws.{over_clients, across_stands}
use Rattle.tl_midway.proofs.StandLaws.{permission_stands}
use Rattle.tl_tables.specs.declared.Chan.TheVariants as chan
use Rattle.tl_tables.specs.Messages.{same_chan}
use Rattle.tl_beats.specs.declared.Beat.{Beat}
use Rattle.tl_definitions.proofs.Sure.{and_parts}

-- ---- an answer of two parts

-- The first part is true; it isn't, so the answer is the second.
pub first_is : (a b c d e f : Bool) → a ≡ (c || d) → c ≡ e → d ≡ f → a ≡ true → a ≡ (e || f || b)
first_is a b c d e f is one two h = is ∙ (λ i. one i || two i) ∙ sym (or_more (e || f) b (sym (λ i. one i || two i) ∙ sym is ∙ h))
  where
    or_more : (x y : Bool) → x ≡ true → (x || y) ≡ x
    or_more true y g = refl
    or_more false y g = cc

pub second_is : (a b c d e f g : Bool) → a ≡ (c || d) → c ≡ e → d ≡ f → a ≡ false → b ≡ g → b ≡ (e || f || g)
second_is a b c d e f g is one two h last = last ∙ sym (nothing (e || f) g (sym (λ i. one i || two i) ∙ sym is ∙ h))
  where
    nothing : (x y : Bool) → x ≡ false → (x || y) ≡ y
    nothing true y k = cc
    nothing false y k = refl

module _ (m : Manager) (start : Beginning) (before : List Placed) (state : KnownPasts) (stands : StandsFor m start state before) where
  abbrev pasts : ℕ → KnownPast
  pasts = known_pasts m start before

  forbidden_stands : (link : ℕ) (claimed : ℕ × Perm) → forbidden_shown state link claimed ≡ may_conflict m.clients pasts link claimed
  forbidden_stands link (block, set) =
      over_clients m start before state stands (λ own. not (own.number == link) && some_bound (conflicts set) ((shown own.past).client.bound block))
      (λ client. not (client == link) && some_bound (conflicts set) ((pasts client).client.bound block))
      (λ own stood. ap (λ (past : KnownPast). not (own.number == link) && some_bound (conflicts set) (past.client.bound block)) stood.shows)

  hidden_stands : (block : ℕ) → hidden_shown state block ≡ list_any (λ client. is_unknown ((pasts client).client.probe block)) m.clients
  hidden_stands block =
      over_clients m start before state stands (λ own. is_unknown ((shown own.past).client.probe block)) (λ client. is_unknown ((pasts client).client.probe block))
      (λ own stood. ap (λ (past : KnownPast). is_unknown (past.client.probe block)) stood.shows)

  asked_stands : (link : ℕ) (request : Known (Option Request)) (message : Message) (r : Rule)
      → asks_shown_manager state link request message r ≡ asks_manager m.clients m.exponent pasts link request message r
  asked_stands link request message rule.M1 =
      λ i. is_grant message.op && maybe (λ answered. option_map_or (λ claimed. forbidden_stands link claimed i) (claim (stands.exponent i) (answering message answered)) false) request
  asked_stands link request message rule.M2 =
      λ i. is_grant message.op && maybe (λ answered. option_map_or (λ block. hidden_stands block i) (granted_block (stands.exponent i) (answering message answered)) false) request
  asked_stands link request message rule.M3 = refl
  asked_stands link request message _ = refl

  module _ (link : ℕ) (own : KnownLink) (stood : known_link.StandsFor m start link own before) (strict : Bool) (is : (m.links link).strict ≡ strict) (message : Message) (r : Rule) where
    abbrev request : Known (Option Request)
    request = known_request (pasts link).flow message

    pub flow_asks : asks_flow (shown own).flow (known_request (shown own).flow message) message r ≡ asks_flow (pasts link).flow request message r
    flow_asks = ap (λ (past : KnownPast). asks_flow past.flow (known_request past.flow message) message r) stood.shows

    pub permission_asks : asks_permission strict own.exponent (shown own).client message r ≡ asks_permission (m.links link).strict m.exponent (pasts link).client message r
    permission_asks =
        ap (λ s. asks_permission s own.exponent (shown own).client message r) (sym is)
        ∙ ap (λ e. asks_permission (m.links link).strict e (shown own).client message r) stood.exponent
        ∙ ap (λ (past : KnownPast). asks_permission (m.links link).strict m.exponent past.client message r) stood.shows

    pub manager_asks : (asked : Known (Option Request)) → asked ≡ known_request (shown own).flow message
        → asks_shown_manager state link asked message r ≡ asks_manager m.clients m.exponent pasts link request message r
    manager_asks asked e =
        asked_stands link asked message r
        ∙ ap (λ q. asks_manager m.clients m.exponent pasts link q message r) (e ∙ ap (λ (past : KnownPast). known_request past.flow message) stood.shows)

    pub flow_breaks : breaks_shown_flow own message r ≡ breaks_flow_surely (pasts link).flow request message r
    flow_breaks = ap (λ (past : KnownPast). breaks_flow_surely past.flow (known_request past.flow message) message r) stood.shows

    pub permission_breaks : breaks_shown_permission strict own message r ≡ permission_surely (m.links link).strict m (front m start before) link message r
    permission_breaks =
        permission_stands m start link before own strict message r stood ∙ ap (λ s. permission_surely s m (front m start before) link message r) (sym is)

    pub manager_breaks : (asked : Known (Option Request)) → asked ≡ known_request (shown own).flow message
        → breaks_shown_manager state link asked message r ≡ breaks_manager_surely m.clients m.exponent pasts (grant_open (front m start before)) link request message r
    manager_breaks asked e =
        across_stands m start before state stands link asked message r
        ∙ ap (λ q. breaks_manager_surely m.clients m.exponent pasts (grant_open (front m start before)) link q message r) (e ∙ ap (λ (past : KnownPast). known_request past.flow message) stood.shows)

-- ---- a head, by its message

module _ (m : Manager) (start : Beginning) (before : List Placed) (p : Placed) (link : LinkDecl) (declared : m.links p.link ≡ link) (r : Rule) (at : Op → Bool) where
  -- What is answered of each message is answered of the beat's.
  pub of_message : (found : Option Op) → message_of link p.beat ≡ found → option_map_or at (message_of (m.links p.link) p.beat) false ≡ option_map_or at found false
  of_message found e = ap (λ d. option_map_or at (message_of d p.beat) false) declared ∙ ap (λ f. option_map_or at f false) e

pub strict_is : (m : Manager) (n : ℕ) (link : LinkDecl) → m.links n ≡ link → (m.links n).strict ≡ link.strict
strict_is m n link declared = ap (λ (d : LinkDecl). d.strict) declared

-- ---- a plain message whose source is known

hidden_not : (b : Bool) → not b ≡ true → b ≡ false
hidden_not true h = cc
hidden_not false h = refl

neither : (a b : Bool) → (a || b) ≡ false → (a ≡ false) × (b ≡ false)
neither false b h = (refl, h)
neither true b h = cc

no_first : (a b : Bool) → a ≡ false → (a && b) ≡ false
no_first true b h = cc
no_first false b h = refl

no_second : (a b : Bool) → b ≡ false → (a && b) ≡ false
no_second true b h = h
no_second false b h = refl

none_of : (a b c : Bool) → a ≡ false → b ≡ false → c ≡ false → (a || b || c) ≡ false
none_of true b c f g h = cc
none_of false true c f g h = cc
none_of false false c f g h = h

answered_known : (on_d ack : Bool) (release source : Known (Option Request)) → ack ≡ false → is_unknown source ≡ false → is_unknown (cond on_d (cond ack release source) (known None)) ≡ false
answered_known true true release source f g = cc
answered_known true false release source f g = g
answered_known false ack release source f g = refl

pub plain_asks : (m : Manager) (pasts : ℕ → KnownPast) (link : ℕ) (o : Op) (beat : Beat) (r : Rule) → (is_plain o && not (is_unknown ((pasts link).flow.source beat.source))) ≡ true → asks m pasts link (bare o beat) r ≡ false
plain_asks m pasts link o beat r h =
    let parts = and_parts (is_plain o) (not (is_unknown ((pasts link).flow.source beat.source))) h in
    let sure : is_unknown ((pasts link).flow.source beat.source) ≡ false = hidden_not _ parts.1 in
    let six = neither (is_acquire o || is_probe o || is_probe_ack o || is_release o || is_grant o || is_release_ack o) (is_grant_ack o) (hidden_not _ parts.0) in
    let five = neither (is_acquire o || is_probe o || is_probe_ack o || is_release o || is_grant o) (is_release_ack o) six.0 in
    let four = neither (is_acquire o || is_probe o || is_probe_ack o || is_release o) (is_grant o) five.0 in
    let three = neither (is_acquire o || is_probe o || is_probe_ack o) (is_release o) four.0 in
    let two = neither (is_acquire o || is_probe o) (is_probe_ack o) three.0 in
    let one = neither (is_acquire o) (is_probe o) two.0 in
    by sure one.0 one.1 two.1 three.1 four.1 five.1 six.1 r
  where
    request : Known (Option Request)
    request = known_request (pasts link).flow (bare o beat)

    by : is_unknown ((pasts link).flow.source beat.source) ≡ false → is_acquire o ≡ false → is_probe o ≡ false → is_probe_ack o ≡ false → is_release o ≡ false → is_grant o ≡ false
        → is_release_ack o ≡ false → is_grant_ack o ≡ false → (r : Rule) → asks m pasts link (bare o beat) r ≡ false
    by sure acquire probe ack release grant acked granted rule.S1 = none_of _ false false (no_second _ _ sure) refl refl
    by sure acquire probe ack release grant acked granted rule.S2 =
        none_of _ false false (no_second _ _ (answered_known (same_chan beat.chan chan.D) (is_release_ack o) ((pasts link).flow.release beat.source) ((pasts link).flow.source beat.source) acked sure)) refl refl
    by sure acquire probe ack release grant acked granted rule.S3 =
        none_of _ false false (no_second _ _ (answered_known (same_chan beat.chan chan.D) (is_release_ack o) ((pasts link).flow.release beat.source) ((pasts link).flow.source beat.source) acked sure)) refl refl
    by sure acquire probe ack release grant acked granted rule.S4 =
        none_of _ false false (no_second _ _ (answered_known (same_chan beat.chan chan.D) (is_release_ack o) ((pasts link).flow.release beat.source) ((pasts link).flow.source beat.source) acked sure)) refl refl
    by sure acquire probe ack release grant acked granted rule.S5 = none_of _ false false (no_first _ _ acked) refl refl
    by sure acquire probe ack release grant acked granted rule.S6 = none_of _ false false (no_first _ _ release) refl refl
    by sure acquire probe ack release grant acked granted rule.S7 = none_of _ false false (no_first _ _ acked) refl refl
    by sure acquire probe ack release grant acked granted rule.S8 = none_of _ false false (no_first _ _ grant) refl refl
    by sure acquire probe ack release grant acked granted rule.S9 = none_of _ false false (no_first _ _ granted) refl refl
    by sure acquire probe ack release grant acked granted rule.P1 = none_of false _ false refl (no_first _ _ acquire) refl
    by sure acquire probe ack release grant acked granted rule.P2 = none_of false _ false refl (no_first _ _ ((λ i. ack i || release i))) refl
    by sure acquire probe ack release grant acked granted rule.P3 = none_of false _ false refl (no_first _ _ ack) refl
    by sure acquire probe ack release grant acked granted rule.P4 = none_of false _ false refl (no_first _ _ ack) refl
    by sure acquire probe ack release grant acked granted rule.P5 = none_of false _ false refl (no_first _ _ probe) refl
    by sure acquire probe ack release grant acked granted rule.P6 = none_of false _ false refl acquire refl
    by sure acquire probe ack release grant acked granted rule.P7 = none_of false _ false refl release refl
    by sure acquire probe ack release grant acked granted rule.P8 = none_of false _ false refl (none_of _ _ _ acquire release ack) refl
    by sure acquire probe ack release grant acked granted rule.M1 = none_of false false _ refl refl (no_first _ _ grant)
    by sure acquire probe ack release grant acked granted rule.M2 = none_of false false _ refl refl (no_first _ _ grant)
    by sure acquire probe ack release grant acked granted rule.M3 = none_of false false _ refl refl probe
    by sure acquire probe ack release grant acked granted _ = refl
