-- One beat judged: its rules, and the rows of these.
use Rattle.std.proofs.Common.{◌≡◌, ℕ, ◌<◌, List, [], ◌∷◌, ◌++◌, length, Option, Some, None, sym, ap, subst, ◌∙◌, append_assoc, append-nil, get_or}
use Rattle.std.specs.Prelude.{Result, Ok, Err, OnOk, map, filter, slice_get}
use Rattle.std.proofs.lemmas.List.{map-append}
use Rattle.std.specs.Option.{option_and_then, option_map_or}
use Rattle.std.proofs.lemmas.Option.{slice_get-get_or}
use Rattle.tl_tables.specs.declared.Chan.{Chan}
use Rattle.tl_tables.specs.declared.Op.{Op}
use Rattle.tl_tables.specs.declared.Rule.{Rule}
use Rattle.tl_tables.specs.declared.Rule.TheVariants as rule
use Rattle.tl_topology.specs.Regions.{Area}
use Rattle.tl_topology.specs.declared.LinkDecl.{LinkDecl}
use Rattle.tl_beats.specs.declared.Beat.{Beat}
use Rattle.tl_beats.specs.declared.Placed.{Placed}
use Rattle.tl_beats.specs.declared.Row.{Row}
use Rattle.tl_definitions.specs.declared.Unfinished.{Unfinished}
use Rattle.tl_definitions.specs.Heads.{message_of}
use Rattle.tl_definitions.specs.Past.{flow_past}
use Rattle.tl_definitions.specs.Rules.{Manager, format_rules, breaks_format, format_order, breaks_flow, flow_order, breaks_permission, permission_order, breaks_manager, manager_order}
use Rattle.tl_definitions.specs.Breaks.{row_of, later_rules}
use Rattle.tl_definitions.specs.Judging.{Snapshot, judged_head, judged_place, judged_rules, message_in}
use Rattle.tl_link_rules.specs.Bursts.{slot_at}
use Rattle.tl_link_rules.specs.Flow as flow
use Rattle.tl_client_rules.specs.Manager as managers
use Rattle.tl_check.specs.declared.links.LinkState.{LinkState}
use Rattle.tl_check.specs.declared.state.SpanState.{SpanState}
use Rattle.tl_client_rules.specs.Clients.{place_of}
use Rattle.tl_check.specs.States.{link_of, burst_at, flow_at, past_at, shown, HasLink, Serves}

-- The place of a link and its state there, as the code finds them.
pub at_place : (state : SpanState) (n place : ℕ) (link : LinkState) (found : Option ℕ) → found ≡ place_of n (managers.shown state.clients).clients → found ≡ Some place
    → HasLink state n → link ≡ get_or state.links.items place link → (place_of n (managers.shown state.clients).clients ≡ Some place) × (slice_get state.links.items place ≡ Some link)
at_place state n place link found looked is has here =
    let at : place_of n (managers.shown state.clients).clients ≡ Some place = sym looked ∙ is in
    let same : has.0 ≡ place = ap (λ o. option_map_or (λ (k : ℕ). k) o place) (sym has.1 ∙ at) in
    (at, slice_get-get_or state.links.items place link (subst (λ k. k < length state.links.items) same has.3) ∙ ap Some (sym here))

pub link_at : (state : SpanState) (n place : ℕ) (link : LinkState) → place_of n (managers.shown state.clients).clients ≡ Some place → slice_get state.links.items place ≡ Some link
    → link_of state n ≡ Some link
link_at state n place link at stood = ap (λ o. option_and_then (λ k. slice_get state.links.items k) o) at ∙ stood

pub burst_here : (state : SpanState) (k : ℕ) (link : LinkState) (chan : Chan) → link_of state k ≡ Some link → burst_at state k chan ≡ slot_at link.bursts chan
burst_here state k link chan at = ap (λ o. option_and_then (λ (s : LinkState). slot_at s.bursts chan) o) at

pub flow_here : (state : SpanState) (k : ℕ) (link : LinkState) → link_of state k ≡ Some link → flow.shown link.flow ≡ flow_at state k
flow_here state k link at = sym (ap (λ o. option_map_or (λ (s : LinkState). flow.shown s.flow) o (flow_past [])) at)

-- What holds where a call succeeds.
pub on_ok : {X E : Type 0} {A B : Type 0} (r : Result X E) → (A → B) → OnOk r A → OnOk r B
on_ok (Ok x) f a = f a
on_ok (Err e) f a = tt

pub whatever : {X E : Type 0} {A : Type 0} (r : Result X E) → A → OnOk r A
whatever (Ok x) a = a
whatever (Err e) a = tt

-- The rules of a head are its format rules, its flow rules, and those of its permissions and its manager.
pub head_is_judged : (m : Manager) (s : Snapshot) (p : Placed) (found : Option Op) (format flows clients : List Rule)
    → format ≡ format_rules m.exponent m.regions (m.links p.link) p.beat found → flows ≡ flow.rules_in (s.past p.link).flow p.beat found
    → clients ≡ managers.rules_in m.clients m.exponent (m.links p.link).strict s.past p.link p.beat found → format ++ flows ++ clients ≡ judged_head m s p found
head_is_judged m s p None format flows clients f g h =
    ap (λ x. x ++ flows ++ clients) f ∙ ap (λ x. (rule.F1 ∷ []) ++ x ++ clients) g ∙ ap (λ x. (rule.F1 ∷ []) ++ [] ++ x) h
head_is_judged m s p (Some o) format flows clients f g h =
    let message = message_in (s.past p.link).flow p.beat o in
    let first : List Rule = filter (breaks_format m.exponent m.regions (m.links p.link) o p.beat) format_order in
    let second : List Rule = filter (breaks_flow (s.past p.link).flow message) flow_order in
    let third : List Rule = filter (breaks_permission (m.links p.link).strict m.exponent (s.past p.link).client message) permission_order in
    let fourth : List Rule = filter (breaks_manager m.clients m.exponent (λ client. (s.past client).client) p.link message) manager_order in
    ap (λ x. x ++ flows ++ clients) f ∙ ap (λ x. first ++ x ++ clients) g ∙ ap (λ x. first ++ second ++ x) h ∙ sym (append_assoc (first ++ second) third fourth)

-- The format rules by what a manager serves its link with.
pub served_format : (m : Manager) (p : Placed) (decl : LinkDecl) (exponent : ℕ) (areas : List Area) → Serves m p.link decl exponent areas
    → format_rules exponent areas decl p.beat (message_of decl p.beat) ≡ format_rules m.exponent m.regions (m.links p.link) p.beat (message_of (m.links p.link) p.beat)
served_format m p decl exponent areas serves =
    ap (λ e. format_rules e areas decl p.beat (message_of decl p.beat)) (sym serves.block)
    ∙ ap (λ xs. format_rules m.exponent xs decl p.beat (message_of decl p.beat)) (sym serves.regions)
    ∙ ap (λ d. format_rules m.exponent m.regions d p.beat (message_of d p.beat)) (sym serves.declared)

put_both : (p : Placed) (xs ys : List Rule) (r0 r1 r2 : List Row) → r1 ≡ r0 ++ map (row_of p) xs → r2 ≡ r1 ++ map (row_of p) ys → r2 ≡ r0 ++ map (row_of p) (xs ++ ys)
put_both p xs ys r0 r1 r2 one two =
    two ∙ ap (λ rows. rows ++ map (row_of p) ys) one ∙ append_assoc r0 (map (row_of p) xs) (map (row_of p) ys) ∙ ap (λ rows. r0 ++ rows) (sym (map-append (row_of p) xs ys))

-- Its rows, put after others one list after the other.
pub head_rows : (m : Manager) (state : SpanState) (p : Placed) (format flows clients : List Rule) (r0 r1 r2 r3 : List Row) → burst_at state p.link p.beat.chan ≡ None
    → format ++ flows ++ clients ≡ judged_head m (shown state) p (message_of (m.links p.link) p.beat)
    → r1 ≡ r0 ++ map (row_of p) format → r2 ≡ r1 ++ map (row_of p) flows → r3 ≡ r2 ++ map (row_of p) clients → r3 ≡ r0 ++ map (row_of p) (judged_rules m (shown state) p)
head_rows m state p format flows clients r0 r1 r2 r3 free is one two three =
    put_both p (format ++ flows) clients r0 r2 r3 (put_both p format flows r0 r1 r2 one two) three
    ∙ ap (λ rules. r0 ++ map (row_of p) rules) (is ∙ sym (ap (judged_place m (shown state) p) free))

pub later_rows : (m : Manager) (state : SpanState) (p : Placed) (decl : LinkDecl) (head : Beat) (burst : Unfinished) (rules : List Rule) (r0 r1 : List Row) → m.links p.link ≡ decl
    → burst_at state p.link p.beat.chan ≡ Some burst → burst.head ≡ head → rules ≡ later_rules decl p.beat head → r1 ≡ r0 ++ map (row_of p) rules
    → r1 ≡ r0 ++ map (row_of p) (judged_rules m (shown state) p)
later_rows m state p decl head burst rules r0 r1 declared taken is known one =
    one ∙ ap (λ rs. r0 ++ map (row_of p) rs)
    (known ∙ ap (later_rules decl p.beat) (sym is) ∙ ap (λ d. later_rules d p.beat burst.head) (sym declared) ∙ sym (ap (judged_place m (shown state) p) taken))

-- A head that breaks no rule of any kind.
pub clean_rules : (m : Manager) (state : SpanState) (p : Placed) → burst_at state p.link p.beat.chan ≡ None → [] ≡ format_rules m.exponent m.regions (m.links p.link) p.beat (message_of (m.links p.link) p.beat)
    → [] ≡ flow.rules_in (flow_at state p.link) p.beat (message_of (m.links p.link) p.beat)
    → [] ≡ managers.rules_in m.clients m.exponent (m.links p.link).strict (past_at state) p.link p.beat (message_of (m.links p.link) p.beat) → judged_rules m (shown state) p ≡ []
clean_rules m state p free format flows clients =
    ap (judged_place m (shown state) p) free ∙ sym (head_is_judged m (shown state) p (message_of (m.links p.link) p.beat) [] [] [] format flows clients)

-- No row is put after others for no rule.
pub no_rows : (p : Placed) (rules : List Rule) (rows : List Row) → rules ≡ [] → rows ≡ rows ++ map (row_of p) rules
no_rows p rules rows none = sym (ap (λ rs. rows ++ map (row_of p) rs) none ∙ append-nil rows)
