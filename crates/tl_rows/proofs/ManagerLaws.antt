-- The state of a manager goes on standing for its beats.
use Rattle.std.proofs.Common.{◌≡◌, ◌≢◌, ◌⊎◌, inl, inr, ℕ, zero, suc, ◌+◌, ◌<◌, ◌≤◌, ◌==◌, ◌&&◌, true, false, cond, List, [], ◌∷◌, ◌++◌, length, map, drop, Option, Some, None, refl, sym, ap, subst, ◌∙◌, arith, length-set}
use Rattle.std.specs.Prelude.{slice_get, nat_lt, slice_index_or}
use Rattle.std.specs.Option.{option_map, option_map_or}
use Rattle.std.specs.List.{AllByRecursion}
use Rattle.std.proofs.Math.ListN.{set}
use Rattle.std.proofs.lemmas.List.{get_or-set_same, get_or-set_other}
use Rattle.std.proofs.lemmas.Option.{slice_get-get_or, slice_get_past}
use Rattle.std.proofs.lemmas.Bool.Decides.{nat_tests}
use Rattle.tl_tables.specs.declared.Chan.{Chan}
use Rattle.tl_tables.specs.Messages.{same_chan}
use Rattle.tl_topology.specs.Topology.{Topology}
use Rattle.tl_topology.specs.declared.LinkDecl.{LinkDecl}
use Rattle.tl_beats.specs.declared.Placed.{Placed}
use Rattle.tl_definitions.specs.Heads.{message_of, before_on, unfinished}
use Rattle.tl_definitions.specs.Messages.{Links, at_head}
use Rattle.tl_definitions.specs.Managers.{declared_links}
use Rattle.tl_definitions.specs.Positions.{links_of, no_link}
use Rattle.tl_definitions.specs.Rules.{Manager}
use Rattle.tl_rows.specs.declared.link.LinkOrigins.{LinkOrigins}
use Rattle.tl_rows.specs.declared.manager.ManagerOrigins.{ManagerOrigins}
use Rattle.tl_rows.specs.declared.origin.Origin.{Origin}
use Rattle.tl_rows.specs.Origins.{with_origin, origins_on, head_before}
use Rattle.tl_rows.specs.Reasons.{Trail, trail_of, trails_of, first_some, link_reason, head_reason, later_reason, reason_at}
use Rattle.tl_rows.specs.declared.reason.Reason.TheVariants as why
use Rattle.tl_tables.specs.declared.Op.{Op}
use Rattle.tl_tables.specs.declared.Rule.{Rule}
use Rattle.tl_tables.specs.declared.Rule.TheVariants as rule
use Rattle.tl_rows.specs.Openers as openers
use Rattle.tl_rows.specs.Links.{IsAt}
use Rattle.tl_rows.specs.States.{IsLink, IsOpening, StandsFor, trail_at, manager_with}

-- ---- lists with one item changed, or one more

get_set_same : {X : Type 0} (xs : List X) (i : ℕ) (v : X) → i < length xs → slice_get (set xs i v) i ≡ Some v
get_set_same xs i v within = slice_get-get_or (set xs i v) i v (simp length-set (omega arith)) ∙ ap Some (get_or-set_same xs i v v within)

get_set_other : {X : Type 0} (xs : List X) (i j : ℕ) (v : X) → j ≢ i → slice_get (set xs i v) j ≡ slice_get xs j
get_set_other xs i j v ne =
    elim (nat_lt j (length xs)) as (λ b. nat_lt j (length xs) ≡ b → slice_get (set xs i v) j ≡ slice_get xs j) [
      | true ↦ λ h. let within : j < length xs = grind (arith, nat_tests) in
          slice_get-get_or (set xs i v) j v (simp length-set (omega arith)) ∙ ap Some (get_or-set_other xs i j v v ne) ∙ sym (slice_get-get_or xs j v within)
      | false ↦ λ h. let past : length xs ≤ j = grind (arith, nat_tests) in
          slice_get_past (set xs i v) j (simp length-set (omega arith)) ∙ sym (slice_get_past xs j past)
    ] refl

link_cases : (a b : ℕ) → (a ≡ b) ⊎ ((b ≢ a) × ((a == b) ≡ false))
link_cases a b = elim (a == b) as (λ t. (a == b) ≡ t → (a ≡ b) ⊎ ((b ≢ a) × ((a == b) ≡ false))) [
  | true ↦ λ h. inl (grind (arith, nat_tests))
  | false ↦ λ h. inr ((λ e. grind (arith, nat_tests)), h)
] refl

pub all_more : {X : Type 0} (P : X → Type 0) (xs : List X) (x : X) → AllByRecursion P xs → P x → AllByRecursion P (xs ++ x ∷ [])
all_more P [] x all one = (one, tt)
all_more P (y ∷ xs) x all one = (all.0, all_more P xs x all.1 one)

drop_next : {X : Type 0} (xs : List X) (n : ℕ) (x : X) → slice_get xs n ≡ Some x → drop n xs ≡ x ∷ drop (suc n) xs
drop_next [] n x h = cc
drop_next (y ∷ xs) zero x h = cc
drop_next (y ∷ xs) (suc n) x h = drop_next xs n x h

pub drop_more : {X : Type 0} (xs : List X) (n : ℕ) (x : X) → slice_get xs n ≡ Some x → drop n xs ≡ x ∷ drop (n + 1) xs
drop_more xs n x h = drop_next xs n x h ∙ ap (λ k. x ∷ drop k xs) (let e : suc n ≡ n + 1 = omega arith in e)

-- ---- one client after the other

pub client_has : (found : ℕ → Option Origin) (clients : List ℕ) (n client : ℕ) (origin : Origin) → slice_get clients n ≡ Some client → found client ≡ Some origin
    → first_some found (drop n clients) ≡ Some origin
client_has found clients n client origin at is =
    ap (first_some found) (drop_more clients n client at) ∙ ap (λ o. option_map_or Some o (first_some found (drop (n + 1) clients))) is

pub client_lacks : (found : ℕ → Option Origin) (clients : List ℕ) (n client : ℕ) → slice_get clients n ≡ Some client → found client ≡ None
    → first_some found (drop (n + 1) clients) ≡ first_some found (drop n clients)
client_lacks found clients n client at is =
    sym (ap (first_some found) (drop_more clients n client at) ∙ ap (λ o. option_map_or Some o (first_some found (drop (n + 1) clients))) is)

-- ---- before all beats

opening_links : (exponent : ℕ) (links : Links) (states : List LinkOrigins) → AllByRecursion IsOpening states → (n link : ℕ) → IsLink exponent links link (slice_get states n) []
opening_links exponent links [] all n link = refl
opening_links exponent links (s ∷ states) all zero link = all.0 exponent links link
opening_links exponent links (s ∷ states) all (suc n) link = opening_links exponent links states all.1 n link

pub opening_stands : (topo : Topology) (exponent : ℕ) (clients : List ℕ) (state : ManagerOrigins) → state.exponent ≡ exponent → AllByRecursion IsOpening state.links.items
    → StandsFor (manager_with topo exponent clients) state []
opening_stands topo exponent clients state is all = record {
  exponent = is;
  each = λ link. opening_links exponent (links_of (declared_links topo)) state.links.items all link link;
}

-- ---- one beat more

module _ (exponent : ℕ) (links : Links) (p : Placed) (before : List Placed) (n : ℕ) (apart : (p.link == n) ≡ false) where
  other_origins : origins_on links n (p ∷ before) ≡ origins_on links n before
  other_origins = ap (λ b. cond (b && at_head links before p) (with_origin p (message_of (links n) p.beat) (origins_on links n before)) (origins_on links n before)) apart

  other_before : (c : Chan) → before_on n c (p ∷ before) ≡ before_on n c before
  other_before c = ap (λ b. cond (b && same_chan p.beat.chan c) (p.beat ∷ before_on n c before) (before_on n c before)) apart

  other_heads : (c : Chan) → head_before links n c (p ∷ before) ≡ head_before links n c before
  other_heads c = ap (λ b. cond ((b && same_chan p.beat.chan c) && at_head links before p) (Some p) (head_before links n c before)) apart

  other_link : (found : Option LinkOrigins) → IsLink exponent links n found before → IsLink exponent links n found (p ∷ before)
  other_link None is = other_origins ∙ is
  other_link (Some state) is = record {
    bursts = record { slots = λ c. is.bursts.slots c ∙ ap (unfinished (links n)) (sym (other_before c)) };
    heads = λ c. is.heads c ∙ sym (other_heads c);
    openers = subst (openers.StandsFor exponent state.openers) (sym other_origins) is.openers;
  }

-- The state of a link is that of its number.
pub at_link : (exponent : ℕ) (links : Links) (items : List LinkOrigins) (before : List Placed) (n : ℕ) (state : LinkOrigins) → slice_get items n ≡ Some state
    → ((link : ℕ) → IsLink exponent links link (slice_get items link) before) → IsAt exponent links n state before
at_link exponent links items before n state at each = subst (λ found. IsLink exponent links n found before) at (each n)

pub stepped : (m : Manager) (old new : ManagerOrigins) (p : Placed) (before : List Placed) (state : LinkOrigins) → p.link < length old.links.items
    → new.exponent ≡ old.exponent → new.links.items ≡ set old.links.items p.link state → StandsFor m old before
    → IsAt m.exponent m.links p.link state (p ∷ before) → StandsFor m new (p ∷ before)
stepped m old new p before state within same put stands at = record {
  exponent = same ∙ stands.exponent;
  each = λ n. elim (link_cases p.link n) [
    | inl e ↦ subst (λ k. IsLink m.exponent m.links k (slice_get new.links.items k) (p ∷ before)) e
        (subst (λ found. IsLink m.exponent m.links p.link found (p ∷ before)) (sym (ap (λ items. slice_get items p.link) put ∙ get_set_same old.links.items p.link state within)) at)
    | inr ne ↦ subst (λ found. IsLink m.exponent m.links n found (p ∷ before)) (sym (ap (λ items. slice_get items n) put ∙ get_set_other old.links.items p.link n state ne.0))
        (other_link m.exponent m.links p before n ne.1 (slice_get old.links.items n) (stands.each n))
  ];
}

-- ---- what is shown

shown_link : (exponent : ℕ) (links : Links) (link : ℕ) (found : Option LinkOrigins) (before : List Placed) → IsLink exponent links link found before
    → option_map_or (λ (s : LinkOrigins). openers.shown exponent s.openers) found (trail_of exponent []) ≡ trail_of exponent (origins_on links link before)
shown_link exponent links link None before is = ap (trail_of exponent) (sym is)
shown_link exponent links link (Some state) before is = is.openers.shows

pub shown_trails : (m : Manager) (state : ManagerOrigins) (before : List Placed) → StandsFor m state before → trail_at state ≡ trails_of m.links m.exponent before
shown_trails m state before stands = λ i. λ link.
    (ap (λ e. option_map_or (λ (s : LinkOrigins). openers.shown e s.openers) (slice_get state.links.items link) (trail_of e [])) stands.exponent
    ∙ shown_link m.exponent m.links link (slice_get state.links.items link) before (stands.each link)) i

links_at : (links : List (List ℕ × LinkDecl)) (n : ℕ) (decl : LinkDecl) → Some decl ≡ option_map (λ p. p.1) (slice_get links n) → slice_index_or (map (λ p. p.1) links) n no_link ≡ decl
links_at [] n decl is = cc
links_at (link ∷ links) zero decl is = sym (ap (λ o. option_map_or (λ d. d) o decl) is)
links_at (link ∷ links) (suc n) decl is = links_at links n decl is

pub declared : (topo : Topology) (n : ℕ) (decl : LinkDecl) → Some decl ≡ option_map (λ p. p.1) (slice_get topo.links n) → links_of (declared_links topo) n ≡ decl
declared topo n decl is = links_at topo.links n decl is

-- ---- reasons

pub later_law : (m : Manager) (before : List Placed) (p : Placed) (broken : Rule) (found : Option Placed) → at_head m.links before p ≡ false
    → found ≡ head_before m.links p.link p.beat.chan before → later_reason found broken ≡ reason_at m before p broken
later_law m before p broken found later is =
    ap (λ head. later_reason head broken) is
    ∙ sym (ap (λ b. cond b (option_map_or (λ o. head_reason m.clients m.exponent (trails_of m.links m.exponent before) p o broken) (message_of (m.links p.link) p.beat) why.ByItself)
    (later_reason (head_before m.links p.link p.beat.chan before) broken)) later)

pub head_law : (m : Manager) (before : List Placed) (p : Placed) (broken : Rule) (found : Option Op) → at_head m.links before p ≡ true → message_of (m.links p.link) p.beat ≡ found
    → option_map_or (λ o. head_reason m.clients m.exponent (trails_of m.links m.exponent before) p o broken) found why.ByItself ≡ reason_at m before p broken
head_law m before p broken found head is =
    ap (λ f. option_map_or (λ o. head_reason m.clients m.exponent (trails_of m.links m.exponent before) p o broken) f why.ByItself) (sym is)
    ∙ sym (ap (λ b. cond b (option_map_or (λ o. head_reason m.clients m.exponent (trails_of m.links m.exponent before) p o broken) (message_of (m.links p.link) p.beat) why.ByItself)
    (later_reason (head_before m.links p.link p.beat.chan before) broken)) head)

-- A rule that is no manager rule is one of the head's own link.
pub own_rule : (clients : List ℕ) (exponent : ℕ) (trails : ℕ → Trail) (p : Placed) (o : Op) (broken : Rule) → (broken ≡ rule.M1 → ⊥) → (broken ≡ rule.M2 → ⊥) → (broken ≡ rule.M3 → ⊥)
    → link_reason exponent (trails p.link) p.beat broken ≡ head_reason clients exponent trails p o broken
own_rule clients exponent trails p o rule.M1 one two three = absurd (one refl)
own_rule clients exponent trails p o rule.M2 one two three = absurd (two refl)
own_rule clients exponent trails p o rule.M3 one two three = absurd (three refl)
own_rule clients exponent trails p o _ one two three = refl
