-- The state of a link without caches, by its parts.
use Rattle.std.proofs.Common.{◌≡◌, ℕ, ◌==◌, ◌&&◌, ◌||◌, Bool, true, false, List, [], ◌∷◌, ◌++◌, map, Option, Some, None, refl, sym, ap, subst, ◌∙◌, append_assoc, append-nil}
use Rattle.std.specs.Prelude.{not, filter, is_none, is_some}
use Rattle.std.specs.List.{All}
use Rattle.std.proofs.lemmas.List.Elements.{All-head, All-tail}
use Rattle.tl_tables.specs.declared.Op.{Op}
use Rattle.tl_tables.specs.declared.Rule.{Rule}
use Rattle.tl_tables.specs.Messages.{level_le}
use Rattle.tl_tables.specs.declared.Level.TheVariants as level
use Rattle.tl_topology.specs.Regions.{Area}
use Rattle.tl_topology.specs.declared.LinkDecl.{LinkDecl}
use Rattle.tl_beats.specs.declared.Placed.{Placed}
use Rattle.tl_beats.specs.declared.Row.{Row}
use Rattle.tl_definitions.specs.Breaks.{row_of}
use Rattle.tl_definitions.specs.Heads.{message_of}
use Rattle.tl_definitions.specs.Known.{Beginning, bare}
use Rattle.tl_definitions.specs.LinkPasses.{LinkSnapshot, link_rules, link_next}
use Rattle.tl_definitions.specs.Messages.{sources}
use Rattle.tl_definitions.specs.OpenTables.{acts}
use Rattle.tl_definitions.specs.Printed.{printed_rules, printed_after}
use Rattle.tl_definitions.specs.Rules.{Manager}
use Rattle.tl_definitions.proofs.LinkLaws.{kept_mapped, same_link}
use Rattle.tl_state.specs.Slots.{slot_of}
use Rattle.tl_check.specs.Apart as apart
use Rattle.tl_check.specs.Apart.{one_link, opening}
use Rattle.tl_midway.specs.Named.{Follows, is_flow, is_kept, named_by, seen_after, seen_first, seen_by, StandsFor, Serves, BeginsAtHeads, AddsPrinted}
use Rattle.tl_check.specs.declared.apart.PlainLink.{PlainLink}
use Rattle.tl_midway.specs.declared.named.NamedLink.{NamedLink}
use Rattle.tl_midway.proofs.SeenLaws.{rules_kept, follows_next, follows_first}

-- ---- the manager of the link

module _ (m : Manager) (p : Placed) (s : LinkSnapshot) (decl : LinkDecl) (exponent : ℕ) (areas : List Area) (served : Serves m p.link decl exponent areas) where
  abbrev rules_as : LinkDecl → ℕ → List Area → List Rule
  rules_as d e a = link_rules (one_link d e a) s p

  pub served_rules : link_rules (one_link decl exponent areas) s p ≡ link_rules m s p
  served_rules = sym (ap (λ d. rules_as d exponent areas) served.declared) ∙ sym (ap (λ e. rules_as (m.links p.link) e areas) served.power) ∙ sym (ap (rules_as (m.links p.link) m.exponent) served.regions)

  abbrev next_as : LinkDecl → ℕ → List Area → LinkSnapshot
  next_as d e a = link_next (one_link d e a) s p

  pub served_next : link_next (one_link decl exponent areas) s p ≡ link_next m s p
  served_next = sym (ap (λ d. next_as d exponent areas) served.declared) ∙ sym (ap (λ e. next_as (m.links p.link) e areas) served.power) ∙ sym (ap (next_as (m.links p.link) m.exponent) served.regions)

  below : level_le level.C decl.level ≡ false → level_le level.C (m.links p.link).level ≡ false
  below plain = ap (λ (d : LinkDecl). level_le level.C d.level) served.declared ∙ plain

all_pass : (rs : List Rule) → filter (λ r. true) rs ≡ rs
all_pass [] = refl
all_pass (r ∷ rs) = ap (λ xs. r ∷ xs) (all_pass rs)

module _ (m : Manager) (start : Beginning) (before : List Placed) (p : Placed) (old : NamedLink) (decl : LinkDecl) (exponent : ℕ) (areas : List Area)
    (stands : StandsFor m start p.link old before) (served : Serves m p.link decl exponent areas) (plain : level_le level.C decl.level ≡ false) where
  abbrev s : LinkSnapshot
  s = stands.snapshot

  abbrev seen : ℕ → Bool
  seen = seen_by (m.links p.link) old

  printed : printed_rules m start before p ≡ filter (is_kept (seen p.beat.source)) (link_rules m s p)
  printed = rules_kept m start before p seen s stands.follows (below m p s decl exponent areas served plain)

  seen_as : seen_by decl old p.beat.source ≡ seen p.beat.source
  seen_as = sym (ap (λ d. seen_by d old p.beat.source) served.declared)

  -- The rows where the source is known, and where it isn't.
  pub named_rows : (rows more : List Row) → seen_by decl old p.beat.source ≡ true → more ≡ rows ++ map (row_of p) (link_rules (one_link decl exponent areas) s p)
      → more ≡ rows ++ map (row_of p) (printed_rules m start before p)
  named_rows rows more known put =
      let all : filter (is_kept (seen p.beat.source)) (link_rules m s p) ≡ link_rules m s p =
      ap (λ b. filter (is_kept b) (link_rules m s p)) (sym seen_as ∙ known) ∙ all_pass (link_rules m s p) in
      put ∙ ap (λ rules. rows ++ map (row_of p) rules) (served_rules m p s decl exponent areas served ∙ sym (printed ∙ all))

  pub unnamed_rows : (rows found more : List Row) → seen_by decl old p.beat.source ≡ false → found ≡ [] ++ map (row_of p) (link_rules (one_link decl exponent areas) s p)
      → more ≡ rows ++ filter (λ (row : Row). not (is_flow row.rule)) found → more ≡ rows ++ map (row_of p) (printed_rules m start before p)
  unnamed_rows rows found more unknown put kept =
      let some : filter (is_kept (seen p.beat.source)) (link_rules m s p) ≡ filter (λ r. not (is_flow r)) (link_rules m s p) =
      ap (λ b. filter (is_kept b) (link_rules m s p)) (sym seen_as ∙ unknown) in
      kept ∙ ap (λ rs. rows ++ filter (λ (row : Row). not (is_flow row.rule)) rs) (put ∙ ap (map (row_of p)) (served_rules m p s decl exponent areas served))
      ∙ ap (λ rs. rows ++ rs) (kept_mapped (λ (row : Row). not (is_flow row.rule)) (row_of p) (link_rules m s p) ∙ ap (map (row_of p)) (sym (printed ∙ some)))

  -- What is left, where so many sources are named then.
  next_of : (new : NamedLink) → apart.Shows new.state (link_next (one_link decl exponent areas) s p) → ((key : ℕ) → seen_after m s p seen key ≡ seen_by (m.links p.link) new key) → StandsFor m start p.link new (p ∷ before)
  next_of new shows same = record {
    snapshot = link_next m s p;
    shows = subst (apart.Shows new.state) (served_next m p s decl exponent areas served) shows;
    follows = subst (λ sn. Follows m start p.link sn (link_next m s p) (p ∷ before)) (λ i key. same key i) (follows_next m start before p seen s stands.follows);
  }

  pub named_next : (state : PlainLink) → seen_by decl old p.beat.source ≡ true → apart.Shows state (link_next (one_link decl exponent areas) s p)
      → StandsFor m start p.link (record old { state = state }) (p ∷ before)
  named_next state known shows = next_of (record old { state = state }) shows (λ key. same_seen (is_none (s.burst p.beat.chan)) (message_of (m.links p.link) p.beat) key (sym seen_as ∙ known))
    where
      named_key : (found : Option Op) (key : ℕ) → named_by p.beat found key ≡ true → p.beat.source ≡ key
      named_key None key h = cc
      named_key (Some o) key h = same_link p.beat.source key (second (acts sources (bare o p.beat)) (p.beat.source == key) h)
        where
          second : (a b : Bool) → (a && b) ≡ true → b ≡ true
          second true b h = h
          second false b h = cc

      or_true : (a b : Bool) → b ≡ true → (a || b) ≡ b
      or_true true b h = sym h
      or_true false b h = refl

      and_false : (a : Bool) → (a && false) ≡ false
      and_false true = refl
      and_false false = refl

      same_seen : (head : Bool) (found : Option Op) (key : ℕ) → seen p.beat.source ≡ true → ((head && named_by p.beat found key) || seen key) ≡ seen key
      same_seen head found key known = elim (named_by p.beat found key) as (λ b. named_by p.beat found key ≡ b → ((head && b) || seen key) ≡ seen key) [
        | true ↦ λ e. or_true (head && true) (seen key) (sym (ap seen (named_key found key e)) ∙ known)
        | false ↦ λ e. ap (λ b. b || seen key) (and_false head)
      ] refl

  pub unnamed_next : (new : NamedLink) (begins : Bool) → begins ≡ is_none (s.burst p.beat.chan) → apart.Shows new.state (link_next (one_link decl exponent areas) s p)
      → ((key : ℕ) → is_some (slot_of new.named key) ≡ (begins && named_by p.beat (message_of decl p.beat) key || is_some (slot_of old.named key))) → StandsFor m start p.link new (p ∷ before)
  unnamed_next new begins is shows put = next_of new shows (λ key.
      mixed (is_none (s.burst p.beat.chan) && named_by p.beat (message_of (m.links p.link) p.beat) key) (seen_first (m.links p.link) key) (is_some (slot_of old.named key))
      ∙ ap (λ b. seen_first (m.links p.link) key || b) (sym (put key
      ∙ ap (λ b. b && named_by p.beat (message_of decl p.beat) key || is_some (slot_of old.named key)) is
      ∙ ap (λ (d : LinkDecl). is_none (s.burst p.beat.chan) && named_by p.beat (message_of d p.beat) key || is_some (slot_of old.named key)) (sym served.declared))))
    where
      mixed : (n a b : Bool) → (n || (a || b)) ≡ (a || (n || b))
      mixed true true b = refl
      mixed true false b = refl
      mixed false a b = refl

-- ---- before all beats

pub first_stands : (m : Manager) (start : Beginning) (number : ℕ) (state : NamedLink) → BeginsAtHeads start number → apart.Shows state.state (opening m.exponent)
    → ((key : ℕ) → slot_of state.named key ≡ None) → StandsFor m start number state []
first_stands m start number state heads shows none = record {
  snapshot = opening m.exponent;
  shows = shows;
  follows = subst (λ sn. Follows m start number sn (opening m.exponent) []) (λ i key. seen_none key i) (follows_first m start number (opening m.exponent) heads (λ c. refl) (λ key. refl));
}
  where
    or_false : (b : Bool) → b ≡ (b || false)
    or_false true = refl
    or_false false = refl

    seen_none : (key : ℕ) → seen_first (m.links number) key ≡ seen_by (m.links number) state key
    seen_none key = or_false (seen_first (m.links number) key) ∙ sym (ap (λ entry. seen_first (m.links number) key || is_some entry) (none key))

-- ---- a walk

-- The state stands for the beats so far; the rows with those of the beats that are left are all.
pub record IsOn (m : Manager) (start : Beginning) (number : ℕ) (state : NamedLink) (first rows : List Row) (rest all : List Placed) : Type 0 where
  pub before : List Placed
  pub stands : StandsFor m start number state before
  pub own : All (λ (p : Placed). p.link ≡ number) rest
  pub found : rows ++ printed_after m start before rest ≡ first ++ printed_after m start [] all

abbrev pub AreOn : LinkDecl → ℕ → List Area → NamedLink → List Row → List Row → List Placed → List Placed → Type 0
AreOn decl exponent areas state first rows rest all = (m : Manager) (start : Beginning) (number : ℕ) → Serves m number decl exponent areas → All (λ (p : Placed). p.link ≡ number) all → BeginsAtHeads start number
    → IsOn m start number state first rows rest all

pub begun : (decl : LinkDecl) (exponent : ℕ) (areas : List Area) (state : NamedLink) (rows : List Row) (rest all : List Placed) → rest ≡ all
    → ((m : Manager) (start : Beginning) (number : ℕ) → BeginsAtHeads start number → StandsFor m start number state []) → AreOn decl exponent areas state rows rows rest all
begun decl exponent areas state rows rest all is new m start number served own heads = record {
  before = [];
  stands = new m start number heads;
  own = subst (All (λ (p : Placed). p.link ≡ number)) (sym is) own;
  found = ap (λ ps. rows ++ printed_after m start [] ps) is;
}

pub one_more : (decl : LinkDecl) (exponent : ℕ) (areas : List Area) (old new : NamedLink) (first rows more : List Row) (p : Placed) (now rest all : List Placed) → now ≡ p ∷ rest
    → ((m : Manager) (start : Beginning) (before : List Placed) → StandsFor m start p.link old before → Serves m p.link decl exponent areas → more ≡ rows ++ map (row_of p) (printed_rules m start before p))
    → ((m : Manager) (start : Beginning) (before : List Placed) → StandsFor m start p.link old before → Serves m p.link decl exponent areas → StandsFor m start p.link new (p ∷ before))
    → AreOn decl exponent areas old first rows now all → AreOn decl exponent areas new first more rest all
one_more decl exponent areas old new first rows more p now rest all steps put next on m start number served own heads =
    let was = on m start number served own heads in
    let mine : All (λ (q : Placed). q.link ≡ number) (p ∷ rest) = subst (All (λ (q : Placed). q.link ≡ number)) steps was.own in
    let here : p.link ≡ number = All-head (λ (q : Placed). q.link ≡ number) p rest mine in
    let stands : StandsFor m start p.link old was.before = subst (λ n. StandsFor m start n old was.before) (sym here) was.stands in
    let serves : Serves m p.link decl exponent areas = subst (λ n. Serves m n decl exponent areas) (sym here) served in
    record {
      before = p ∷ was.before;
      stands = subst (λ n. StandsFor m start n new (p ∷ was.before)) here (next m start was.before stands serves);
      own = All-tail (λ (q : Placed). q.link ≡ number) p rest mine;
      found = ap (λ rs. rs ++ printed_after m start (p ∷ was.before) rest) (put m start was.before stands serves)
          ∙ append_assoc rows (map (row_of p) (printed_rules m start was.before p)) (printed_after m start (p ∷ was.before) rest)
          ∙ sym (ap (λ ps. rows ++ printed_after m start was.before ps) steps) ∙ was.found;
    }

pub done : (decl : LinkDecl) (exponent : ℕ) (areas : List Area) (state : NamedLink) (first rows : List Row) (rest all : List Placed) → rest ≡ [] → AreOn decl exponent areas state first rows rest all
    → AddsPrinted decl exponent areas all first rows
done decl exponent areas state first rows rest all none on m start number served own heads =
    let was = on m start number served own heads in
    sym (append-nil rows) ∙ ap (λ ps. rows ++ printed_after m start was.before ps) (sym none) ∙ was.found
