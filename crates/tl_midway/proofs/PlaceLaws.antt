-- Items of a manager's links, each found by the number of its link.
use Rattle.std.proofs.Common.{◌≡◌, ◌≢◌, ℕ, ◌+◌, ◌<◌, ◌==◌, true, false, cond, List, [], ◌∷◌, ◌++◌, length, map, take, get_or, Option, Some, None, refl, sym, ap, subst, ◌∙◌, arith, length-set}
use Rattle.std.specs.Prelude.{not, nat_lt, slice_get, slice_index, option_map, unwrap_or}
use Rattle.std.specs.List.{All, Contains, position, position_or_len}
use Rattle.std.specs.List.Sorted.{IsStrictlySortedBy}
use Rattle.std.specs.Option.{option_map_or}
use Rattle.std.specs.Ordering.{nat_cmp}
use Rattle.std.proofs.Math.ListN.{set}
use Rattle.std.proofs.Math.Seq.{map-set_same}
use Rattle.std.proofs.lemmas.Bool.Decides.{nat_tests}
use Rattle.std.proofs.lemmas.List.{length-map, map-append, take_more, get_or-map, get_or-set_same, get_or-set_other}
use Rattle.std.proofs.lemmas.List.Elements.{Contains-get_or}
use Rattle.std.proofs.lemmas.List.Quantifiers.{position-Some}
use Rattle.std.proofs.lemmas.Option.{slice_get-get_or, slice_get-map, unwrap_or-slice_get}
use Rattle.tl_topology.specs.Topology.{Topology}
use Rattle.tl_topology.specs.declared.LinkDecl.{LinkDecl}
use Rattle.tl_definitions.specs.Managers.{declared_links}
use Rattle.tl_definitions.specs.Positions.{links_of, no_link, clients_of}
use Rattle.tl_client_rules.specs.Clients.{place_of}
use Rattle.tl_client_rules.proofs.ClientsLaws.{clients_below, placed_at}
use Rattle.tl_midway.specs.ManagerReadings.{HasPlace}

-- ---- links of a topology

pub declared : (topo : Topology) (link : ℕ) (decl : LinkDecl) → Some decl ≡ option_map (λ p. p.1) (slice_get topo.links link) → decl ≡ links_of (declared_links topo) link
declared topo link decl is =
    ap (λ o. unwrap_or o no_link) (is ∙ sym (slice_get-map (λ p. p.1) topo.links link)) ∙ unwrap_or-slice_get (declared_links topo) link no_link

pub clients_within : (topo : Topology) (manager : ℕ) (numbers : List ℕ) → numbers ≡ clients_of manager (declared_links topo) → All (λ link. link < length topo.links) numbers
clients_within topo manager numbers are k d below =
    let link : ℕ = get_or numbers k d in
    let less : link < 0 + length (declared_links topo) = clients_below manager 0 (declared_links topo) link (subst (λ ns. Contains ns link) are (Contains-get_or numbers k d below)) in
    omega (arith, less, length-map topo.links (λ (p : List ℕ × LinkDecl). p.1))

pub block_is : (topo : Topology) (manager : ℕ) (exponent : ℕ) (found : Option ℕ) → found ≡ option_map (λ p. p.1) (slice_get topo.managers manager) → exponent ≡ unwrap_or found 0
    → exponent ≡ slice_index (map (λ p. p.1) topo.managers) manager
block_is topo manager exponent found looked is =
    is ∙ ap (λ o. unwrap_or o 0) (looked ∙ sym (slice_get-map (λ p. p.1) topo.managers manager)) ∙ unwrap_or-slice_get (map (λ p. p.1) topo.managers) manager 0

-- ---- places

first_mapped : {X : Type 0} (number : X → ℕ) (link : ℕ) (items : List X) → position_or_len (λ x. number x == link) items ≡ position_or_len (λ n. n == link) (map number items)
first_mapped number link [] = refl
first_mapped number link (x ∷ items) = ap (λ k. cond (not (number x == link)) (1 + k) 0) (first_mapped number link items)

pub place_mapped : {X : Type 0} (number : X → ℕ) (link : ℕ) (items : List X) → position (λ x. number x == link) items ≡ place_of link (map number items)
place_mapped number link items = λ i. cond (nat_lt (first_mapped number link items i) (sym (length-map items number) i)) (Some (first_mapped number link items i)) None

pub inside : {X : Type 0} (number : X → ℕ) (items : List X) (link place : ℕ) → HasPlace (map number items) link → place_of link (map number items) ≡ Some place → place < length items
inside number items link place has at =
    let same : has.0 ≡ place = ap (λ o. option_map_or (λ (k : ℕ). k) o place) (sym has.1 ∙ at) in
    let within = has.2 in
    omega (arith, same, within, length-map items number)

module _ {X : Type 0} (number : X → ℕ) (items : List X) (link place : ℕ) (own : X) (at : place_of link (map number items) ≡ Some place) (within : place < length items)
    (here : own ≡ get_or items place own) where
  pub own_number : number own ≡ link
  own_number =
      let found : (get_or (map number items) place 0 == link) ≡ true = (position-Some (λ n. n == link) (map number items) place 0 at).1 in
      let same : get_or (map number items) place 0 ≡ number own = get_or-map number items place own 0 within ∙ ap number (sym here) in
      let is : get_or (map number items) place 0 ≡ link = grind (arith, nat_tests) in
      sym same ∙ is

  pub numbers_stay : (next : X) → number next ≡ number own → map number (set items place next) ≡ map number items
  numbers_stay next same = map-set_same number items place next own (same ∙ ap number here)

  -- An item at another place is of another link.
  another : IsStrictlySortedBy nat_cmp (map number items) → (k : ℕ) (d : X) → k < length items → k ≢ place → (link == number (get_or items k d)) ≡ false
  another rises k d below ne =
      elim (link == number (get_or items k d)) as (λ b. (link == number (get_or items k d)) ≡ b → b ≡ false) [
        | true ↦ λ e. (let same : link ≡ number (get_or items k d) = grind (arith, nat_tests) in
            let many : k < length (map number items) = omega (arith, below, length-map items number) in
            let stands : slice_get (map number items) k ≡ Some link = slice_get-get_or (map number items) k 0 many ∙ ap Some (get_or-map number items k d 0 below ∙ sym same) in
            let two : k ≡ place = ap (λ o. option_map_or (λ (n : ℕ). n) o place) (sym (placed_at (map number items) link k rises stands) ∙ at) in
            absurd (ne two))
        | false ↦ λ e. refl
      ] refl

  place_cases : (P : Type 0) (k : ℕ) → (k ≡ place → P) → (k ≢ place → P) → P
  place_cases P k here there = elim (k == place) as (λ b. (k == place) ≡ b → P) [
    | true ↦ λ e. here (grind (arith, nat_tests))
    | false ↦ λ e. there (λ is. grind (arith, nat_tests))
  ] refl

  -- What holds of the new item, and of each other.
  pub each_set : (P Q : X → Type 0) (next : X) → IsStrictlySortedBy nat_cmp (map number items) → All P items → Q next → ((x : X) → (link == number x) ≡ false → P x → Q x) → All Q (set items place next)
  each_set P Q next rises all now others k d below =
      let inner : k < length items = subst (λ n. k < n) (length-set items place next) below in
      place_cases (Q (get_or (set items place next) k d)) k
      (λ is. subst Q (sym (ap (λ j. get_or (set items place next) j d) is ∙ get_or-set_same items place next d within)) now)
      (λ ne. subst Q (sym (get_or-set_other items place k next d ne)) (others (get_or items k d) (another rises k d inner ne) (all k d inner)))

-- ---- one item more

pub numbers_more : {X : Type 0} (number : X → ℕ) (numbers : List ℕ) (items more : List X) (x : X) (k : ℕ) → k < length numbers → more ≡ items ++ x ∷ [] → number x ≡ get_or numbers k 0
    → map number items ≡ take k numbers → map number more ≡ take (k + 1) numbers
numbers_more number numbers items more x k within put is so =
    ap (map number) put ∙ map-append number items (x ∷ []) ∙ ap (λ ns. ns ++ number x ∷ []) so ∙ ap (λ n. take k numbers ++ n ∷ []) is ∙ sym (take_more numbers k 0 within)
