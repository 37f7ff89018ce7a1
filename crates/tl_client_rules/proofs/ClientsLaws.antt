-- The links of a manager: their numbers rise, and each has a place of its own.
use Rattle.std.proofs.Common.{◌≡◌, ℕ, ◌+◌, ◌<◌, ◌≤◌, ◌==◌, inl, inr, true, false, cond, List, [], ◌∷◌, length, get_or, Some, None, refl, sym, ap, ◌∙◌, arith}
use Rattle.std.specs.Prelude.{nat_lt, slice_get}
use Rattle.std.specs.List.{Contains, position_or_len}
use Rattle.std.specs.List.Sorted.{IsStrictlySortedBy}
use Rattle.std.specs.Ordering.{nat_cmp}
use Rattle.std.specs.Option.{option_map_or}
use Rattle.std.specs.declared.cmp.Ordering.TheVariants.{Less, Equal}
use Rattle.std.proofs.lemmas.Bool.Decides.{nat_tests}
use Rattle.std.proofs.lemmas.List.Quantifiers.{position-Some}
use Rattle.std.proofs.lemmas.List.Sums.{position_or_len_is}
use Rattle.std.proofs.lemmas.Map.Keys.{Less-from_sorted}
use Rattle.std.proofs.lemmas.Option.{slice_get_within, slice_get-get_or}
use Rattle.tl_topology.specs.declared.LinkDecl.{LinkDecl}
use Rattle.tl_definitions.specs.Positions.{clients_from}
use Rattle.tl_definitions.proofs.Lists.{contains_none, contains_cases, all_by}
use Rattle.tl_definitions.proofs.OrderLaws.{below, tied}
use Rattle.tl_client_rules.specs.Clients.{place_of, ClientsRise}

clients_low : (manager number : ℕ) (decls : List LinkDecl) (n : ℕ) → Contains (clients_from manager number decls) n → number ≤ n
clients_low manager number [] n h = absurd (contains_none n h)
clients_low manager number (link ∷ decls) n h = elim (link.manager == manager) as (λ b. Contains (cond b (number ∷ clients_from manager (number + 1) decls) (clients_from manager (number + 1) decls)) n → number ≤ n) [
  | true ↦ λ g. elim (contains_cases number (clients_from manager (number + 1) decls) n g) [
    | inl is ↦ omega arith
    | inr there ↦ (let low = clients_low manager (number + 1) decls n there in omega arith)
  ]
  | false ↦ λ g. (let low = clients_low manager (number + 1) decls n g in omega arith)
] h

pub clients_below : (manager number : ℕ) (decls : List LinkDecl) (n : ℕ) → Contains (clients_from manager number decls) n → n < number + length decls
clients_below manager number [] n h = absurd (contains_none n h)
clients_below manager number (link ∷ decls) n h =
    elim (link.manager == manager) as (λ b. Contains (cond b (number ∷ clients_from manager (number + 1) decls) (clients_from manager (number + 1) decls)) n → n < number + length (link ∷ decls)) [
      | true ↦ λ g. elim (contains_cases number (clients_from manager (number + 1) decls) n g) [
        | inl is ↦ omega arith
        | inr there ↦ (let below = clients_below manager (number + 1) decls n there in omega arith)
      ]
      | false ↦ λ g. (let below = clients_below manager (number + 1) decls n g in omega arith)
    ] h

from_rise : (manager number : ℕ) (decls : List LinkDecl) → IsStrictlySortedBy nat_cmp (clients_from manager number decls)
unfolding IsStrictlySortedBy
from_rise manager number [] = tt
from_rise manager number (link ∷ decls) = elim (link.manager == manager) as (λ b. IsStrictlySortedBy nat_cmp (cond b (number ∷ clients_from manager (number + 1) decls) (clients_from manager (number + 1) decls))) [
  | true ↦ (
    all_by (λ n. nat_cmp number n ≡ Less) (clients_from manager (number + 1) decls) (λ n h. let low = clients_low manager (number + 1) decls n h in below number n (omega arith)),
    from_rise manager (number + 1) decls,
  )
  | false ↦ from_rise manager (number + 1) decls
]

pub clients_rise : ClientsRise
clients_rise manager decls = from_rise manager 0 decls

-- A link that stands after another is another.
other_behind : (numbers : List ℕ) (k place link : ℕ) → IsStrictlySortedBy nat_cmp numbers → k < place → place < length numbers → get_or numbers place link ≡ link
    → (get_or numbers k link == link) ≡ false
other_behind numbers k place link rises less within here =
    elim (get_or numbers k link == link) as (λ b. (get_or numbers k link == link) ≡ b → b ≡ false) [
      | true ↦ λ e. (let same : get_or numbers k link ≡ get_or numbers place link = (let first : get_or numbers k link ≡ link = grind (arith, nat_tests) in first ∙ sym here) in
          let never : Equal ≡ Less = sym (tied (get_or numbers k link) (get_or numbers place link) same) ∙ Less-from_sorted nat_cmp numbers k place link rises less within in cc)
      | false ↦ λ e. refl
    ] refl

-- The link at a place has that place.
pub placed_at : (numbers : List ℕ) (link place : ℕ) → IsStrictlySortedBy nat_cmp numbers → slice_get numbers place ≡ Some link → place_of link numbers ≡ Some place
placed_at numbers link place rises at =
    let within : place < length numbers = slice_get_within numbers place link at in
    let here : get_or numbers place link ≡ link = ap (λ o. option_map_or (λ (n : ℕ). n) o link) (sym (slice_get-get_or numbers place link within) ∙ at) in
    let first : position_or_len (λ n. n == link) numbers ≡ place = position_or_len_is (λ n. n == link) numbers place link (omega arith)
    (λ k less. other_behind numbers k place link rises less within here) (λ w. grind (arith, nat_tests)) in
    let inside : nat_lt place (length numbers) ≡ true = grind (arith, nat_tests) in
    ap (λ k. cond (nat_lt k (length numbers)) (Some k) None) first ∙ ap (λ b. cond b (Some place) None) inside

-- The link that is found at a place has the number there.
found_at : (numbers : List ℕ) (link place : ℕ) → place_of link numbers ≡ Some place → get_or numbers place 0 ≡ link
found_at numbers link place at =
    let is : (get_or numbers place 0 == link) ≡ true = (position-Some (λ number. number == link) numbers place 0 at).1 in
    grind (arith, nat_tests)

-- One place is that of one link.
pub same_link : (numbers : List ℕ) (one two place : ℕ) → place_of one numbers ≡ Some place → place_of two numbers ≡ Some place → one ≡ two
same_link numbers one two place first second = sym (found_at numbers one place first) ∙ found_at numbers two place second

-- A link that is among them has a place.
pub contained_place : (numbers : List ℕ) (link : ℕ) → IsStrictlySortedBy nat_cmp numbers → Contains numbers link → (place : ℕ) × (place_of link numbers ≡ Some place) × (place < length numbers)
contained_place numbers link rises has =
    (has.0, placed_at numbers link has.0 rises (slice_get-get_or numbers has.0 link has.1 ∙ ap Some has.2), has.1)
