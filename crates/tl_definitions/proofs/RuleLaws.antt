-- The rules of one beat stand in the order of reports, each once.
use Rattle.std.proofs.Common.{◌≡◌, ℕ, ◌<◌, ◌≤◌, Bool, true, false, cond, List, [], ◌∷◌, ◌++◌, Option, Some, None, refl, sym, arith}
use Rattle.std.specs.Prelude.{◌&&◌, filter, nat_le, nat_lt}
use Rattle.std.specs.declared.cmp.Ordering.{Ordering}
use Rattle.std.specs.declared.cmp.Ordering.TheVariants.{Less}
use Rattle.std.specs.Cmp.{IsTotalOrder, nat_cmp_is}
use Rattle.std.specs.Option.{option_map_or}
use Rattle.std.specs.List.{AllByRecursion, list_all}
use Rattle.std.specs.List.Sorted.{IsStrictlySortedBy}
use Rattle.std.proofs.lemmas.Bool.{and_parts}
use Rattle.std.proofs.lemmas.Bool.Decides.{nat_tests}
use Rattle.std.proofs.lemmas.Cmp.{nat_cmp_total, on_total}
use Rattle.std.proofs.lemmas.List.Kept.{IsStrictlySortedBy-filter}
use Rattle.tl_tables.specs.declared.Op.{Op}
use Rattle.tl_tables.specs.declared.Rule.{Rule}
use Rattle.tl_tables.specs.declared.Rule.TheVariants as rule
use Rattle.tl_tables.specs.Rules.{rule_number}
use Rattle.tl_topology.specs.declared.LinkDecl.{LinkDecl}
use Rattle.tl_beats.specs.declared.Beat.{Beat}
use Rattle.tl_beats.specs.declared.Placed.{Placed}
use Rattle.tl_definitions.specs.Heads.{message_of, before_on, last_head}
use Rattle.tl_definitions.specs.Messages.{Message, messages_on, message_at, at_head}
use Rattle.tl_definitions.specs.Past.{pasts_of}
use Rattle.tl_definitions.specs.Rules.{Manager, breaks_format, breaks_flow, breaks_permission, breaks_manager, format_order, flow_order, permission_order, manager_order}
use Rattle.tl_definitions.specs.Breaks.{breaks_later, later_order, later_rules, head_rules}
use Rattle.tl_definitions.specs.Report.{by_number, RulesRise}
use Rattle.tl_definitions.proofs.Lists.{kept_from, all_of, all_by}
use Rattle.tl_definitions.proofs.RisingLaws.{strict_both}

number_total : IsTotalOrder by_number
number_total = on_total rule_number nat_cmp_total

abbrev AreBelow : ℕ → List Rule → Type 0
AreBelow n rules = AllByRecursion (λ r. rule_number r < n) rules

abbrev AreFrom : ℕ → List Rule → Type 0
AreFrom n rules = AllByRecursion (λ r. n ≤ rule_number r) rules

kept_all : (P : Rule → Type 0) (kept : Rule → Bool) (rules : List Rule) → AllByRecursion P rules → AllByRecursion P (filter kept rules)
kept_all P kept rules all = all_by P (filter kept rules) (λ r h. all_of P rules all r (kept_from kept rules r h).0)

all_both : (P : Rule → Type 0) (xs ys : List Rule) → AllByRecursion P xs → AllByRecursion P ys → AllByRecursion P (xs ++ ys)
all_both P [] ys a b = b
all_both P (x ∷ xs) ys a b = (a.0, all_both P xs ys a.1 b)

wider : (m n : ℕ) (rules : List Rule) → m ≤ n → AreBelow m rules → AreBelow n rules
wider m n [] le all = tt
wider m n (r ∷ rules) le all = (omega (arith, le, all.0), wider m n rules le all.1)

less : (x y : Rule) (n : ℕ) → rule_number x < n → n ≤ rule_number y → by_number x y ≡ Less
less x y n a b = sym (nat_cmp_is (rule_number x) (rule_number y) Less (omega (arith, a, b)))

joined : (n : ℕ) (xs ys : List Rule) → IsStrictlySortedBy by_number xs → IsStrictlySortedBy by_number ys → AreBelow n xs → AreFrom n ys → IsStrictlySortedBy by_number (xs ++ ys)
joined n xs ys up_x up_y below from = strict_both by_number number_total xs ys up_x up_y (λ x y h g. less x y n (all_of (λ r. rule_number r < n) xs below x h) (all_of (λ r. n ≤ rule_number r) ys from y g))

-- Whether rules stand in the order of reports, each once, as a test that computes.
abbrev is_less : Ordering → Bool
is_less Less = true
is_less _ = false

abbrev are_above : Rule → List Rule → Bool
are_above r [] = true
are_above r (s ∷ rules) = is_less (by_number r s) && are_above r rules

abbrev pub do_rise : List Rule → Bool
do_rise [] = true
do_rise (r ∷ rules) = are_above r rules && do_rise rules

less_is : (o : Ordering) → is_less o ≡ true → o ≡ Less
less_is Less h = refl
less_is _ h = cc

above_all : (r : Rule) (rules : List Rule) → are_above r rules ≡ true → AllByRecursion (λ s. by_number r s ≡ Less) rules
above_all r [] h = tt
above_all r (s ∷ rules) h = let parts = and_parts _ _ h in (less_is (by_number r s) parts.0, above_all r rules parts.1)

pub rising : (rules : List Rule) → do_rise rules ≡ true → IsStrictlySortedBy by_number rules
unfolding IsStrictlySortedBy
rising [] h = tt
rising (r ∷ rules) h = let parts = and_parts _ _ h in (above_all r rules parts.0, rising rules parts.1)

is_under : (m n : ℕ) → nat_lt m n ≡ true → m < n
is_under m n h = grind (arith, nat_tests)

is_over : (m n : ℕ) → nat_le m n ≡ true → m ≤ n
is_over m n h = grind (arith, nat_tests)

-- Whether all of some rules come before another, or none of them does.
below_all : (n : ℕ) (rules : List Rule) → list_all (λ r. nat_lt (rule_number r) n) rules ≡ true → AreBelow n rules
below_all n [] h = tt
below_all n (r ∷ rules) h =
    let parts = and_parts (nat_lt (rule_number r) n) (list_all (λ s. nat_lt (rule_number s) n) rules) h in
    (is_under (rule_number r) n parts.0, below_all n rules parts.1)

from_all : (n : ℕ) (rules : List Rule) → list_all (λ r. nat_le n (rule_number r)) rules ≡ true → AreFrom n rules
from_all n [] h = tt
from_all n (r ∷ rules) h =
    let parts = and_parts (nat_le n (rule_number r)) (list_all (λ s. nat_le n (rule_number s)) rules) h in
    (is_over n (rule_number r) parts.0, from_all n rules parts.1)

pub four_rise : (f s p m : Rule → Bool) → IsStrictlySortedBy by_number (filter f format_order ++ filter s flow_order ++ filter p permission_order ++ filter m manager_order)
four_rise f s p m =
    let formats = filter f format_order in
    let flows = filter s flow_order in
    let permissions = filter p permission_order in
    let formats_below : AreBelow (rule_number rule.S1) formats = kept_all (λ r. rule_number r < rule_number rule.S1) f format_order (below_all _ format_order refl) in
    let flows_below : AreBelow (rule_number rule.P1) flows = kept_all (λ r. rule_number r < rule_number rule.P1) s flow_order (below_all _ flow_order refl) in
    let two = joined (rule_number rule.S1) formats flows (IsStrictlySortedBy-filter by_number f format_order (rising format_order refl)) (IsStrictlySortedBy-filter by_number s flow_order (rising flow_order refl))
    formats_below (kept_all (λ r. rule_number rule.S1 ≤ rule_number r) s flow_order (from_all _ flow_order refl)) in
    let two_below : AreBelow (rule_number rule.P1) (formats ++ flows) = all_both (λ r. rule_number r < rule_number rule.P1) formats flows (wider (rule_number rule.S1) (rule_number rule.P1) formats (omega arith) formats_below) flows_below in
    let three = joined (rule_number rule.P1) (formats ++ flows) permissions two (IsStrictlySortedBy-filter by_number p permission_order (rising permission_order refl))
    two_below (kept_all (λ r. rule_number rule.P1 ≤ rule_number r) p permission_order (from_all _ permission_order refl)) in
    let three_below : AreBelow (rule_number rule.M1) (formats ++ flows ++ permissions) =
    all_both (λ r. rule_number r < rule_number rule.M1) (formats ++ flows) permissions (wider (rule_number rule.P1) (rule_number rule.M1) (formats ++ flows) (omega arith) two_below) (kept_all (λ r. rule_number r < rule_number rule.M1) p permission_order (below_all _ permission_order refl)) in
    joined (rule_number rule.M1) (formats ++ flows ++ permissions) (filter m manager_order) three (IsStrictlySortedBy-filter by_number m manager_order (rising manager_order refl))
    three_below (kept_all (λ r. rule_number rule.M1 ≤ rule_number r) m manager_order (from_all _ manager_order refl))

head_rises : (m : Manager) (before : List Placed) (p : Placed) (found : Option Op) → IsStrictlySortedBy by_number (head_rules m before p found)
unfolding IsStrictlySortedBy
head_rises m before p None = (tt, tt)
head_rises m before p (Some o) =
    let pasts = pasts_of m.links m.exponent before in
    let message : Message = message_at (messages_on m.links p.link before) p.beat o in
    four_rise (breaks_format m.exponent m.regions (m.links p.link) o p.beat) (breaks_flow (pasts p.link).flow message) (breaks_permission (m.links p.link).strict m.exponent (pasts p.link).client message)
    (breaks_manager m.clients m.exponent (λ client. (pasts client).client) p.link message)

pub later_rises : (decl : LinkDecl) (beat head : Beat) (found : Option Op) → IsStrictlySortedBy by_number (option_map_or (λ o. filter (breaks_later decl o head beat) later_order) found [])
unfolding IsStrictlySortedBy
later_rises decl beat head None = tt
later_rises decl beat head (Some o) = IsStrictlySortedBy-filter by_number (breaks_later decl o head beat) later_order (rising later_order refl)

last_rises : (decl : LinkDecl) (beat : Beat) (last : Option Beat) → IsStrictlySortedBy by_number (option_map_or (later_rules decl beat) last [])
unfolding IsStrictlySortedBy
last_rises decl beat None = tt
last_rises decl beat (Some head) = later_rises decl beat head (message_of decl head)

pub rules_rise : RulesRise
rules_rise m before p =
    let decl : LinkDecl = m.links p.link in
    let last : List Rule = option_map_or (later_rules decl p.beat) (last_head decl (before_on p.link p.beat.chan before)) [] in
    elim (at_head m.links before p) as (λ b. IsStrictlySortedBy by_number (cond b (head_rules m before p (message_of decl p.beat)) last)) [
      | true ↦ head_rises m before p (message_of decl p.beat)
      | false ↦ last_rises decl p.beat (last_head decl (before_on p.link p.beat.chan before))
    ]
