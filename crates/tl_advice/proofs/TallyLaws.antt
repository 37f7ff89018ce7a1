-- One row more, and one rule more.
use Rattle.std.proofs.Common.{◌≡◌, ℕ, ◌+◌, ◌<◌, ◌≤◌, ◌&&◌, Bool, true, false, cond, List, [], ◌∷◌, ◌++◌, Option, Some, None, length, get_or, take, refl, sym, ap, subst, ◌∙◌, arith, append_assoc}
use Rattle.std.specs.Prelude.{nat_lt}
use Rattle.std.specs.List.{All}
use Rattle.std.specs.Option.{option_to_list}
use Rattle.std.proofs.lemmas.Bool.{false≢true}
use Rattle.std.proofs.lemmas.Bool.Decides.{nat_tests}
use Rattle.std.proofs.lemmas.List.{append-nil, take_more, take_all}
use Rattle.std.proofs.lemmas.List.Elements.{All-push, All-weaker, All-contains, Contains-append_left, Contains-push}
use Rattle.tl_tables.specs.declared.Rule.{Rule}
use Rattle.tl_topology.specs.Topology.{Topology}
use Rattle.tl_beats.specs.declared.Row.{Row}
use Rattle.tl_advice.specs.declared.tallies.Tally.{Tally}
use Rattle.tl_advice.specs.Tallies.{is_of, first_with, IsFirst, AreLinked, IsTallied, AreTallied}

never : {X : Type 0} (b : Bool) → b ≡ false → b ≡ true → X
never b isnt is = absurd (false≢true (sym isnt ∙ is))

-- ---- the first by cycle

-- the row before it stays the first
stays : (broken : Rule) (rows : List Row) (row first : Row) → IsFirst broken rows (Some first) → (is_of broken row ≡ true → first.cycle ≤ row.cycle) → IsFirst broken (rows ++ row ∷ []) (Some first)
stays broken rows row first known least =
    (Contains-append_left rows (row ∷ []) first known.0, known.1, All-push (λ r. is_of broken r ≡ true → first.cycle ≤ r.cycle) rows row known.2 least)

-- the row is the first
begins : (broken : Rule) (rows : List Row) (row : Row) → is_of broken row ≡ true → All (λ r. is_of broken r ≡ true → row.cycle ≤ r.cycle) rows → IsFirst broken (rows ++ row ∷ []) (Some row)
begins broken rows row own least = (Contains-push rows row, own, All-push (λ r. is_of broken r ≡ true → row.cycle ≤ r.cycle) rows row least (λ h. omega arith))

first_more : (broken : Rule) (rows : List Row) (row : Row) (first : Option Row) → IsFirst broken rows first → IsFirst broken (rows ++ row ∷ []) (first_with broken first row)
first_more broken rows row None known =
    elim (is_of broken row) as (λ b. is_of broken row ≡ b → IsFirst broken (rows ++ row ∷ []) (cond (b && true) (Some row) None)) [
      | true ↦ λ own. begins broken rows row own
          (All-weaker (λ r. is_of broken r ≡ false) (λ r. is_of broken r ≡ true → row.cycle ≤ r.cycle) (λ r isnt is. never (is_of broken r) isnt is) rows known)
      | false ↦ λ other. All-push (λ r. is_of broken r ≡ false) rows row known other
    ] refl
first_more broken rows row (Some first) known =
    elim (is_of broken row) as (λ b. is_of broken row ≡ b → IsFirst broken (rows ++ row ∷ []) (cond (b && nat_lt row.cycle first.cycle) (Some row) (Some first))) [
      | true ↦ λ own. elim (nat_lt row.cycle first.cycle) as (λ b. nat_lt row.cycle first.cycle ≡ b → IsFirst broken (rows ++ row ∷ []) (cond b (Some row) (Some first))) [
        | true ↦ λ less.
            let lt : row.cycle < first.cycle = grind (arith, nat_tests) in
            begins broken rows row own
            (All-weaker (λ r. is_of broken r ≡ true → first.cycle ≤ r.cycle) (λ r. is_of broken r ≡ true → row.cycle ≤ r.cycle) (λ r least is. let le = least is in omega (arith, le, lt)) rows known.2)
        | false ↦ λ more. let le : first.cycle ≤ row.cycle = grind (arith, nat_tests) in stays broken rows row first known (λ own. le)
      ] refl
      | false ↦ λ other. stays broken rows row first known (λ own. never (is_of broken row) other own)
    ] refl

pub first_next : (broken : Rule) (rows : List Row) (n : ℕ) (d : Row) (first now : Option Row) → n < length rows → IsFirst broken (take n rows) first → now ≡ first_with broken first (get_or rows n d)
    → IsFirst broken (take (n + 1) rows) now
first_next broken rows n d first now within known is =
    subst (λ rs. IsFirst broken rs now) (sym (take_more rows n d within))
    (subst (IsFirst broken (take n rows ++ get_or rows n d ∷ [])) (sym is) (first_more broken (take n rows) (get_or rows n d) first known))

pub first_all : (broken : Rule) (rows : List Row) (n : ℕ) (first : Option Row) → length rows ≤ n → IsFirst broken (take n rows) first → IsFirst broken rows first
first_all broken rows n first end known = subst (λ rs. IsFirst broken rs first) (take_all n rows end) known

-- the link of the first is one of the topology
pub first_linked : (topo : Topology) (broken : Rule) (rows : List Row) (first : Row) → AreLinked topo rows → IsFirst broken rows (Some first) → first.link < length topo.links
first_linked topo broken rows first linked known = All-contains (λ row. row.link < length topo.links) rows first linked known.0

-- ---- rule by rule

tallied_more : (topo : Topology) (rules : List Rule) (broken : Rule) (rows : List Row) (tallies : List Tally) (found : Option Tally) → AreTallied topo rules rows tallies → IsTallied topo broken rows found
    → AreTallied topo (rules ++ broken ∷ []) rows (tallies ++ option_to_list found)
tallied_more topo [] broken rows tallies found known own =
    (found, [], own, refl, ap (λ ts. ts ++ option_to_list found) known ∙ sym (append-nil (option_to_list found)))
tallied_more topo (other ∷ rules) broken rows tallies found known own = (
  known.0,
  known.1 ++ option_to_list found,
  known.2,
  tallied_more topo rules broken rows known.1 found known.3 own,
  ap (λ ts. ts ++ option_to_list found) known.4 ∙ append_assoc (option_to_list known.0) known.1 (option_to_list found),
)

pub tallied_next : (topo : Topology) (rules : List Rule) (n : ℕ) (d : Rule) (rows : List Row) (tallies now : List Tally) (found : Option Tally) → n < length rules
    → AreTallied topo (take n rules) rows tallies → IsTallied topo (get_or rules n d) rows found → now ≡ tallies ++ option_to_list found → AreTallied topo (take (n + 1) rules) rows now
tallied_next topo rules n d rows tallies now found within known own is =
    subst (λ rs. AreTallied topo rs rows now) (sym (take_more rules n d within))
    (subst (AreTallied topo (take n rules ++ get_or rules n d ∷ []) rows) (sym is) (tallied_more topo (take n rules) (get_or rules n d) rows tallies found known own))

pub tallied_all : (topo : Topology) (rules : List Rule) (n : ℕ) (rows : List Row) (tallies : List Tally) → length rules ≤ n → AreTallied topo (take n rules) rows tallies → AreTallied topo rules rows tallies
tallied_all topo rules n rows tallies end known = subst (λ rs. AreTallied topo rs rows tallies) (take_all n rules end) known
