-- Rows by rule: how many there are, and which is the first by cycle.
use Rattle.std.specs.Prelude.{◌≡◌, ◌<◌, ◌≤◌, ◌==◌, ◌&&◌, ◌++◌, Bool, true, false, List, [], ◌∷◌, Option, Some, None, if◌then◌else◌, count_by, length, nat_lt}
use Rattle.std.specs.List.{All, Contains}
use Rattle.std.specs.Option.{option_to_list}
use Rattle.tl_tables.specs.declared.Rule.{Rule}
use Rattle.tl_tables.specs.Rules.{rule_number}
use Rattle.tl_topology.specs.Topology.{Topology}
use Rattle.tl_beats.specs.declared.Row.{Row}
use Rattle.tl_show.specs.Lines.{link_at}
use Rattle.tl_advice.specs.declared.tallies.Tally.{Tally}

-- The row breaks the rule.
abbrev pub is_of : Rule → Row → Bool
is_of broken row = rule_number broken == rule_number row.rule

-- Its cycle is before that of the first so far, if there is one.
abbrev pub is_earlier : Row → Option Row → Bool
is_earlier row None = true
is_earlier row (Some first) = nat_lt row.cycle first.cycle

-- The first, one row more being looked at.
abbrev pub first_with : Rule → Option Row → Row → Option Row
first_with broken first row = if is_of broken row && is_earlier row first then Some row else first

-- None of the rows breaks the rule; or this one does, and none that does is of an earlier cycle.
abbrev pub IsFirst : Rule → List Row → Option Row → Type 0
IsFirst broken rows None = All (λ row. is_of broken row ≡ false) rows
IsFirst broken rows (Some first) = Contains rows first × (is_of broken first ≡ true) × All (λ row. is_of broken row ≡ true → first.cycle ≤ row.cycle) rows

-- The topology has the links of these rows.
abbrev pub AreLinked : Topology → List Row → Type 0
AreLinked topo rows = All (λ row. row.link < length topo.links) rows

-- What is told of the rows of a rule: how many they are, and the first of them by cycle, with the name of its link.
pub record IsTally (topo : Topology) (broken : Rule) (rows : List Row) (tally : Tally) : Type 0 where
  pub own : tally.rule ≡ broken
  pub counted : tally.count ≡ count_by (is_of broken) rows
  pub first : IsFirst broken rows (Some tally.first)
  pub named : tally.name ≡ (link_at topo tally.first.link).name

-- The same, or nothing where no row breaks it.
abbrev pub IsTallied : Topology → Rule → List Row → Option Tally → Type 0
IsTallied topo broken rows None = All (λ row. is_of broken row ≡ false) rows
IsTallied topo broken rows (Some tally) = IsTally topo broken rows tally

-- The rules one after the other, each with what is told of its rows.
abbrev pub AreTallied : Topology → List Rule → List Row → List Tally → Type 0
AreTallied topo [] rows tallies = tallies ≡ []
AreTallied topo (broken ∷ rules) rows tallies =
    (found : Option Tally) × (rest : List Tally) × IsTallied topo broken rows found × AreTallied topo rules rows rest × (tallies ≡ option_to_list found ++ rest)
