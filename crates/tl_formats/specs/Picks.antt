-- Which rows are wanted, which are known, and which are left.
use Rattle.std.specs.Prelude.{ℕ, ◌==◌, ◌&&◌, ◌||◌, not, Bool, true, List, Option, Some, None, length}
use Rattle.std.specs.List.{list_any}
use Rattle.tl_tables.specs.declared.Rule.{Rule}
use Rattle.tl_tables.specs.Rules.{rule_number}
use Rattle.tl_beats.specs.declared.Row.{Row}
use Rattle.tl_rows.specs.Choice.{has_cycle}
use Rattle.tl_formats.specs.declared.pick.Waiver.{Waiver}
use Rattle.tl_formats.specs.declared.pick.Pick.{Pick}

-- It is the named one, where one is named.
abbrev pub is_rule : Option Rule → Rule → Bool
is_rule None broken = true
is_rule (Some named) broken = rule_number named == rule_number broken

abbrev pub is_link : Option ℕ → ℕ → Bool
is_link None link = true
is_link (Some named) link = named == link

-- The waiver accepts the row.
abbrev pub fits : Row → Waiver → Bool
fits row waiver = (is_rule waiver.rule row.rule && is_link waiver.link row.link) && has_cycle waiver.cycles row.cycle

-- It is one of a list.
abbrev pub is_named_rule : List Rule → Rule → Bool
is_named_rule rules broken = list_any (λ other. rule_number other == rule_number broken) rules

abbrev pub is_named_link : List ℕ → ℕ → Bool
is_named_link links link = list_any (λ other. other == link) links

-- It is one of a list, of which an empty one means all.
abbrev pub has_rule : List Rule → Rule → Bool
has_rule rules broken = (length rules == 0) || is_named_rule rules broken

abbrev pub has_link : List ℕ → ℕ → Bool
has_link links link = (length links == 0) || is_named_link links link

-- The row is wanted, by its rule, its link and its cycle.
abbrev pub chooses : Pick → Row → Bool
chooses pick row = (has_rule pick.rules.items row.rule && has_link pick.links.items row.link) && has_cycle pick.cycles row.cycle

-- A waiver accepts the row.
abbrev pub waives : Pick → Row → Bool
waives pick row = list_any (fits row) pick.waivers.items

-- What is printed: a row that is wanted and that no waiver accepts.
abbrev pub is_left : Pick → Row → Bool
is_left pick row = chooses pick row && not (waives pick row)

-- What is waived: a row that is wanted and that a waiver accepts.
abbrev pub is_waived : Pick → Row → Bool
is_waived pick row = chooses pick row && waives pick row

-- The waiver accepts one of the rows, or none.
abbrev pub is_used : List Row → Waiver → Bool
is_used rows waiver = list_any (λ row. fits row waiver) rows

abbrev pub is_unused : List Row → Waiver → Bool
is_unused rows waiver = not (is_used rows waiver)
