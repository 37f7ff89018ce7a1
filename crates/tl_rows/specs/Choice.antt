-- Which rows are meant: a rule by its name, cycles, and a row by its name.
use Rattle.std.specs.Prelude.{ℕ, ◌==◌, ◌&&◌, Bool, List, find, Option, nat_le}
use Rattle.std.specs.Str.{str_eq_ignore_ascii_case}
use Rattle.tl_tables.specs.declared.Rule.{Rule}
use Rattle.tl_tables.specs.Rules.{rule_number, rule_text_of, all_rules}
use Rattle.tl_beats.specs.declared.Row.{Row}
use Rattle.tl_rows.specs.declared.cycles.Cycles.{Cycles}
use Rattle.tl_rows.specs.declared.row_name.RowName.{RowName}

-- A report calls the rule so, in any case of letters.
abbrev pub is_called : List ℕ → Rule → Bool
is_called name broken = str_eq_ignore_ascii_case (rule_text_of broken) name

-- The rule that a word names; its opaque name keeps the table out of goals.
unfoldable pub named_rule : List ℕ → Option Rule
named_rule name = find (is_called name) all_rules

-- The cycle is one of these; the first and the last are.
abbrev pub has_cycle : Cycles → ℕ → Bool
has_cycle cycles cycle = nat_le cycles.first cycle && nat_le cycle cycles.last

-- The row of this name on a link.
abbrev pub is_named : ℕ → RowName → Row → Bool
is_named link name row = ((row.link == link) && (row.fragment == name.fragment)) && ((row.line == name.line) && (rule_number row.rule == rule_number name.rule))
