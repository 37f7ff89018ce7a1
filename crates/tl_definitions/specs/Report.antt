-- The report: the rows of all broken rules, each once and in order.
use Rattle.std.specs.Prelude.{ℕ, ◌≡◌, ◌==◌, ◌↔◌, List, [], ◌∷◌, ◌++◌, filter}
use Rattle.std.specs.declared.cmp.Ordering.{Ordering}
use Rattle.std.specs.declared.cmp.Ordering.TheVariants.{Equal}
use Rattle.std.specs.Ordering.{nat_cmp, on, then_cmp, match_ordering}
use Rattle.std.specs.Option.{option_cmp}
use Rattle.std.specs.List.{Contains}
use Rattle.std.specs.List.Sorted.{IsStrictlySortedBy}
use Rattle.tl_tables.specs.declared.Rule.{Rule}
use Rattle.tl_tables.specs.Messages.{chan_number}
use Rattle.tl_tables.specs.Rules.{rule_number}
use Rattle.tl_beats.specs.declared.Placed.{Placed}
use Rattle.tl_beats.specs.declared.Row.{Row}
use Rattle.tl_beats.specs.declared.watch.Watch.{Watch}
use Rattle.tl_definitions.specs.Positions.{position_order}
use Rattle.tl_definitions.specs.Rules.{Manager}
use Rattle.tl_definitions.specs.Breaks.{Breaks, rules_at, rows_in}
use Rattle.tl_definitions.specs.Watching.{Flags, flags_in}

abbrev pub by_number : Rule → Rule → Ordering
by_number = on rule_number nat_cmp

-- The rules of one beat stand in the order of reports, each once.
abbrev pub RulesRise : Type 0
RulesRise = (m : Manager) (before : List Placed) (p : Placed) → IsStrictlySortedBy by_number (rules_at m before p)

-- By link number, cycle, channel, rule and monitor, a row of a manager's rule before those of monitors.
abbrev pub key_order : Row → Row → Ordering
key_order =
    then_cmp (on (λ row. row.link) nat_cmp) (then_cmp (on (λ row. row.cycle) nat_cmp) (then_cmp (on (λ row. chan_number row.chan) nat_cmp)
    (then_cmp (on (λ row. rule_number row.rule) nat_cmp) (on (λ row. row.monitor) (option_cmp nat_cmp)))))

-- The same, then by where the beat is written, so that only equal rows tie.
abbrev pub row_order : Row → Row → Ordering
row_order =
    then_cmp (on (λ row. row.link) nat_cmp) (then_cmp (on (λ row. row.cycle) nat_cmp) (then_cmp (on (λ row. chan_number row.chan) nat_cmp)
    (then_cmp (on (λ row. rule_number row.rule) nat_cmp) (then_cmp (on (λ row. row.monitor) (option_cmp nat_cmp))
    (then_cmp (on (λ row. row.fragment) nat_cmp) (on (λ row. row.line) nat_cmp))))))

-- What is judged: the beats of a manager in the order of positions, or those of the link that a monitor watches.
pub data Capture : Type 0 where
  of_manager : Manager → List Placed → Capture
  of_monitor : ℕ → Watch → List Placed → Capture

abbrev pub captured : Capture → List Placed
captured (of_manager m beats) = beats
captured (of_monitor monitor w beats) = beats

-- The row is of a beat of the capture: of a rule that it breaks, or of the monitor whose watch flags it.
abbrev pub Finds : Capture → Row → Type 0
Finds (of_manager m beats) row = Breaks m beats row
Finds (of_monitor monitor w beats) row = Flags monitor w beats row

abbrev pub FindsIn : List Capture → Row → Type 0
FindsIn captures row = (capture : Capture) × Contains captures capture × Finds capture row

-- The rows rise strictly by their keys, and a row is among them if and only if its beat breaks its rule or is flagged by its monitor.
pub record IsReport (captures : List Capture) (rows : List Row) : Type 0 where
  pub rises : IsStrictlySortedBy key_order rows
  pub members : (row : Row) → Contains rows row ↔ FindsIn captures row

-- All rows of the captures, one capture after the other.
abbrev pub rows_of : Capture → List Row
rows_of (of_manager m beats) = rows_in m beats
rows_of (of_monitor monitor w beats) = flags_in monitor w beats

abbrev pub all_rows : List Capture → List Row
all_rows [] = []
all_rows (capture ∷ captures) = rows_of capture ++ all_rows captures

abbrev pub insert_row : Row → List Row → List Row
insert_row row [] = row ∷ []
insert_row row (r ∷ rows) = match_ordering (row_order row r) (row ∷ r ∷ rows) (r ∷ rows) (r ∷ insert_row row rows)

abbrev pub sorted_rows : List Row → List Row
sorted_rows [] = []
sorted_rows (row ∷ rows) = insert_row row (sorted_rows rows)

-- The report, computed.
abbrev pub report_of : List Capture → List Row
report_of captures = sorted_rows (all_rows captures)

-- A row is among them if and only if its beat breaks its rule.
abbrev pub RowsAreBreaks : Type 0
RowsAreBreaks = (m : Manager) (beats : List Placed) (row : Row) → Contains (rows_in m beats) row ↔ Breaks m beats row

-- There is at most one report.
abbrev pub OneReport : Type 0
OneReport = (captures : List Capture) (one two : List Row) → IsReport captures one → IsReport captures two → one ≡ two

-- Beats of one link, cycle and channel are written at one place.
abbrev pub HasOnePlace : List Capture → Type 0
HasOnePlace captures = (here there : Capture) (p q : Placed) → Contains captures here → Contains captures there → Contains (captured here) p → Contains (captured there) q
    → position_order p q ≡ Equal → (p.fragment ≡ q.fragment) × (p.line ≡ q.line)

-- Rows in strict order that are those of the captures are the report, where beats have one place.
abbrev pub SortedRowsAreTheReport : Type 0
SortedRowsAreTheReport = (captures : List Capture) (rows : List Row) → HasOnePlace captures → IsStrictlySortedBy row_order rows
    → ((row : Row) → Contains rows row ↔ Contains (all_rows captures) row) → IsReport captures rows

-- So there is one, and it can be computed.
abbrev pub ReportsAreComputed : Type 0
ReportsAreComputed = (captures : List Capture) → HasOnePlace captures → IsReport captures (report_of captures)

-- Beats that rise strictly have one place, and so have captures that hold of each link, where they share one, the same beats.
abbrev pub RisingBeatsHaveOnePlace : Type 0
RisingBeatsHaveOnePlace = (captures : List Capture) → ((capture : Capture) → Contains captures capture → IsStrictlySortedBy position_order (captured capture))
    → ((here there : Capture) (p q : Placed) → Contains captures here → Contains captures there → Contains (captured here) p → Contains (captured there) q
    → p.link ≡ q.link → filter (λ r. r.link == p.link) (captured here) ≡ filter (λ r. r.link == p.link) (captured there))
    → HasOnePlace captures
