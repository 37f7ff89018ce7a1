-- There is one report, and it can be computed.
use Rattle.std.proofs.Common.{◌≡◌, ℕ, ◌⊎◌, inl, inr, List, [], ◌∷◌, ◌++◌, Option, Some, None, refl, sym, ap, subst, ◌∙◌}
use Rattle.std.specs.Prelude.{map, ◌↔◌, slice_get}
use Rattle.std.specs.declared.cmp.Ordering.{Ordering}
use Rattle.std.specs.declared.cmp.Ordering.TheVariants.{Less, Equal, Greater}
use Rattle.std.specs.Ordering.{nat_cmp, ordering_then, match_ordering, ordering_reverse}
use Rattle.std.specs.Option.{option_cmp}
use Rattle.std.specs.Cmp.{IsTotalOrder}
use Rattle.std.specs.FinMap.{nat_cmp-IsAntisymmetric}
use Rattle.std.specs.Cmp.Lexicographic.{options_total}
use Rattle.std.specs.List.{Contains, AllByRecursion}
use Rattle.std.specs.List.Sorted.{IsStrictlySortedBy}
use Rattle.std.proofs.lemmas.Cmp.{then_total, on_total, nat_cmp_total}
use Rattle.std.proofs.lemmas.List.Elements.{Contains-append_left, Contains-append_right, Contains-append_cases}
use Rattle.tl_tables.specs.declared.Rule.{Rule}
use Rattle.tl_tables.specs.declared.Rule.TheVariants as rule
use Rattle.tl_tables.specs.Messages.{chan_number}
use Rattle.tl_beats.specs.declared.Placed.{Placed}
use Rattle.tl_beats.specs.declared.Row.{Row}
use Rattle.tl_definitions.specs.Positions.{position_order}
use Rattle.tl_definitions.specs.Rules.{Manager}
use Rattle.tl_definitions.specs.Breaks.{rules_at, row_of, Breaks, rows_after, rows_in}
use Rattle.tl_tables.specs.Rules.{all_rules, rule_number}
use Rattle.tl_definitions.specs.Report.{key_order, row_order, Capture, of_manager, of_monitor, captured, Finds, FindsIn, rows_of, all_rows, insert_row, sorted_rows, report_of, HasOnePlace, IsReport, RowsAreBreaks, OneReport, SortedRowsAreTheReport, ReportsAreComputed}
use Rattle.tl_definitions.proofs.OrderLaws.{tie_first, tie_rest, both_tie, tied, one_chan}
use Rattle.tl_definitions.proofs.RisingLaws.{row_with}
use Rattle.tl_definitions.proofs.WatchLaws.{rows_are_flags}
use Rattle.tl_definitions.proofs.Lists.{contains_none, contains_here, contains_there, contains_cases, contains_mapped, mapped_from, all_of, all_by, onto, onto_reverse}

-- Rows and the rules that are broken.
abbrev BreaksAfter : Manager → List Placed → List Placed → Row → Type 0
BreaksAfter m before beats row = (earlier later : List Placed) × (p : Placed) × (beats ≡ earlier ++ p ∷ later)
    × Contains (rules_at m (onto before earlier) p) row.rule × (row ≡ row_of p row.rule)

breaks_from : (m : Manager) (before beats : List Placed) (row : Row) → Contains (rows_after m before beats) row → BreaksAfter m before beats row
breaks_from m before [] row h = absurd (contains_none row h)
breaks_from m before (p ∷ beats) row h = elim (Contains-append_cases (map (row_of p) (rules_at m before p)) (rows_after m (p ∷ before) beats) row h) [
  | inl a ↦ (let found = mapped_from (row_of p) (rules_at m before p) row a in
      let same : found.0 ≡ row.rule = ap (λ (r : Row). r.rule) found.2 in
      ([], beats, p, refl, subst (Contains (rules_at m before p)) same found.1, sym found.2 ∙ ap (row_of p) same))
  | inr b ↦ (let known = breaks_from m (p ∷ before) beats row b in (p ∷ known.0, known.1, known.2, ap (λ ps. p ∷ ps) known.3, known.4, known.5))
]

row_there : (m : Manager) (before earlier later : List Placed) (p : Placed) (row : Row) → Contains (rules_at m (onto before earlier) p) row.rule → row ≡ row_of p row.rule
    → Contains (rows_after m before (earlier ++ p ∷ later)) row
row_there m before [] later p row h e =
    Contains-append_left (map (row_of p) (rules_at m before p)) (rows_after m (p ∷ before) later) row
    (subst (Contains (map (row_of p) (rules_at m before p))) (sym e) (contains_mapped (row_of p) (rules_at m before p) row.rule h))
row_there m before (q ∷ earlier) later p row h e =
    Contains-append_right (map (row_of q) (rules_at m before q)) (rows_after m (q ∷ before) (earlier ++ p ∷ later)) row (row_there m (q ∷ before) earlier later p row h e)

pub rows_are_breaks : RowsAreBreaks
rows_are_breaks m beats row = (
  (λ h. let known = breaks_from m [] beats row h in
      (known.0, known.1, known.2, known.3, subst (λ before. Contains (rules_at m before known.2) row.rule) (onto_reverse [] known.0) known.4, known.5)),
  (λ r. subst (λ ps. Contains (rows_in m ps) row) (sym r.3)
      (row_there m [] r.0 r.1 r.2 row (subst (λ before. Contains (rules_at m before r.2) row.rule) (sym (onto_reverse [] r.0)) r.4) r.5)),
)

-- Rows of several captures.
found_in : (capture : Capture) (row : Row) → Contains (rows_of capture) row → Finds capture row
found_in (of_manager m beats) row h = (rows_are_breaks m beats row).0 h
found_in (of_monitor monitor w beats) row h = (rows_are_flags monitor w beats row).0 h

found_from : (capture : Capture) (row : Row) → Finds capture row → Contains (rows_of capture) row
found_from (of_manager m beats) row r = (rows_are_breaks m beats row).1 r
found_from (of_monitor monitor w beats) row r = (rows_are_flags monitor w beats row).1 r

in_captures : (captures : List Capture) (row : Row) → Contains (all_rows captures) row → FindsIn captures row
in_captures [] row h = absurd (contains_none row h)
in_captures (capture ∷ captures) row h = elim (Contains-append_cases (rows_of capture) (all_rows captures) row h) [
  | inl a ↦ (capture, contains_here capture captures, found_in capture row a)
  | inr b ↦ (let known = in_captures captures row b in (known.0, contains_there capture captures known.0 known.1, known.2))
]

from_captures : (captures : List Capture) (row : Row) → FindsIn captures row → Contains (all_rows captures) row
from_captures [] row r = absurd (contains_none r.0 r.1)
from_captures (capture ∷ captures) row r = elim (contains_cases capture captures r.0 r.1) [
  | inl e ↦ Contains-append_left (rows_of capture) (all_rows captures) row (found_from capture row (subst (λ c. Finds c row) (sym e) r.2))
  | inr there ↦ Contains-append_right (rows_of capture) (all_rows captures) row (from_captures captures row (r.0, there, r.2))
]

-- Lists in strict order with the same members are one list.
module _ {X : Type 0} (R : X → X → Ordering) (total : IsTotalOrder R) where
  never : (x y : X) → R x y ≡ Less → R y x ≡ Less → ⊥
  never x y h g = let e : Less ≡ Greater = sym h ∙ total.antisymm x y ∙ ap ordering_reverse g in cc

  not_below_itself : (x : X) → R x x ≡ Less → ⊥
  not_below_itself x h = never x x h h

  -- The first of two lists that have the same members.
  first_same : (x y : X) (xs ys : List X) → AllByRecursion (λ z. R x z ≡ Less) xs → AllByRecursion (λ z. R y z ≡ Less) ys → Contains (y ∷ ys) x → Contains (x ∷ xs) y → x ≡ y
  first_same x y xs ys up down h g = elim (contains_cases y ys x h) [
    | inl e ↦ sym e
    | inr below ↦ elim (contains_cases x xs y g) [
      | inl e ↦ e
      | inr above ↦ absurd (never x y (all_of (λ z. R x z ≡ Less) xs up y above) (all_of (λ z. R y z ≡ Less) ys down x below))
    ]
  ]

  rest_same : (x y z : X) (xs ys : List X) → x ≡ y → AllByRecursion (λ z. R x z ≡ Less) xs → Contains (y ∷ ys) z → Contains xs z → Contains ys z
  rest_same x y z xs ys same up h g = elim (contains_cases y ys z h) [
    | inl e ↦ absurd (not_below_itself x (all_of (λ z. R x z ≡ Less) xs up x (subst (Contains xs) (sym (same ∙ e)) g)))
    | inr r ↦ r
  ]

  pub strict_one : (xs ys : List X) → IsStrictlySortedBy R xs → IsStrictlySortedBy R ys → ((x : X) → Contains xs x ↔ Contains ys x) → xs ≡ ys
  unfolding IsStrictlySortedBy
  strict_one [] [] up down same = refl
  strict_one [] (y ∷ ys) up down same = absurd (contains_none y ((same y).1 (contains_here y ys)))
  strict_one (x ∷ xs) [] up down same = absurd (contains_none x ((same x).0 (contains_here x xs)))
  strict_one (x ∷ xs) (y ∷ ys) up down same =
      let head : x ≡ y = first_same x y xs ys up.0 down.0 ((same x).0 (contains_here x xs)) ((same y).1 (contains_here y ys)) in
      let tail : xs ≡ ys = strict_one xs ys up.1 down.1 (λ z. (
        (λ h. rest_same x y z xs ys head up.0 ((same z).0 (contains_there x xs z h)) h),
        (λ h. rest_same y x z ys xs (sym head) down.0 ((same z).1 (contains_there y ys z h)) h),
      )) in
      cc

pub key_total : IsTotalOrder key_order
key_total =
    then_total (on_total (λ (row : Row). row.link) nat_cmp_total) (then_total (on_total (λ (row : Row). row.cycle) nat_cmp_total) (then_total (on_total (λ (row : Row). chan_number row.chan) nat_cmp_total)
    (then_total (on_total (λ (row : Row). rule_number row.rule) nat_cmp_total) (on_total (λ (row : Row). row.monitor) (options_total nat_cmp_total)))))

pub row_total : IsTotalOrder row_order
row_total =
    then_total (on_total (λ (row : Row). row.link) nat_cmp_total) (then_total (on_total (λ (row : Row). row.cycle) nat_cmp_total) (then_total (on_total (λ (row : Row). chan_number row.chan) nat_cmp_total)
    (then_total (on_total (λ (row : Row). rule_number row.rule) nat_cmp_total) (then_total (on_total (λ (row : Row). row.monitor) (options_total nat_cmp_total))
    (then_total (on_total (λ (row : Row). row.fragment) nat_cmp_total) (on_total (λ (row : Row). row.line) nat_cmp_total))))))

pub one_report : OneReport
one_report captures one two first second = strict_one key_order key_total one two first.rises second.rises
    (λ row. ((λ h. (second.members row).1 ((first.members row).0 h)), (λ h. (first.members row).1 ((second.members row).0 h))))

-- Orders of more parts.
two : (d e p : Ordering) → ordering_then (ordering_then d e) p ≡ ordering_then d (ordering_then e p)
two Less e p = refl
two Equal e p = refl
two Greater e p = refl

five : (a b c d e p : Ordering) → ordering_then (ordering_then a (ordering_then b (ordering_then c (ordering_then d e)))) p ≡ ordering_then a (ordering_then b (ordering_then c (ordering_then d (ordering_then e p))))
five a b c d e p =
    two a (ordering_then b (ordering_then c (ordering_then d e))) p
    ∙ ap (ordering_then a) (two b (ordering_then c (ordering_then d e)) p ∙ ap (ordering_then b) (two c (ordering_then d e) p ∙ ap (ordering_then c) (two d e p)))

-- The first decides, where a tie leaves nothing to the second.
first_less : (o p : Ordering) → ordering_then o p ≡ Less → (o ≡ Equal → p ≡ Equal) → o ≡ Less
first_less Less p h tie = refl
first_less Equal p h tie = let e = tie refl in cc
first_less Greater p h tie = cc

-- Where beats are written.
abbrev place_order : Row → Row → Ordering
place_order x y = ordering_then (nat_cmp x.fragment y.fragment) (nat_cmp x.line y.line)

key_less : (x y : Row) → row_order x y ≡ Less → (key_order x y ≡ Equal → (x.fragment ≡ y.fragment) × (x.line ≡ y.line)) → key_order x y ≡ Less
key_less x y h place =
    first_less (key_order x y) (place_order x y)
    (five (nat_cmp x.link y.link) (nat_cmp x.cycle y.cycle) (nat_cmp (chan_number x.chan) (chan_number y.chan)) (nat_cmp (rule_number x.rule) (rule_number y.rule)) (option_cmp nat_cmp x.monitor y.monitor) (place_order x y) ∙ h)
    (λ e. both_tie (nat_cmp x.fragment y.fragment) (nat_cmp x.line y.line) (tied x.fragment y.fragment (place e).0) (tied x.line y.line (place e).1))

pub rises_by_key : (rows : List Row) → ((x y : Row) → Contains rows x → Contains rows y → key_order x y ≡ Equal → (x.fragment ≡ y.fragment) × (x.line ≡ y.line))
    → IsStrictlySortedBy row_order rows → IsStrictlySortedBy key_order rows
unfolding IsStrictlySortedBy
rises_by_key [] place rises = tt
rises_by_key (x ∷ rows) place rises = (
  all_by (λ y. key_order x y ≡ Less) rows (λ y h. key_less x y (all_of (λ z. row_order x z ≡ Less) rows rises.0 y h) (place x y (contains_here x rows) (contains_there x rows y h))),
  rises_by_key rows (λ y z h g. place y z (contains_there x rows y h) (contains_there x rows z g)) rises.1,
)

-- Rows with one key are of beats at one position.
pub same_place : (p q : Placed) (r s : Rule) (m n : Option ℕ) → key_order (row_with p r m) (row_with q s n) ≡ Equal → position_order p q ≡ Equal
same_place p q r s m n h =
    let link : Ordering = nat_cmp p.link q.link in
    let cycle : Ordering = nat_cmp p.beat.cycle q.beat.cycle in
    let channel : Ordering = nat_cmp (chan_number p.beat.chan) (chan_number q.beat.chan) in
    let rest : Ordering = ordering_then (nat_cmp (rule_number r) (rule_number s)) (option_cmp nat_cmp m n) in
    let after_link = tie_rest link (ordering_then cycle (ordering_then channel rest)) h in
    both_tie cycle (ordering_then channel link) (tie_first cycle (ordering_then channel rest) after_link)
    (both_tie channel link (tie_first channel rest (tie_rest cycle (ordering_then channel rest) after_link)) (tie_first link (ordering_then cycle (ordering_then channel rest)) h))

pub same_position : (p q : Placed) (r s : Rule) → key_order (row_of p r) (row_of q s) ≡ Equal → position_order p q ≡ Equal
same_position p q r s h = same_place p q r s None None h

-- The beat of a row.
pub stands_in : (capture : Capture) (row : Row) → Finds capture row → (p : Placed) × Contains (captured capture) p × (row ≡ row_with p row.rule row.monitor)
stands_in (of_manager m beats) row r = (
  r.2,
  subst (λ ps. Contains ps r.2) (sym r.3) (Contains-append_right r.0 (r.2 ∷ r.1) r.2 (contains_here r.2 r.1)),
  r.5 ∙ ap (row_with r.2 row.rule) (sym (ap (λ (z : Row). z.monitor) r.5)),
)
stands_in (of_monitor monitor w beats) row r = (
  r.2,
  subst (λ ps. Contains ps r.2) (sym r.3) (Contains-append_right r.0 (r.2 ∷ r.1) r.2 (contains_here r.2 r.1)),
  r.5 ∙ ap (λ x. row_with r.2 x (Some monitor)) (sym (ap (λ (z : Row). z.rule) r.5)) ∙ ap (row_with r.2 row.rule) (sym (ap (λ (z : Row). z.monitor) r.5)),
)

one_place : (captures : List Capture) → HasOnePlace captures → (x y : Row) → FindsIn captures x → FindsIn captures y → key_order x y ≡ Equal → (x.fragment ≡ y.fragment) × (x.line ≡ y.line)
one_place captures place x y here there tie =
    let one = stands_in here.0 x here.2 in
    let two = stands_in there.0 y there.2 in
    let p : Placed = one.0 in
    let q : Placed = two.0 in
    let tie_there : key_order (row_with p x.rule x.monitor) (row_with q y.rule y.monitor) ≡ Equal =
    sym (ap (λ z. key_order z (row_with q y.rule y.monitor)) one.2) ∙ sym (ap (key_order x) two.2) ∙ tie in
    let found = place here.0 there.0 p q here.1 there.1 one.1 two.1 (same_place p q x.rule y.rule x.monitor y.monitor tie_there) in (
      ap (λ (z : Row). z.fragment) one.2 ∙ found.0 ∙ sym (ap (λ (z : Row). z.fragment) two.2),
      ap (λ (z : Row). z.line) one.2 ∙ found.1 ∙ sym (ap (λ (z : Row). z.line) two.2),
    )

-- Rows in strict order that are found in the captures are their report.
pub found_rows_are_the_report : (captures : List Capture) (rows : List Row) → HasOnePlace captures → IsStrictlySortedBy row_order rows
    → ((row : Row) → Contains rows row ↔ FindsIn captures row) → IsReport captures rows
found_rows_are_the_report captures rows place rises same = record {
  rises = rises_by_key rows (λ x y h g. one_place captures place x y ((same x).0 h) ((same y).0 g)) rises;
  members = same;
}

pub sorted_rows_are_the_report : SortedRowsAreTheReport
sorted_rows_are_the_report captures rows place rises same =
    found_rows_are_the_report captures rows place rises (λ row. ((λ h. in_captures captures row ((same row).0 h)), (λ r. (same row).1 (from_captures captures row r))))

-- Rows that tie are one row.
-- The rules by their numbers; the first stands in for number 0.
abbrev numbered : List Rule
numbered = rule.F1 ∷ all_rules

rule_at : (r : Rule) → slice_get numbered (rule_number r) ≡ Some r
rule_at rule.F1 = refl
rule_at _ = refl

pub one_rule : (x y : Rule) → rule_number x ≡ rule_number y → x ≡ y
one_rule x y e = let same : Some x ≡ Some y = sym (rule_at x) ∙ ap (slice_get numbered) e ∙ rule_at y in cc

one_monitor : (x y : Option ℕ) → option_cmp nat_cmp x y ≡ Equal → x ≡ y
one_monitor None None h = refl
one_monitor None (Some y) h = cc
one_monitor (Some x) None h = cc
one_monitor (Some x) (Some y) h = ap Some (nat_cmp-IsAntisymmetric x y h)

pub one_row : (x y : Row) → row_order x y ≡ Equal → x ≡ y
one_row x y h =
    let link : Ordering = nat_cmp x.link y.link in
    let cycle : Ordering = nat_cmp x.cycle y.cycle in
    let channel : Ordering = nat_cmp (chan_number x.chan) (chan_number y.chan) in
    let number : Ordering = nat_cmp (rule_number x.rule) (rule_number y.rule) in
    let monitor : Ordering = option_cmp nat_cmp x.monitor y.monitor in
    let fragment : Ordering = nat_cmp x.fragment y.fragment in
    let line : Ordering = nat_cmp x.line y.line in
    let h1 = tie_rest link (ordering_then cycle (ordering_then channel (ordering_then number (ordering_then monitor (ordering_then fragment line))))) h in
    let h2 = tie_rest cycle (ordering_then channel (ordering_then number (ordering_then monitor (ordering_then fragment line)))) h1 in
    let h3 = tie_rest channel (ordering_then number (ordering_then monitor (ordering_then fragment line))) h2 in
    let h4 = tie_rest number (ordering_then monitor (ordering_then fragment line)) h3 in
    let h5 = tie_rest monitor (ordering_then fragment line) h4 in
    let same_link = nat_cmp-IsAntisymmetric x.link y.link (tie_first link _ h) in
    let same_cycle = nat_cmp-IsAntisymmetric x.cycle y.cycle (tie_first cycle _ h1) in
    let same_chan = one_chan x.chan y.chan (nat_cmp-IsAntisymmetric (chan_number x.chan) (chan_number y.chan) (tie_first channel _ h2)) in
    let same_rule = one_rule x.rule y.rule (nat_cmp-IsAntisymmetric (rule_number x.rule) (rule_number y.rule) (tie_first number _ h3)) in
    let same_monitor = one_monitor x.monitor y.monitor (tie_first monitor _ h4) in
    let same_fragment = nat_cmp-IsAntisymmetric x.fragment y.fragment (tie_first fragment line h5) in
    let same_line = nat_cmp-IsAntisymmetric x.line y.line (tie_rest fragment line h5) in
    λ i. record { link = same_link i; cycle = same_cycle i; chan = same_chan i; rule = same_rule i; monitor = same_monitor i; fragment = same_fragment i; line = same_line i }

-- Rows that are put in order one by one.
inserted_from : (row : Row) (rows : List Row) (x : Row) → Contains (insert_row row rows) x → (row ≡ x) ⊎ Contains rows x
inserted_from row [] x h = contains_cases row [] x h
inserted_from row (r ∷ rows) x h =
    elim (row_order row r) as (λ o. Contains (match_ordering o (row ∷ r ∷ rows) (r ∷ rows) (r ∷ insert_row row rows)) x → (row ≡ x) ⊎ Contains (r ∷ rows) x) [
      | Less ↦ λ g. contains_cases row (r ∷ rows) x g
      | Equal ↦ λ g. inr g
      | Greater ↦ λ g. elim (contains_cases r (insert_row row rows) x g) [
        | inl e ↦ inr (subst (Contains (r ∷ rows)) e (contains_here r rows))
        | inr there ↦ elim (inserted_from row rows x there) [ inl e ↦ inl e | inr k ↦ inr (contains_there r rows x k) ]
      ]
    ] h

inserted_itself : (row : Row) (rows : List Row) → Contains (insert_row row rows) row
inserted_itself row [] = contains_here row []
inserted_itself row (r ∷ rows) =
    elim (row_order row r) as (λ o. row_order row r ≡ o → Contains (match_ordering o (row ∷ r ∷ rows) (r ∷ rows) (r ∷ insert_row row rows)) row) [
      | Less ↦ λ e. contains_here row (r ∷ rows)
      | Equal ↦ λ e. subst (Contains (r ∷ rows)) (sym (one_row row r e)) (contains_here r rows)
      | Greater ↦ λ e. contains_there r (insert_row row rows) row (inserted_itself row rows)
    ] refl

inserted_keeps : (row : Row) (rows : List Row) (x : Row) → Contains rows x → Contains (insert_row row rows) x
inserted_keeps row [] x h = absurd (contains_none x h)
inserted_keeps row (r ∷ rows) x h =
    elim (row_order row r) as (λ o. Contains (match_ordering o (row ∷ r ∷ rows) (r ∷ rows) (r ∷ insert_row row rows)) x) [
      | Less ↦ contains_there row (r ∷ rows) x h
      | Equal ↦ h
      | Greater ↦ elim (contains_cases r rows x h) [
        | inl e ↦ subst (Contains (r ∷ insert_row row rows)) e (contains_here r (insert_row row rows))
        | inr there ↦ contains_there r (insert_row row rows) x (inserted_keeps row rows x there)
      ]
    ]

inserted_rises : (row : Row) (rows : List Row) → IsStrictlySortedBy row_order rows → IsStrictlySortedBy row_order (insert_row row rows)
unfolding IsStrictlySortedBy
inserted_rises row [] s = (tt, tt)
inserted_rises row (r ∷ rows) s =
    elim (row_order row r) as (λ o. row_order row r ≡ o → IsStrictlySortedBy row_order (match_ordering o (row ∷ r ∷ rows) (r ∷ rows) (r ∷ insert_row row rows))) [
      | Less ↦ λ e. ((e, all_by (λ y. row_order row y ≡ Less) rows (λ y h. row_total.trans row r y e (all_of (λ z. row_order r z ≡ Less) rows s.0 y h))), s)
      | Equal ↦ λ e. s
      | Greater ↦ λ e. (
        all_by (λ y. row_order r y ≡ Less) (insert_row row rows) (λ y h. elim (inserted_from row rows y h) [
          | inl is ↦ subst (λ z. row_order r z ≡ Less) is (row_total.antisymm r row ∙ ap ordering_reverse e)
          | inr k ↦ all_of (λ z. row_order r z ≡ Less) rows s.0 y k
        ]),
        inserted_rises row rows s.1,
      )
    ] refl

sorted_rises : (rows : List Row) → IsStrictlySortedBy row_order (sorted_rows rows)
unfolding IsStrictlySortedBy
sorted_rises [] = tt
sorted_rises (row ∷ rows) = inserted_rises row (sorted_rows rows) (sorted_rises rows)

sorted_from : (rows : List Row) (x : Row) → Contains (sorted_rows rows) x → Contains rows x
sorted_from [] x h = h
sorted_from (row ∷ rows) x h = elim (inserted_from row (sorted_rows rows) x h) [
  | inl e ↦ subst (Contains (row ∷ rows)) e (contains_here row rows)
  | inr k ↦ contains_there row rows x (sorted_from rows x k)
]

sorted_has : (rows : List Row) (x : Row) → Contains rows x → Contains (sorted_rows rows) x
sorted_has [] x h = h
sorted_has (row ∷ rows) x h = elim (contains_cases row rows x h) [
  | inl e ↦ subst (Contains (insert_row row (sorted_rows rows))) e (inserted_itself row (sorted_rows rows))
  | inr k ↦ inserted_keeps row (sorted_rows rows) x (sorted_has rows x k)
]

pub reports_are_computed : ReportsAreComputed
reports_are_computed captures place =
    sorted_rows_are_the_report captures (report_of captures) place (sorted_rises (all_rows captures)) (λ row. ((λ h. sorted_from (all_rows captures) row h), (λ h. sorted_has (all_rows captures) row h)))
