-- Passes: judged rows in the order of reports.
use Rattle.std.proofs.Common.{◌≡◌, List, [], ◌∷◌, inl, inr, refl, sym, ap, subst, ◌∙◌}
use Rattle.std.specs.Prelude.{map}
use Rattle.std.specs.declared.cmp.Ordering.TheVariants.{Equal}
use Rattle.std.specs.List.{Contains}
use Rattle.std.proofs.lemmas.List.Elements.{Contains-append_cases}
use Rattle.tl_tables.specs.declared.Rule.{Rule}
use Rattle.tl_beats.specs.declared.Placed.{Placed}
use Rattle.tl_beats.specs.declared.Row.{Row}
use Rattle.tl_definitions.specs.Positions.{position_order}
use Rattle.tl_definitions.specs.Rules.{Manager}
use Rattle.tl_definitions.specs.Breaks.{row_of, rows_in}
use Rattle.tl_definitions.specs.Report.{key_order, Capture, of_manager, Finds}
use Rattle.tl_definitions.specs.Judging.{Snapshot, judged_rules, judged_next, judging, SortedRowsAreAPass, FirstPassesAreReports}
use Rattle.tl_definitions.specs.Passes.{rows_judged}
use Rattle.tl_definitions.proofs.Lists.{contains_none, contains_here, contains_there, contains_cases, mapped_from}
use Rattle.tl_definitions.proofs.PositionLaws.{position_total}
use Rattle.tl_definitions.proofs.ReportLaws.{rises_by_key, same_position, rows_are_breaks}
use Rattle.tl_definitions.proofs.RisingLaws.{tied_members}
use Rattle.tl_definitions.proofs.JudgingLaws.{all_exact}

judged_from : (m : Manager) (s : Snapshot) (beats : List Placed) (row : Row) → Contains (rows_judged (judging m) s beats) row
    → (q : Placed) × (r : Rule) × Contains beats q × (row_of q r ≡ row)
judged_from m s [] row h = absurd (contains_none row h)
judged_from m s (p ∷ beats) row h = elim (Contains-append_cases (map (row_of p) (judged_rules m s p)) (rows_judged (judging m) (judged_next m s p) beats) row h) [
  | inl a ↦ (let found = mapped_from (row_of p) (judged_rules m s p) row a in (p, found.0, contains_here p beats, found.2))
  | inr b ↦ (let known = judged_from m (judged_next m s p) beats row b in (known.0, known.1, contains_there p beats known.0 known.2, known.3))
]

pub sorted_rows_are_a_pass : SortedRowsAreAPass
sorted_rows_are_a_pass m s beats rows up sorted same = record {
  rises = rises_by_key rows (λ x y h g tie.
      let one = judged_from m s beats x ((same x).0 h) in
      let two = judged_from m s beats y ((same y).0 g) in
      let tied : key_order (row_of one.0 one.1) (row_of two.0 two.1) ≡ Equal = ap (λ z. key_order z (row_of two.0 two.1)) one.3 ∙ ap (key_order x) two.3 ∙ tie in
      let is : one.0 ≡ two.0 = tied_members position_order position_total beats up one.0 two.0 one.2 two.2 (same_position one.0 two.0 one.1 two.1 tied) in (
        sym (ap (λ (z : Row). z.fragment) one.3) ∙ ap (λ (q : Placed). q.fragment) is ∙ ap (λ (z : Row). z.fragment) two.3,
        sym (ap (λ (z : Row). z.line) one.3) ∙ ap (λ (q : Placed). q.line) is ∙ ap (λ (z : Row). z.line) two.3,
      )) sorted;
  members = same;
  exit = refl;
}

pub first_passes_are_reports : FirstPassesAreReports
first_passes_are_reports m pass is opening =
    let capture : Capture = of_manager m pass.beats in
    let all : rows_judged (judging m) pass.entry pass.beats ≡ rows_in m pass.beats = ap (λ s. rows_judged (judging m) s pass.beats) opening ∙ all_exact m [] pass.beats in
    record {
      rises = is.rises;
      members = λ row. (
        (λ h. (capture, contains_here capture [], (rows_are_breaks m pass.beats row).0 (subst (λ rows. Contains rows row) all ((is.members row).0 h)))),
        (λ r. elim (contains_cases capture [] r.0 r.1) [
          | inl e ↦ (is.members row).1 (subst (λ rows. Contains rows row) (sym all) ((rows_are_breaks m pass.beats row).1 (subst (λ (c : Capture). Finds c row) (sym e) r.2)))
          | inr none ↦ absurd (contains_none r.0 none)
        ]),
      );
    }
