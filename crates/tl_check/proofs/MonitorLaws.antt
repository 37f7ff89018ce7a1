-- One pass of a monitor over the beats of its link.
use Rattle.std.proofs.Common.{◌≡◌, ℕ, List, [], ◌∷◌, refl, sym, ap, subst, ◌∙◌}
use Rattle.std.specs.List.{Contains}
use Rattle.std.specs.List.Sorted.{IsStrictlySortedBy}
use Rattle.tl_beats.specs.declared.Placed.{Placed}
use Rattle.tl_beats.specs.declared.Row.{Row}
use Rattle.tl_beats.specs.declared.watch.Watch.{Watch}
use Rattle.tl_beats.specs.declared.watch.Watch.TheVariants as watch
use Rattle.tl_definitions.specs.Passes.{IsPass, rows_judged}
use Rattle.tl_definitions.specs.Report.{of_monitor, IsReport}
use Rattle.tl_definitions.specs.Tallies.{watching, kept_tally, tally_of}
use Rattle.tl_definitions.specs.Watching.{IsWatch, flags_in}
use Rattle.tl_definitions.proofs.Lists.{contains_none, contains_here}
use Rattle.tl_definitions.proofs.WatchLaws.{all_flagged, rows_are_flags}
use Rattle.tl_check.proofs.ScratchLaws.{finds_alone}

-- Without beats the tally is 0, and is kept so.
kept_none : (w : Watch) → kept_tally w 0 ≡ tally_of w []
kept_none (watch.Budget link class limit) = refl
kept_none (watch.After link first second) = refl

-- The rows of a pass from there are the report.
pub pass_is_report : (n : ℕ) (w : Watch) (beats : List Placed) (exit : ℕ) (rows : List Row) → IsWatch w
    → IsPass (watching n w) (record { entry = kept_tally w 0; beats = beats; exit = exit; rows = rows }) → IsReport (of_monitor n w beats ∷ []) rows
pass_is_report n w beats exit rows fits pass =
    let all : rows_judged (watching n w) (kept_tally w 0) beats ≡ flags_in n w beats =
    ap (λ t. rows_judged (watching n w) t beats) (kept_none w) ∙ all_flagged n w [] beats fits in
    record {
      rises = pass.rises;
      members = λ row. (
        (λ h. (of_monitor n w beats, contains_here (of_monitor n w beats) [], (rows_are_flags n w beats row).0 (subst (λ rs. Contains rs row) all ((pass.members row).0 h)))),
        (λ found. (pass.members row).1 (subst (λ rs. Contains rs row) (sym all) ((rows_are_flags n w beats row).1 (finds_alone (of_monitor n w beats) row found)))),
      );
    }

-- Without beats nothing is flagged.
pub none_flagged : (n : ℕ) (w : Watch) → IsReport (of_monitor n w [] ∷ []) []
unfolding IsStrictlySortedBy
none_flagged n w = record {
  rises = tt;
  members = λ row. (
    (λ h. absurd (contains_none row h)),
    (λ found. (rows_are_flags n w [] row).1 (finds_alone (of_monitor n w []) row found)),
  );
}
