-- The pass of a monitor's window.
use Rattle.std.proofs.Common.{◌≡◌, ℕ, List, [], Option, Some, sym, ap, ◌∙◌}
use Rattle.std.specs.Prelude.{is_some}
use Rattle.std.specs.Option.{option_map_or}
use Rattle.tl_beats.specs.declared.Row.{Row}
use Rattle.tl_beats.specs.declared.watch.Watch.{Watch}
use Rattle.tl_definitions.specs.Positions.{Recorded, beats_of}
use Rattle.tl_definitions.specs.Tallies.{watching, AreOfOneLink}
use Rattle.tl_definitions.proofs.Lists.{kept_from}
use Rattle.tl_edits.specs.Inputs.{InputData, watch_at}
use Rattle.tl_pieces.specs.declared.key.PieceKey.{PieceKey}
use Rattle.tl_pieces.specs.Keys.{change}
use Rattle.tl_pieces.specs.Pieces.{Board, Pass, opening_of, piece_at, with_pieces}
use Rattle.tl_check.specs.Captured.{watched_beats}
use Rattle.tl_check.proofs.CaptureLaws.{of_one_link}
use Rattle.tl_capture.specs.Windows.{lies_in, beats_in}
use Rattle.tl_board.specs.Windows.{with_checked}
use Rattle.tl_board.proofs.CheckLemmas.{same_openings, still_there, results_after}
use Rattle.tl_board.specs.declared.tally.Tally.{Tally}
use Rattle.tl_board.specs.Watches.{beats_for, idle, judge_for, IsOfWatch, AreWatches}

-- What stands for a monitor that is attached.
pub judge_is : (now : InputData) (number : ℕ) (w : Watch) → watch_at number now.monitors ≡ Some w → judge_for now number ≡ watching number w
judge_is now number w at = ap (λ (o : Option Watch). option_map_or (watching number) o idle) at

pub beats_are : (now : InputData) (number : ℕ) (w : Watch) → watch_at number now.monitors ≡ Some w → beats_for now number ≡ watched_beats now.topo now.fragments w
beats_are now number w at = ap (λ (o : Option Watch). option_map_or (watched_beats now.topo now.fragments) o []) at

pub one_watch : (found : Option Watch) (v w : Watch) → found ≡ Some v → found ≡ Some w → w ≡ v
one_watch found v w one two = let both : Some w ≡ Some v = sym two ∙ one in cc

-- The beats of a window of a link are of one link.
pub window_of_one_link : (window link : ℕ) (fs : List Recorded) → AreOfOneLink (beats_in window (beats_of link fs))
window_of_one_link window link fs p q h g = of_one_link link fs p q (kept_from (lies_in window) (beats_of link fs) p h).0 (kept_from (lies_in window) (beats_of link fs) q g).0

-- With one result more and one ticket less all is as it was.
abbrev IsWatchAt : InputData → PieceKey → Pass Tally (List Row) → Type 0
IsWatchAt now key result = IsOfWatch now key.owner key.window result

pub still_watched : (now : InputData) (old new : Board Tally (List Row)) → AreWatches now old → (key : PieceKey) (result : Pass Tally (List Row)) → IsOfWatch now key.owner key.window result
    → new ≡ with_pieces old (change key (with_checked result) old.pieces) → AreWatches now new
still_watched now old new are key result of_window is = record {
  owners = λ number. ap (λ os. is_some (opening_of number os)) openings ∙ are.owners number;
  fits = are.fits;
  covered = record {
    openings = λ number state some. are.covered.openings number state (ap (opening_of number) (sym openings) ∙ some);
    windows = λ q owner. (let before = are.covered.windows q (ap (λ os. is_some (opening_of q.owner os)) (sym openings) ∙ owner) in
        ((λ h. before.0 (sym (there q) ∙ h)), (λ h. there q ∙ before.1 h)));
    results = results_after (IsWatchAt now) old new key result is of_window are.covered.results;
  };
}
  where
    openings : new.openings ≡ old.openings
    openings = same_openings (IsWatchAt now) old new key result is

    there : (q : PieceKey) → is_some (piece_at q new) ≡ is_some (piece_at q old)
    there q = still_there (IsWatchAt now) old new key result is q
