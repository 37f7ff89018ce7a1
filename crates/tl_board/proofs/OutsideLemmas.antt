-- Windows of monitors that go out and come back.
use Rattle.std.proofs.Common.{◌≡◌, ℕ, ◌⊎◌, inl, inr, Bool, true, false, List, Option, Some, None, refl, sym, ap, subst, ◌∙◌}
use Rattle.std.specs.Prelude.{is_some}
use Rattle.std.specs.Bool.{Decides}
use Rattle.std.specs.Option.{IfSome}
use Rattle.tl_beats.specs.declared.Row.{Row}
use Rattle.tl_beats.specs.declared.watch.Watch.{Watch}
use Rattle.tl_definitions.specs.Passes.{Judge, IsPass}
use Rattle.tl_definitions.specs.Tallies.{watching}
use Rattle.tl_edits.specs.Inputs.{InputData, watch_at}
use Rattle.tl_monitor.specs.Held.{Held}
use Rattle.tl_pieces.specs.declared.key.PieceKey.{PieceKey}
use Rattle.tl_pieces.specs.Keys.{change}
use Rattle.tl_pieces.specs.Pieces.{Piece, Board, Pass, IsBoard, opening_of, piece_at, with_live, with_pieces, IsFirst}
use Rattle.tl_check.specs.Captured.{watched_beats}
use Rattle.tl_board.specs.Spans.{standing}
use Rattle.tl_board.proofs.CheckLemmas.{first_there, owner_of}
use Rattle.tl_board.proofs.TicketLemmas.{live_openings, live_there, live_result}
use Rattle.tl_capture.specs.Windows.{beats_in}
use Rattle.tl_board.specs.declared.tally.Tally.{Tally}
use Rattle.tl_board.specs.Outside.{IsWatchTaskFor, StandsInWatch}
use Rattle.tl_board.specs.WatchTasks.{WatchWindowData, WatchTaskData, IsAmid, IsTallyOf, IsWatchPassOf, IsWatchCurrent, LeavesTally, with_monitor}
use Rattle.tl_board.specs.Watches.{WatchesData, beats_for, IsOfWatch, IsAmidWindow, AreWatches}
use Rattle.tl_board.proofs.PassLemmas.{judge_is, beats_are, one_watch}

-- ---- a window that is found

pub key_there : (board : Board Tally (List Row)) (P : Option (ℕ × Option Tally) → PieceKey → Piece Tally (List Row) → Type 0) (r : Option PieceKey) → IsFirst P None board.pieces r → IfSome r (λ key. is_some (piece_at key board) ≡ true)
key_there board P None h = tt
key_there board P (Some key) h = first_there P None board.pieces key h

pub key_attached : (now : InputData) (board : Board Tally (List Row)) → AreWatches now board → IsBoard board → (P : Option (ℕ × Option Tally) → PieceKey → Piece Tally (List Row) → Type 0) (r : Option PieceKey) → IsFirst P None board.pieces r
    → IfSome r (λ key. is_some (watch_at key.owner now.monitors) ≡ true)
key_attached now board are is P None h = tt
key_attached now board are is P (Some key) h = sym (are.owners key.owner) ∙ owner_of board is key (first_there P None board.pieces key h)

-- ---- the board with another live ticket

pub still_live : (now : InputData) (old new : Board Tally (List Row)) → AreWatches now old → (key : PieceKey) (t : Option ℕ) → new ≡ with_pieces old (change key (with_live t) old.pieces) → AreWatches now new
still_live now old new are key t is = record {
  owners = λ number. ap (λ os. is_some (opening_of number os)) openings ∙ are.owners number;
  fits = are.fits;
  covered = record {
    openings = λ number state some. are.covered.openings number state (ap (opening_of number) (sym openings) ∙ some);
    windows = λ q owner. (let before = are.covered.windows q (ap (λ os. is_some (opening_of q.owner os)) (sym openings) ∙ owner) in
        ((λ h. before.0 (sym (live_there old new key t is q) ∙ h)), (λ h. live_there old new key t is q ∙ before.1 h)));
    results = λ q r some. are.covered.results q r (sym (live_result old new key t is q) ∙ some);
  };
}
  where
    openings : new.openings ≡ old.openings
    openings = live_openings old new key t is

-- ---- the pass of a task

-- What a task gives is the pass of its window, where what it was made of stands.
pub current_passes : (now : InputData) (task : WatchTaskData) (result : Pass Tally (List Row)) → StandsInWatch now task → IsWatchPassOf task result → IsOfWatch now task.number task.window result
current_passes now task result stands is = record {
  entry = result.entry.count;
  exit = result.exit.count;
  begins = record { shows = refl; kept = λ v at. subst (λ u. IsTallyOf u result.entry) (one_watch (watch_at task.number now.monitors) v task.held.watch at stands.watch) is.begins };
  ends = record { shows = refl; kept = λ v at. subst (λ u. IsTallyOf u result.exit) (one_watch (watch_at task.number now.monitors) v task.held.watch at stands.watch) is.ends };
  pass = subst (λ (j : Judge ℕ). IsPass j (record { entry = result.entry.count; beats = beats_in task.window (beats_for now task.number); exit = result.exit.count; rows = result.rows }))
      (sym (judge_is now task.number task.held.watch stands.watch))
      (subst (λ ps. IsPass (watching task.number task.held.watch) (record { entry = result.entry.count; beats = ps; exit = result.exit.count; rows = result.rows })) own is.pass);
}
  where
    own : task.beats ≡ beats_in task.window (beats_for now task.number)
    own = stands.beats ∙ ap (beats_in task.window) (sym (beats_are now task.number task.held.watch stands.watch))

-- It stands where it is current by the watch that stands.
pub stands_by : (now : InputData) (task : WatchTaskData) (w : Watch) → watch_at task.number now.monitors ≡ Some w → (result : Bool) → Decides result (IsWatchCurrent now.topo now.fragments w task) → Decides result (StandsInWatch now task)
stands_by now task w at result decides = ((λ h. stands (decides.0 h)), (λ s. decides.1 (current s)))
  where
    stands : IsWatchCurrent now.topo now.fragments w task → StandsInWatch now task
    stands is = record {
      watch = at ∙ ap Some (sym is.watch);
      beats = subst (λ v. task.beats ≡ beats_in task.window (watched_beats now.topo now.fragments v)) (sym is.watch) is.beats;
    }

    current : StandsInWatch now task → IsWatchCurrent now.topo now.fragments w task
    current s =
        let same : task.held.watch ≡ w = one_watch (watch_at task.number now.monitors) w task.held.watch at s.watch in
        record {
          watch = same;
          beats = subst (λ v. task.beats ≡ beats_in task.window (watched_beats now.topo now.fragments v)) same s.beats;
        }

pub none_stands : (now : InputData) (task : WatchTaskData) → watch_at task.number now.monitors ≡ None → Decides false (StandsInWatch now task)
none_stands now task none = ((λ h. cc), (λ s. absurd (let never : None ≡ Some task.held.watch = sym none ∙ s.watch in cc)))

-- ---- the check of a window

-- With a monitor of its watch the pass of a window is that of what stands for it.
pub window_passes : (now : WatchesData) (key : PieceKey) (task : WatchWindowData) (held : Held) (result : Pass Tally (List Row)) → IsWatchTaskFor now key task → held.watch ≡ task.watch
    → IsWatchPassOf (with_monitor task held) result → IsOfWatch (standing now.spans) key.owner key.window result
window_passes now key task held result is same pass =
    subst (λ n. IsOfWatch (standing now.spans) n key.window result) is.number
    (subst (λ n. IsOfWatch (standing now.spans) task.number n result) is.window (current_passes (standing now.spans) (with_monitor task held) result stands pass))
  where
    stands : StandsInWatch (standing now.spans) (with_monitor task held)
    stands = record {
      watch = subst (λ n. watch_at n (standing now.spans).monitors ≡ Some held.watch) (sym is.number) (is.watch ∙ ap Some (sym same));
      beats = subst (λ w. task.beats ≡ beats_in task.window (watched_beats (standing now.spans).topo (standing now.spans).fragments w)) (sym same)
          (subst (λ n. task.beats ≡ beats_in n (watched_beats (standing now.spans).topo (standing now.spans).fragments task.watch)) (sym is.window) is.beats);
    }

-- What some first beats of it leave stands amid the window.
pub left_amid : (now : WatchesData) (key : PieceKey) (task : WatchWindowData) (w : Watch) (tally : ℕ) → IsWatchTaskFor now key task → IsAmid task.number w task.entry task.beats tally → IsAmidWindow now key w tally
left_amid now key task w tally is amid = record {
  entry = task.entry;
  from = is.entry;
  amid = subst (λ ps. IsAmid key.owner w task.entry ps tally) own (subst (λ n. IsAmid n w task.entry task.beats tally) is.number amid);
}
  where
    own : task.beats ≡ beats_in key.window (beats_for (standing now.spans) key.owner)
    own = is.beats ∙ ap (beats_in key.window) (sym (beats_are (standing now.spans) key.owner task.watch is.watch))

pub left_so : (now : WatchesData) (key : PieceKey) (task : WatchWindowData) (held : Held) (tally : ℕ) → IsWatchTaskFor now key task → LeavesTally (with_monitor task held) tally
    → (tally ≡ held.tally) ⊎ IsAmidWindow now key held.watch tally
left_so now key task held tally is (inl same) = inl same
left_so now key task held tally is (inr amid) = inr (left_amid now key task held.watch tally is amid)
