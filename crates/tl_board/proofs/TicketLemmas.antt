-- Windows that go out and come back.
use Rattle.std.proofs.Common.{◌≡◌, ℕ, zero, suc, ◌<◌, true, false, cond, List, [], ◌∷◌, Option, Some, None, refl, sym, ap, subst, ◌∙◌, length, get_or, arith}
use Rattle.std.specs.Prelude.{is_some, option_map}
use Rattle.std.specs.Option.{IfSome}
use Rattle.std.specs.BTreeMap.{is_at}
use Rattle.tl_topology.specs.Regions.{Area, areas_of}
use Rattle.tl_beats.specs.declared.Row.{Row}
use Rattle.tl_definitions.specs.Captures.{manager_beats}
use Rattle.tl_definitions.specs.Judging.{judging}
use Rattle.tl_definitions.specs.Managers.{manager_at}
use Rattle.tl_definitions.specs.Passes.{IsPass}
use Rattle.tl_edits.specs.Inputs.{InputData, AreNumbered, regions_at}
use Rattle.tl_pieces.specs.declared.key.PieceKey.{PieceKey}
use Rattle.tl_pieces.specs.Keys.{key_cmp, change}
use Rattle.tl_pieces.specs.Pieces.{Piece, Board, Pass, opening_of, piece_at, result_of, with_live, with_pieces, IsFree, IsFirstFree}
use Rattle.tl_check.specs.Captured.{areas_at}
use Rattle.tl_check.specs.States.{IsOf, SameSpan}
use Rattle.tl_check.specs.declared.state.SpanState.{SpanState}
use Rattle.tl_board.specs.Tasks.{TaskData, HasNumbers, IsPassOf, manager_of}
use Rattle.tl_board.proofs.CurrentLemmas.{same_manager}
use Rattle.tl_capture.specs.Windows.{beats_in}
use Rattle.tl_board.specs.Spans.{SpansData, standing, manager_in, IsSpanOf, IsSound}
use Rattle.tl_board.specs.Tickets.{IsTaskFor, StandsIn}
use Rattle.tl_board.proofs.CheckLemmas.{lookup_change, first_there}

-- ---- the board with another live ticket

module _ {S R : Type 0} (old new : Board S R) (key : PieceKey) (t : Option ℕ) (is : new ≡ with_pieces old (change key (with_live t) old.pieces)) where
  found : (q : PieceKey) → piece_at q new ≡ cond (is_at (key_cmp q) key) (option_map (with_live t) (piece_at q old)) (piece_at q old)
  found q = ap (λ (b : Board S R). piece_at q b) is ∙ lookup_change key (with_live t) q old.pieces

  pub live_openings : new.openings ≡ old.openings
  live_openings = ap (λ (b : Board S R). b.openings) is

  mapped_there : (x : Option (Piece S R)) → is_some (option_map (with_live t) x) ≡ is_some x
  mapped_there None = refl
  mapped_there (Some x) = refl

  pub live_there : (q : PieceKey) → is_some (piece_at q new) ≡ is_some (piece_at q old)
  live_there q = ap is_some (found q) ∙ elim (is_at (key_cmp q) key) as (λ b. is_some (cond b (option_map (with_live t) (piece_at q old)) (piece_at q old)) ≡ is_some (piece_at q old)) [
    | true ↦ mapped_there (piece_at q old)
    | false ↦ refl
  ]

  mapped_result : (x : Option (Piece S R)) → result_of (option_map (with_live t) x) ≡ result_of x
  mapped_result None = refl
  mapped_result (Some x) = refl

  pub live_result : (q : PieceKey) → result_of (piece_at q new) ≡ result_of (piece_at q old)
  live_result q = ap result_of (found q) ∙ elim (is_at (key_cmp q) key) as (λ b. result_of (cond b (option_map (with_live t) (piece_at q old)) (piece_at q old)) ≡ result_of (piece_at q old)) [
    | true ↦ mapped_result (piece_at q old)
    | false ↦ refl
  ]

pub live_sound : (old : SpansData) → IsSound old → (key : PieceKey) (t : Option ℕ) (board : Board SpanState (List Row)) → board ≡ with_pieces old.board (change key (with_live t) old.board.pieces) → IsSound (record { log = old.log; board = board })
live_sound old sound key t board is = record {
  managers = record {
    owners = λ number. ap (λ os. is_some (opening_of number os)) openings ∙ sound.managers.owners number;
    openings = λ number state some areas. sound.managers.openings number state (ap (opening_of number) (sym openings) ∙ some) areas;
  };
  covered = record {
    openings = λ number state some. sound.covered.openings number state (ap (opening_of number) (sym openings) ∙ some);
    windows = λ q owner. (let before = sound.covered.windows q (ap (λ os. is_some (opening_of q.owner os)) (sym openings) ∙ owner) in
        ((λ h. before.0 (sym (live_there old.board board key t is q) ∙ h)), (λ h. live_there old.board board key t is q ∙ before.1 h)));
    results = λ q r some. sound.covered.results q r (sym (live_result old.board board key t is q) ∙ some);
  };
}
  where
    openings : board.openings ≡ old.board.openings
    openings = live_openings old.board board key t is

-- ---- the pass of a task

pub regions_found : (regions : List (List (ℕ × Area))) (manager : ℕ) → areas_of (regions_at manager regions) ≡ areas_at regions manager
regions_found [] zero = refl
regions_found [] (suc manager) = refl
regions_found (r ∷ regions) zero = refl
regions_found (r ∷ regions) (suc manager) = regions_found regions manager

-- What a task gives is the pass of its window, where it is of the manager that stands and has the beats that are present.
pub passed_now : (now : InputData) (owner window : ℕ) (task : TaskData) (result : Pass SpanState (List Row)) → manager_of task ≡ manager_in now owner → task.beats ≡ beats_in window (manager_beats now.topo now.fragments owner) → IsPassOf task result
    → IsSpanOf now owner window result
passed_now now owner window task result manages beats is = record {
  entry = is.entry;
  exit = is.exit;
  begins = (subst (λ m. IsOf m result.entry) manages is.begins.0, is.begins.1);
  ends = (subst (λ m. IsOf m result.exit) manages is.ends.0, is.ends.1);
  pass = subst (λ ps. IsPass (judging (manager_in now owner)) (record { entry = is.entry; beats = ps; exit = is.exit; rows = result.rows })) beats
      (subst (λ m. IsPass (judging m) (record { entry = is.entry; beats = task.beats; exit = is.exit; rows = result.rows })) manages is.pass);
}

pub current_passes : (now : InputData) (task : TaskData) (result : Pass SpanState (List Row)) → StandsIn now task → IsPassOf task result → IsSpanOf now task.owner task.window result
current_passes now task result stands is =
    passed_now now task.owner task.window task result
    (same_manager now.topo (regions_at task.owner now.regions) now.fragments task stands ∙ ap (manager_at now.topo task.owner) (regions_found now.regions task.owner)) stands.beats is

pub task_manager : (spans : SpansData) (key : PieceKey) (task : TaskData) → IsTaskFor spans key task → manager_of task ≡ manager_in (standing spans) key.owner
task_manager spans key task is =
    ap (λ t. manager_at t task.owner (areas_of task.regions)) is.topo
    ∙ ap (λ n. manager_at (standing spans).topo n (areas_of task.regions)) is.owner
    ∙ ap (λ rs. manager_at (standing spans).topo key.owner (areas_of rs)) is.regions
    ∙ ap (manager_at (standing spans).topo key.owner) (regions_found (standing spans).regions key.owner)

-- ---- what is read of the map

pub free_there : (b : Board SpanState (List Row)) (r : Option PieceKey) → IsFirstFree SameSpan b r → IfSome r (λ key. is_some (piece_at key b) ≡ true)
free_there b None h = tt
free_there b (Some key) h = first_there (IsFree SameSpan b.openings) None b.pieces key h

pub indexed : (regions : List (List (ℕ × Area))) (k : ℕ) (own d : List (ℕ × Area)) → k < length regions → own ≡ get_or regions k d → own ≡ regions_at k regions
indexed [] k own d lt is = absurd (let none : k < 0 = lt in omega arith)
indexed (r ∷ regions) zero own d lt is = is
indexed (r ∷ regions) (suc k) own d lt is = indexed regions k own d (let more : suc k < suc (length regions) = lt in omega arith) is

pub numbered : (regions : List (List (ℕ × Area))) (k : ℕ) (own : List (ℕ × Area)) → own ≡ regions_at k regions → AreNumbered regions → HasNumbers own
numbered regions k own is all = subst HasNumbers (sym is) (all k)
