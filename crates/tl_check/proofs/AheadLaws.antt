-- A walk that goes on with later beats ahead of those of other links.
use Rattle.std.proofs.Common.{◌≡◌, ℕ, zero, suc, ◌+◌, ◌<◌, ◌≤◌, List, [], ◌∷◌, ◌++◌, length, take, refl, sym, ap, subst, ◌∙◌, arith}
use Rattle.std.specs.List.{All, Contains}
use Rattle.std.proofs.lemmas.List.Elements.{All-tail, Contains-append_right}
use Rattle.std.proofs.lemmas.List.Sorted.{Contains-permutation}
use Rattle.tl_beats.specs.declared.Beat.{Beat}
use Rattle.tl_beats.specs.declared.Placed.{Placed}
use Rattle.tl_beats.specs.declared.Row.{Row}
use Rattle.tl_definitions.specs.Judging.{Snapshot, judged_next, judging}
use Rattle.tl_definitions.specs.Passes.{rows_judged, left_after}
use Rattle.tl_definitions.specs.Positions.{placed_from}
use Rattle.tl_definitions.specs.Rules.{Manager}
use Rattle.tl_definitions.proofs.Lists.{contains_here}
use Rattle.tl_capture.specs.Cursors.{here, after, all_left}
use Rattle.tl_capture.specs.Runs.{AreAhead, IsFront, IsPast}
use Rattle.tl_capture.specs.Waiting.{under_top, in_turn}
use Rattle.tl_capture.specs.declared.cursor.Cursor.{Cursor}
use Rattle.tl_capture.specs.declared.runs.Front.{Front}
use Rattle.tl_capture.proofs.AheadLemmas.{same_last}
use Rattle.tl_capture.proofs.CursorLemmas.{left_has}
use Rattle.tl_capture.proofs.PartLemmas.{order_moves}
use Rattle.tl_check.specs.Runs.{HasRun}
use Rattle.tl_check.specs.States.{shown, rows_at}
use Rattle.tl_check.specs.declared.state.SpanState.{SpanState}
use Rattle.tl_check.proofs.RunLaws.{run_ahead, ahead_all, ahead_fewer}
use Rattle.tl_check.proofs.WalkedLaws.{rows_on, exit_on}

placed_take : (link number line n : ℕ) (beats : List Beat) → take n (placed_from link number line beats) ≡ placed_from link number line (take n beats)
placed_take link number line zero beats = refl
placed_take link number line (suc n) [] = refl
placed_take link number line (suc n) (b ∷ beats) = ap (λ ps. record { link = link; fragment = number; line = line; beat = b } ∷ ps) (placed_take link number (line + 1) n beats)

-- The next beat is one of those that are left.
pub front_there : (cs : List Cursor) (front : Front) → IsFront cs front → Contains (in_turn cs) front.at
front_there cs front is =
    let top = is.0 in
    let has : Contains cs top = subst (λ xs. Contains xs top) (sym is.1) (Contains-append_right (under_top cs) (top ∷ []) top (contains_here top [])) in
    subst (Contains (in_turn cs)) is.2 (Contains-permutation (all_left cs) (in_turn cs) (here top) (order_moves (all_left cs)) (left_has cs top (here top) has (contains_here (here top) (after top))))

-- So many follow the top that follow the next beat.
pub front_within : (cs : List Cursor) (front : Front) (n : ℕ) → IsFront cs front → n ≤ length front.rest.now → (top : Cursor) → cs ≡ under_top cs ++ top ∷ [] → n ≤ length top.rest.now
front_within cs front n is few top at =
    subst (λ (c : Cursor). n ≤ length c.rest.now) (same_last (under_top cs) is.0 top (sym is.1 ∙ at)) (subst (λ bs. n ≤ length bs) (sym is.3) few)

module _ (m : Manager) (old mid new : SpanState) (cs ds : List Cursor) (front : Front) (n : ℕ) (rows more : List Row) (is : IsFront cs front)
    (past : (top : Cursor) → cs ≡ under_top cs ++ top ∷ [] → IsPast top n cs ds)
    (run : (fragment line : ℕ) → HasRun m mid new (placed_from front.at.link fragment line (take n front.rest.now)))
    (put : more ≡ rows ++ rows_at m old front.at) (next : shown mid ≡ judged_next m (shown old) front.at) where
  abbrev top : Cursor
  top = is.0

  gone : IsPast top n cs ds
  gone = past top is.1

  abbrev own : List Placed
  own = placed_from top.link top.fragment (top.line + 1) (take n top.rest.now)

  ahead : AreAhead top.link own gone.0 (in_turn ds)
  ahead = subst (λ ps. AreAhead top.link ps gone.0 (in_turn ds)) (placed_take top.link top.fragment (top.line + 1) n top.rest.now) gone.2

  ran : HasRun m mid new own
  ran = subst (λ k. HasRun m mid new (placed_from k top.fragment (top.line + 1) (take n top.rest.now))) (ap (λ (p : Placed). p.link) (sym is.2))
      (subst (λ bs. HasRun m mid new (placed_from front.at.link top.fragment (top.line + 1) (take n bs))) (sym is.3) (run top.fragment (top.line + 1)))

  steps : in_turn cs ≡ front.at ∷ gone.0
  steps = gone.1 ∙ ap (λ p. p ∷ gone.0) is.2

  pub found_on : (total : List Row) → rows ++ rows_judged (judging m) (shown old) (in_turn cs) ≡ total → more ++ rows_judged (judging m) (shown new) (in_turn ds) ≡ total
  found_on total found =
      ap (λ s. more ++ rows_judged (judging m) s (in_turn ds)) ran.left
      ∙ sym (ap (λ rs. more ++ rs) (run_ahead m (shown mid) top.link top.fragment (top.line + 1) (take n top.rest.now) gone.0 (in_turn ds) ahead ran.quiet).0)
      ∙ rows_on m (shown old) (shown mid) (in_turn cs) gone.0 front.at rows more total steps put next found

  pub left_on : (total : Snapshot) → left_after (judging m) (shown old) (in_turn cs) ≡ total → left_after (judging m) (shown new) (in_turn ds) ≡ total
  left_on total left =
      ap (λ s. left_after (judging m) s (in_turn ds)) ran.left
      ∙ sym (run_ahead m (shown mid) top.link top.fragment (top.line + 1) (take n top.rest.now) gone.0 (in_turn ds) ahead ran.quiet).1
      ∙ exit_on m (shown old) (shown mid) (in_turn cs) gone.0 front.at total steps next left

  pub all_on : (P : Placed → Type 0) → All P (in_turn cs) → All P (in_turn ds)
  all_on P all = ahead_all P top.link own gone.0 (in_turn ds) ahead (All-tail P front.at gone.0 (subst (All P) steps all))

  pub fewer_on : length (in_turn ds) < length (in_turn cs)
  fewer_on =
      let fewer = ahead_fewer top.link own gone.0 (in_turn ds) ahead in
      let one = ap length steps in omega arith
