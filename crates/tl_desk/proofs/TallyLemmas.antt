-- The tallies that checks leave to monitors.
use Rattle.std.proofs.Common.{◌≡◌, ℕ, ◌==◌, ◌⊎◌, inl, inr, Bool, true, false, not, ◌&&◌, cond, List, [], ◌∷◌, Option, Some, None, Result, Ok, Err, arith, refl, sym, ap, subst, ◌∙◌}
use Rattle.std.specs.Prelude.{OnOk, OnErr}
use Rattle.std.specs.BTreeMap.{is_at}
use Rattle.std.specs.Option.{option_map, option_or, option_and_then}
use Rattle.std.specs.Ordering.{is_le}
use Rattle.std.proofs.lemmas.Bool.Decides.{nat_tests}
use Rattle.tl_beats.specs.declared.watch.Watch.{Watch}
use Rattle.tl_monitor.specs.Boxes.{BoxesData, place_at, held_at}
use Rattle.tl_monitor.specs.Places.{Place, Here, Out, held_of}
use Rattle.tl_monitor.specs.Held.{Held}
use Rattle.tl_pieces.proofs.KeyLemmas.{key_exact, key_self}
use Rattle.tl_pieces.specs.declared.key.PieceKey.{PieceKey}
use Rattle.tl_pieces.specs.Keys.{key_cmp, change, before}
use Rattle.tl_pieces.specs.Pieces.{Piece, opening_of, exit_of, last_exit, entry_for}
use Rattle.tl_board.proofs.RecheckLemmas.{before_changed}
use Rattle.tl_board.specs.Spans.{SpansData, standing}
use Rattle.tl_board.specs.Windows.{key_of, with_checked}
use Rattle.tl_capture.specs.Windows.{beats_in}
use Rattle.tl_board.specs.WatchTasks.{IsAmid}
use Rattle.tl_board.specs.Watches.{WatchesData, beats_for, IsAmidWindow, ChecksWatch}
use Rattle.tl_desk.specs.Steps.{without_tally, KeepsBoxes, LeavesOne, LeavesTallies}
use Rattle.tl_desk.proofs.BoxLemmas.{IsPlaced, same_number}

pub on_ok : {A E : Type 0} (r : Result A E) (P Q : Type 0) → (P → Q) → OnOk r P → OnOk r Q
on_ok (Ok x) P Q f p = f p
on_ok (Err e) P Q f p = tt

pub on_err : {A E : Type 0} (r : Result A E) (P Q : Type 0) → (P → Q) → OnErr r P → OnErr r Q
on_err (Ok x) P Q f p = tt
on_err (Err e) P Q f p = f p

one_held : (one two : Held) → Some one ≡ Some two → one ≡ two
one_held one two both = cc

-- A monitor was lent, and came back with another tally.
pub one_left : (m : ℕ) (h g : Held) (Is : Held → ℕ → Type 0) (old new : BoxesData) → held_at m old.slots ≡ Some h → IsPlaced m (Some (Here g)) old new → Is h g.tally → LeavesOne m Is old new
one_left m h g Is old new here is left = record {
  here = λ was now at found. (
      let first : h ≡ was = one_held h was (sym here ∙ at) in
      let second : g ≡ now = one_held g now (sym (ap (λ o. option_and_then held_of o) is.here) ∙ found) in
      subst (λ (x : Held). Is was x.tally) second (subst (λ (x : Held). Is x g.tally) first left));
  others = is.others;
}

-- ---- what a window is to start from, after the check of another

module _ {S R : Type 0} (o : ℕ) (q k : PieceKey) (f : Piece S R → Piece S R) (apart : k.owner ≡ o → ⊥) where
  not_own : (x : PieceKey) → k ≡ x → (x.owner == o) ≡ false
  not_own x is = go (x.owner == o) refl
    where
      go : (b : Bool) → (x.owner == o) ≡ b → (x.owner == o) ≡ false
      go true own = absurd (apart (ap (λ (p : PieceKey). p.owner) is ∙ exact own))
        where
          exact : (x.owner == o) ≡ true → x.owner ≡ o
          exact h = grind (arith, nat_tests)
      go false own = own

  passed_over : (x : PieceKey) (p : Piece S R) (es : List (PieceKey × Piece S R)) → (x.owner == o) ≡ false → (b : Bool) → last_exit o (cond b ((x, p) ∷ es) es) ≡ option_or (last_exit o es) None
  passed_over x p es other true = ap (λ c. option_or (last_exit o es) (cond c (exit_of p.result) None)) other
  passed_over x p es other false = none (last_exit o es)
    where
      none : (e : Option S) → e ≡ option_or e None
      none None = refl
      none (Some e) = refl

  -- The check of a window of another owner is not seen.
  pub other_exit : (es : List (PieceKey × Piece S R)) → last_exit o (before q (change k f es)) ≡ last_exit o (before q es)
  other_exit [] = refl
  other_exit (e ∷ es) = elim (is_at (key_cmp k) e.0) as (λ b. is_at (key_cmp k) e.0 ≡ b → last_exit o (before q (cond b ((e.0, f e.1) ∷ es) (e ∷ change k f es))) ≡ last_exit o (before q (e ∷ es))) [
    | true ↦ λ at. (let other : (e.0.owner == o) ≡ false = not_own e.0 (key_exact k e.0 at) in
        passed_over e.0 (f e.1) (before q es) other (true && not (is_le (key_cmp q e.0))) ∙ sym (passed_over e.0 e.1 (before q es) other (true && not (is_le (key_cmp q e.0)))))
    | false ↦ λ _. behind (true && not (is_le (key_cmp q e.0))) (other_exit es)
  ] refl
    where
      behind : (b : Bool) → last_exit o (before q (change k f es)) ≡ last_exit o (before q es) → last_exit o (cond b (e ∷ before q (change k f es)) (before q (change k f es))) ≡ last_exit o (cond b (e ∷ before q es) (before q es))
      behind true rest = ap (λ x. option_or x (cond (e.0.owner == o) (exit_of e.1.result) None)) rest
      behind false rest = rest

-- A monitor stands amid a window as before, after the check of this window or of one of another monitor.
module _ (old : WatchesData) (key : PieceKey) (new : WatchesData) (checked : ChecksWatch old key new) where
  seen_in : (q : PieceKey) → last_exit q.owner (before q (change key (with_checked checked.result) old.board.pieces)) ≡ last_exit q.owner (before q old.board.pieces) → entry_for q new.board ≡ entry_for q old.board
  seen_in q same = ap (λ (d : WatchesData). entry_for q d.board) checked.rest ∙ ap (λ x. option_or x (opening_of q.owner old.board.openings)) same

  carried : (q : PieceKey) (w : Watch) (tally : ℕ) → entry_for q new.board ≡ entry_for q old.board → IsAmidWindow old q w tally → IsAmidWindow new q w tally
  carried q w tally same is = record {
    entry = is.entry;
    from = same ∙ is.from;
    amid = subst (λ (s : SpansData). IsAmid q.owner w is.entry (beats_in q.window (beats_for (standing s) q.owner)) tally) (sym (ap (λ (d : WatchesData). d.spans) checked.rest)) is.amid;
  }

  amid_here : (w : Watch) (tally : ℕ) → IsAmidWindow old key w tally → IsAmidWindow new key w tally
  amid_here w tally = carried key w tally (seen_in key (ap (last_exit key.owner) (before_changed key key (with_checked checked.result) old.board.pieces (ap is_le (key_self key)))))

  amid_other : (q : PieceKey) (w : Watch) (tally : ℕ) → (key.owner ≡ q.owner → ⊥) → IsAmidWindow old q w tally → IsAmidWindow new q w tally
  amid_other q w tally apart = carried q w tally (seen_in q (other_exit q.owner q key (with_checked checked.result) apart old.board.pieces))

-- ---- one monitor more

pub none_left : (windows : WatchesData) (boxes : BoxesData) → LeavesTallies windows boxes boxes
none_left windows boxes = record { each = λ number was now at found. inl (ap (λ (h : Held). h.tally) (one_held now was (sym found ∙ at))) }

-- One that is here was here before, with the same watch.
held_before : (start boxes : BoxesData) (n : ℕ) (was : Held) → KeepsBoxes start boxes → held_at n start.slots ≡ Some was → (h : Held) × (held_at n boxes.slots ≡ Some h) × (h.watch ≡ was.watch)
held_before start boxes n was keeps at = go (place_at n start.slots) (place_at n boxes.slots) refl at (keeps.places n)
  where
    go : (p q : Option Place) → place_at n boxes.slots ≡ q → option_and_then held_of p ≡ Some was → option_map without_tally q ≡ option_map without_tally p → (h : Held) × (held_at n boxes.slots ≡ Some h) × (h.watch ≡ was.watch)
    go None q is held same = absurd (let never : None ≡ Some was = held in cc)
    go (Some (Out a)) q is held same = absurd (let never : None ≡ Some was = held in cc)
    go (Some (Here x)) None is held same = absurd (let never : None ≡ Some (without_tally (Here x)) = same in cc)
    go (Some (Here x)) (Some (Out a)) is held same = absurd (let never : Some (Out a) ≡ Some (Here (record x { tally = 0 })) = same in cc)
    go (Some (Here x)) (Some (Here h)) is held same =
        let both : Some (Here (record h { tally = 0 })) ≡ Some (Here (record x { tally = 0 })) = same in
        let first : record h { tally = 0 } ≡ record x { tally = 0 } = cc in
        let second : x ≡ was = one_held x was held in
        (h, ap (λ o. option_and_then held_of o) is, ap (λ (y : Held). y.watch) first ∙ ap (λ (y : Held). y.watch) second)

module _ (start boxes after : BoxesData) (key : PieceKey) (keeps : KeepsBoxes start boxes) (old mid new : WatchesData) (same : mid ≡ old) where
  -- those of other monitors
  others_left : (Is : Held → ℕ → Type 0) → ((q : PieceKey) (w : Watch) (tally : ℕ) → (key.owner ≡ q.owner → ⊥) → IsAmidWindow mid q w tally → IsAmidWindow new q w tally) → LeavesTallies old start boxes → LeavesOne key.owner Is boxes after
      → (n : ℕ) (was now : Held) → held_at n start.slots ≡ Some was → held_at n after.slots ≡ Some now → (key.owner ≡ n → ⊥) → (now.tally ≡ was.tally) ⊎ ((window : ℕ) × IsAmidWindow new (key_of n window) was.watch now.tally)
  others_left Is carry left one n was now at found apart =
      elim (left.each n was now at (sym (ap (λ o. option_and_then held_of o) (one.others n apart)) ∙ found)) [
        | inl as_before ↦ inl as_before
        | inr amid ↦ inr (amid.0, carry (key_of n amid.0) was.watch now.tally apart (subst (λ (d : WatchesData). IsAmidWindow d (key_of n amid.0) was.watch now.tally) (sym same) amid.1))
      ]

  -- Its window was checked.
  pub left_more : ChecksWatch mid key new → LeavesTallies old start boxes → LeavesOne key.owner (λ held. IsAmidWindow mid key held.watch) boxes after → LeavesTallies new start after
  left_more checked left one = record {
    each = λ n was now at found. elim (same_number key.owner n) [
      | inl here ↦ subst (λ m. held_at m start.slots ≡ Some was → held_at m after.slots ≡ Some now → (now.tally ≡ was.tally) ⊎ ((window : ℕ) × IsAmidWindow new (key_of m window) was.watch now.tally)) here
          (λ at_here found_here. (
          let held = held_before start boxes key.owner was keeps at_here in
          inr (key.window, amid_here mid key new checked was.watch now.tally (subst (λ w. IsAmidWindow mid key w now.tally) held.2 (one.here held.0 now held.1 found_here))))) at found
      | inr apart ↦ others_left (λ held. IsAmidWindow mid key held.watch) (amid_other mid key new checked) left one n was now at found apart
    ];
  }

  -- Its check was refused memory.
  pub left_last : new ≡ mid → LeavesTallies old start boxes → LeavesOne key.owner (λ held tally. (tally ≡ held.tally) ⊎ IsAmidWindow mid key held.watch tally) boxes after → LeavesTallies new start after
  left_last stays left one = record {
    each = λ n was now at found. elim (same_number key.owner n) [
      | inl here ↦ subst (λ m. held_at m start.slots ≡ Some was → held_at m after.slots ≡ Some now → (now.tally ≡ was.tally) ⊎ ((window : ℕ) × IsAmidWindow new (key_of m window) was.watch now.tally)) here (here_left was now) at found
      | inr apart ↦ others_left (λ held tally. (tally ≡ held.tally) ⊎ IsAmidWindow mid key held.watch tally) (λ q w tally _ amid. carry q w tally amid) left one n was now at found apart
    ];
  }
    where
      carry : (q : PieceKey) (w : Watch) (tally : ℕ) → IsAmidWindow mid q w tally → IsAmidWindow new q w tally
      carry q w tally amid = subst (λ (d : WatchesData). IsAmidWindow d q w tally) (sym stays) amid

      here_left : (was now : Held) → held_at key.owner start.slots ≡ Some was → held_at key.owner after.slots ≡ Some now → (now.tally ≡ was.tally) ⊎ ((window : ℕ) × IsAmidWindow new (key_of key.owner window) was.watch now.tally)
      here_left was now at found =
          let held = held_before start boxes key.owner was keeps at in
          elim (one.here held.0 now held.1 found) [
            | inl untouched ↦ elim (left.each key.owner was held.0 at held.1) [
              | inl as_before ↦ inl (untouched ∙ as_before)
              | inr amid ↦ inr (
                amid.0,
                carry (key_of key.owner amid.0) was.watch now.tally
                    (subst (λ t. IsAmidWindow mid (key_of key.owner amid.0) was.watch t) (sym untouched) (subst (λ (d : WatchesData). IsAmidWindow d (key_of key.owner amid.0) was.watch held.0.tally) (sym same) amid.1)),
              )
            ]
            | inr amid ↦ inr (key.window, carry key was.watch now.tally (subst (λ w. IsAmidWindow mid key w now.tally) held.2 amid))
          ]
