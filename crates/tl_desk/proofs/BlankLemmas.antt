-- Windows without a result and without a ticket are to be taken.
use Rattle.std.proofs.Common.{◌≡◌, ℕ, ◌<◌, inl, inr, true, false, cond, Bool, List, [], ◌∷◌, Option, Some, None, length, refl, sym, ap, subst, ◌∙◌, arith, nat_lt}
use Rattle.std.specs.Prelude.{is_some}
use Rattle.std.specs.BTreeMap.{is_at}
use Rattle.std.proofs.lemmas.Bool.Decides.{nat_tests}
use Rattle.tl_beats.specs.declared.Row.{Row}
use Rattle.tl_pieces.specs.declared.key.PieceKey.{PieceKey}
use Rattle.tl_pieces.specs.Keys.{key_cmp, value_at}
use Rattle.tl_pieces.specs.Pieces.{Pass, Piece, IsFirst, IsFree, IsGood, exit_before, left_by, opening_of, piece_at, result_of, live_of}
use Rattle.tl_pieces.proofs.KeyLemmas.{key_exact}
use Rattle.tl_check.specs.States.{SameSpan}
use Rattle.tl_check.specs.declared.state.SpanState.{SpanState}
use Rattle.tl_board.specs.Windows.{key_of}
use Rattle.tl_desk.specs.Core.{log_of}
use Rattle.tl_desk.specs.Laws.{BlankWindowsAreGiven}
use Rattle.tl_desk.proofs.TicketLemmas.{one_value}

none_free : {S R : Type 0} (P : Option (ℕ × Option S) → PieceKey → Piece S R → Type 0) (l : Option (ℕ × Option S)) (es : List (PieceKey × Piece S R)) (k : PieceKey) (p : Piece S R)
    → IsFirst P l es None → value_at k es ≡ Some p → ((before : Option (ℕ × Option S)) → P before k p) → ⊥
none_free P l [] k p none found free = let never : None ≡ Some p = found in cc
none_free P l (e ∷ es) k p (inl none) found free = let never : None ≡ Some e.0 = none.1 in cc
none_free {S} {R} P l (e ∷ es) k p (inr none) found free = go (λ there. none_free P (left_by e.0 e.1) es k p none.1 there free) (is_at (key_cmp k) e.0) refl found
  where
    go : (value_at k es ≡ Some p → ⊥) → (b : Bool) → is_at (key_cmp k) e.0 ≡ b → cond b (Some e.1) (value_at k es) ≡ Some p → ⊥
    go later true at here =
        let same : e.1 ≡ p = one_value (Some e.1) e.1 p refl here in
        none.0 (subst (λ (x : Piece S R). P l e.0 x) (sym same) (subst (λ (x : PieceKey). P l x p) (key_exact k e.0 at) (free l)))
    go later false at there = later there

below : (a b : ℕ) → a < b → nat_lt a b ≡ true
below a b low = grind (arith, nat_tests)

piece_there : {X : Type 0} (o : Option X) → is_some o ≡ true → (x : X) × (o ≡ Some x)
piece_there None there = absurd (let never : false ≡ true = there in cc)
piece_there (Some x) there = (x, refl)

unwanted : {S R : Type 0} (same : S → S → Type 0) (before : Option S) (r : Option (Pass S R)) → r ≡ None → IsGood same before r → ⊥
unwanted same before None is good = good
unwanted same before (Some r) is good = absurd (let never : Some r ≡ None = is in cc)

pub blank_windows_are_given : BlankWindowsAreGiven
blank_windows_are_given core after manager window desk blank gives = go (piece_there (piece_at key core.windows.spans.board) there).0 (piece_there (piece_at key core.windows.spans.board) there).1
  where
    key : PieceKey
    key = key_of manager window

    own : is_some (opening_of manager core.windows.spans.board.openings) ≡ true
    own = desk.managers.managers.owners manager ∙ below manager (length (log_of core).topo.managers) blank.manages

    there : is_some (piece_at key core.windows.spans.board) ≡ true
    there = (desk.managers.covered.windows key own).1 blank.beat

    go : (p : Piece SpanState (List Row)) → piece_at key core.windows.spans.board ≡ Some p → ⊥
    go p found =
        none_free (IsFree SameSpan core.windows.spans.board.openings) None core.windows.spans.board.pieces key p gives.0 found
        (λ before. ((λ good. unwanted SameSpan (exit_before core.windows.spans.board.openings before key.owner) p.result (sym (ap result_of found) ∙ blank.result) good), sym (ap live_of found) ∙ blank.live))
