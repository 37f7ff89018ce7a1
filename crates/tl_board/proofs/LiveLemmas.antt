-- A state that goes on from window to window.
use Rattle.std.proofs.Common.{◌≡◌, ℕ, ◌==◌, Bool, true, false, not, ◌&&◌, cond, List, [], ◌∷◌, Ordering, Less, Equal, Greater, Option, Some, None, refl, sym, ap, subst, ◌∙◌, eqb-true, arith}
use Rattle.std.proofs.lemmas.Bool.Decides.{nat_tests}
use Rattle.std.proofs.lemmas.Map.Keys.{sorted_head, sorted_tail}
use Rattle.std.specs.Prelude.{is_some}
use Rattle.std.specs.Option.{option_map, option_or}
use Rattle.std.specs.List.{AllByRecursion}
use Rattle.std.specs.Map.{keys_of}
use Rattle.std.specs.Ordering.{is_eq, is_le, is_lt, ordering_reverse}
use Rattle.tl_beats.specs.declared.Row.{Row}
use Rattle.tl_pieces.proofs.KeyLemmas.{key_exact, key_self, key_total}
use Rattle.tl_pieces.proofs.OwnerLemmas.{own_of}
use Rattle.tl_pieces.specs.declared.key.PieceKey.{PieceKey}
use Rattle.tl_pieces.specs.Keys.{key_cmp, value_at, change, before, after, first_key, owned_by, Rises}
use Rattle.tl_pieces.specs.Pieces.{Piece, Board, Pass, piece_at, result_of, exit_of, last_exit, opening_of, entry_for, with_pieces}
use Rattle.tl_check.specs.States.{SameSpan}
use Rattle.tl_check.specs.declared.state.SpanState.{SpanState}
use Rattle.tl_board.specs.Live.{IsLive}
use Rattle.tl_board.specs.Windows.{with_checked}
use Rattle.tl_board.proofs.CheckLemmas.{lookup_change}
use Rattle.tl_board.specs.declared.checking.Live.{Live}

raised : (k e : PieceKey) (ks : List PieceKey) → key_cmp k e ≡ Less → AllByRecursion (λ y. key_cmp e y ≡ Less) ks → AllByRecursion (λ y. key_cmp k y ≡ Less) ks
raised k e [] less all = tt
raised k e (y ∷ ks) less all = (key_total.trans k e y less all.0, raised k e ks less all.1)

module _ {S R : Type 0} where
  -- No piece of a later list has the key.
  absent : (k : PieceKey) (es : List (PieceKey × Piece S R)) → AllByRecursion (λ y. key_cmp k y ≡ Less) (keys_of es) → value_at k es ≡ None
  absent k [] all = refl
  absent k (e ∷ es) all = ap (λ o. cond (is_eq o) (Some e.1) (value_at k es)) all.0 ∙ absent k es all.1

  all_after : (k : PieceKey) (es : List (PieceKey × Piece S R)) → AllByRecursion (λ y. key_cmp k y ≡ Less) (keys_of es) → after k es ≡ es
  all_after k [] all = refl
  all_after k (e ∷ es) all = ap (λ o. cond (is_lt o && not false) (e ∷ after k es) (after k es)) all.0 ∙ ap (λ t. e ∷ t) (all_after k es all.1)

  none_before : (k : PieceKey) (es : List (PieceKey × Piece S R)) → AllByRecursion (λ y. key_cmp k y ≡ Less) (keys_of es) → before k es ≡ []
  none_before k [] all = refl
  none_before k (e ∷ es) all = ap (λ o. cond (true && not (is_le o)) (e ∷ before k es) (before k es)) all.0 ∙ none_before k es all.1

  first_of_all : (P : PieceKey → Type 0) (o : ℕ) (es : List (PieceKey × Piece S R)) (k : PieceKey) → AllByRecursion P (keys_of es) → first_key (owned_by o es) ≡ Some k → P k
  first_of_all P o [] k all first = cc
  first_of_all P o (e ∷ es) k all first = go (first_of_all P o es k all.1) (e.0.owner == o) first
    where
      go : (first_key (owned_by o es) ≡ Some k → P k) → (b : Bool) → first_key (cond b (e ∷ owned_by o es) (owned_by o es)) ≡ Some k → P k
      go later true is = let same : e.0 ≡ k = cc in subst P same all.0
      go later false is = later is

  -- Nothing of the owner stands before its first piece.
  none_first : (o : ℕ) (es : List (PieceKey × Piece S R)) (k : PieceKey) → Rises es → first_key (owned_by o es) ≡ Some k → last_exit o (before k es) ≡ None
  none_first o [] k rise first = refl
  none_first o (e ∷ es) k rise first = go (none_first o es k (sorted_tail key_cmp e.0 (keys_of es) rise)) (e.0.owner == o) refl first
    where
      passed : (e.0.owner == o) ≡ false → last_exit o (before k es) ≡ None → (b : Bool) → last_exit o (cond b (e ∷ before k es) (before k es)) ≡ None
      passed other none true = ap (λ x. option_or x (cond (e.0.owner == o) (exit_of e.1.result) None)) none ∙ ap (λ b. option_or None (cond b (exit_of e.1.result) None)) other
      passed other none false = none

      go : (first_key (owned_by o es) ≡ Some k → last_exit o (before k es) ≡ None) → (b : Bool) → (e.0.owner == o) ≡ b → first_key (cond b (e ∷ owned_by o es) (owned_by o es)) ≡ Some k
          → last_exit o (before k (e ∷ es)) ≡ None
      go later true own is =
          let same : k ≡ e.0 = cc in
          let above : AllByRecursion (λ y. key_cmp k y ≡ Less) (keys_of es) = subst (λ (x : PieceKey). AllByRecursion (λ y. key_cmp x y ≡ Less) (keys_of es)) (sym same) (sorted_head key_cmp e.0 (keys_of es) rise) in
          let equal : key_cmp k e.0 ≡ Equal = ap (key_cmp k) (sym same) ∙ key_self k in
          ap (λ c. last_exit o (cond (true && not (is_le c)) (e ∷ before k es) (before k es))) equal ∙ ap (last_exit o) (none_before k es above)
      go later false other is = passed other (later is) (true && not (is_le (key_cmp k e.0)))

  -- What a piece left is the last exit before the next piece of its owner.
  last_left : (k : PieceKey) (r : Pass S R) (es : List (PieceKey × Piece S R)) (key : PieceKey) → Rises es → result_of (value_at k es) ≡ Some r → first_key (owned_by k.owner (after k es)) ≡ Some key
      → last_exit k.owner (before key es) ≡ Some r.exit
  last_left k r [] key rise has first = cc
  last_left k r (e ∷ es) key rise has first = go (last_left k r es key (sorted_tail key_cmp e.0 (keys_of es) rise)) (key_cmp k e.0) refl has first
    where
      above : AllByRecursion (λ y. key_cmp e.0 y ≡ Less) (keys_of es)
      above = sorted_head key_cmp e.0 (keys_of es) rise

      on : last_exit k.owner (before key es) ≡ Some r.exit → (b : Bool) → last_exit k.owner (cond b (e ∷ before key es) (before key es)) ≡ Some r.exit
      on found true = ap (λ x. option_or x (cond (e.0.owner == k.owner) (exit_of e.1.result) None)) found
      on found false = found

      go : (result_of (value_at k es) ≡ Some r → first_key (owned_by k.owner (after k es)) ≡ Some key → last_exit k.owner (before key es) ≡ Some r.exit)
          → (o : Ordering) → key_cmp k e.0 ≡ o → result_of (cond (is_eq o) (Some e.1) (value_at k es)) ≡ Some r
          → first_key (owned_by k.owner (cond (is_lt o && not false) (e ∷ after k es) (after k es))) ≡ Some key → last_exit k.owner (before key (e ∷ es)) ≡ Some r.exit
      go later Less less own is = let never : None ≡ Some r = sym (ap result_of (absent k es (raised k e.0 (keys_of es) less above))) ∙ own in cc
      go later Equal equal own is =
          let same : k ≡ e.0 = key_exact k e.0 (ap is_eq equal) in
          let higher : AllByRecursion (λ y. key_cmp k y ≡ Less) (keys_of es) = subst (λ (x : PieceKey). AllByRecursion (λ y. key_cmp x y ≡ Less) (keys_of es)) (sym same) above in
          let next : first_key (owned_by k.owner es) ≡ Some key = sym (ap (λ t. first_key (owned_by k.owner t)) (all_after k es higher)) ∙ is in
          let lower : key_cmp key e.0 ≡ Greater = key_total.antisymm key e.0 ∙ ap ordering_reverse (first_of_all (λ y. key_cmp e.0 y ≡ Less) k.owner es key above next) in
          let owners : e.0.owner ≡ k.owner = ap (λ (x : PieceKey). x.owner) (sym same) in
          let mine : (e.0.owner == k.owner) ≡ true = grind (arith, nat_tests) in
          ap (λ c. last_exit k.owner (cond (true && not (is_le c)) (e ∷ before key es) (before key es))) lower
          ∙ ap (λ x. option_or x (cond (e.0.owner == k.owner) (exit_of e.1.result) None)) (none_first k.owner es key (sorted_tail key_cmp e.0 (keys_of es) rise) next)
          ∙ ap (λ b. option_or None (cond b (exit_of e.1.result) None)) mine ∙ ap exit_of own
      go later Greater greater own is = on (later own is) (true && not (is_le (key_cmp key e.0)))

  -- What a window left is what the next window of its owner is to start from.
  pub left_is_entry : (board : Board S R) (k key : PieceKey) (r : Pass S R) → Rises board.pieces → result_of (piece_at k board) ≡ Some r → first_key (owned_by k.owner (after k board.pieces)) ≡ Some key
      → entry_for key board ≡ Some r.exit
  left_is_entry board k key r rise has first =
      let own : key.owner ≡ k.owner = eqb-true key.owner k.owner (own_of k.owner (after k board.pieces) key first) in
      ap (λ x. option_or x (opening_of key.owner board.openings)) (ap (λ o. last_exit o (before key board.pieces)) own ∙ last_left k r board.pieces key rise has first)

module _ {S R : Type 0} (old new : Board S R) (key : PieceKey) (r : Pass S R) (is : new ≡ with_pieces old (change key (with_checked r) old.pieces)) where
  has : (found : Option (Piece S R)) → is_some found ≡ true → result_of (option_map (with_checked r) found) ≡ Some r
  has None there = cc
  has (Some p) there = refl

  -- A window that was checked has its result.
  pub checked_has : is_some (piece_at key old) ≡ true → result_of (piece_at key new) ≡ Some r
  checked_has there =
      ap (λ (b : Board S R). result_of (piece_at key b)) is ∙ ap result_of (lookup_change key (with_checked r) key old.pieces)
      ∙ ap (λ o. result_of (cond (is_eq o) (option_map (with_checked r) (piece_at key old)) (piece_at key old))) (key_self key) ∙ has (piece_at key old) there

both_true : (x y : Bool) → (x && y) ≡ true → (x ≡ true) × (y ≡ true)
both_true true y h = (refl, h)
both_true false y h = cc

pub same_key : (one two : PieceKey) → ((one.owner == two.owner) && (one.window == two.window)) ≡ true → one ≡ two
same_key one two h =
    let tests = both_true (one.owner == two.owner) (one.window == two.window) h in
    λ i. record { owner = eqb-true one.owner two.owner tests.0 i; window = eqb-true one.window two.window tests.1 i }

-- A state that goes on after a window shows what the next window of its owner is to start from.
pub goes_on : (board : Board SpanState (List Row)) (live : Live) (key : PieceKey) (entry : SpanState) → Rises board.pieces → first_key (owned_by live.key.owner (after live.key board.pieces)) ≡ Some key
    → IsLive board live → entry_for key board ≡ Some entry → SameSpan entry live.state
goes_on board live key entry rise next is at =
    let found : Some is.0.exit ≡ Some entry = sym (left_is_entry board live.key key is.0 rise is.1 next) ∙ at in
    let same : is.0.exit ≡ entry = cc in
    subst (λ s. SameSpan s live.state) same is.2
