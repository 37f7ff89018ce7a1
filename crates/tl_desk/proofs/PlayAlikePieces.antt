-- Windows that show the same, as lists.
use Rattle.std.proofs.Common.{◌≡◌, ℕ, ◌==◌, true, false, not, ◌&&◌, cond, Bool, List, [], ◌∷◌, Option, Some, None, refl, sym, ap, subst, ◌∙◌, Ordering, Less, Equal, Greater}
use Rattle.std.specs.Prelude.{option_map}
use Rattle.std.specs.BTreeMap.{is_at}
use Rattle.std.specs.List.{AllByRecursion}
use Rattle.std.specs.Map.{keys_of}
use Rattle.std.specs.Option.{option_or}
use Rattle.std.specs.Ordering.{is_eq, is_le, ordering_reverse}
use Rattle.std.proofs.lemmas.Map.{lookup-none}
use Rattle.std.proofs.lemmas.Map.Entries.{none_below_head}
use Rattle.std.proofs.lemmas.Map.Keys.{sorted_head, sorted_tail}
use Rattle.tl_beats.specs.declared.Row.{Row}
use Rattle.tl_pieces.specs.declared.key.PieceKey.{PieceKey}
use Rattle.tl_pieces.specs.Keys.{key_cmp, value_at, change, before, Rises}
use Rattle.tl_pieces.specs.Pieces.{Board, Piece, Pass, opening_of, exit_of, last_exit, live_of, entry_for}
use Rattle.tl_pieces.proofs.KeyLemmas.{key_total, key_exact, key_self}
use Rattle.tl_board.proofs.CheckLemmas.{lookup_change}
use Rattle.tl_desk.specs.Alike.{AreBoth, SamePass, SamePiece}
use Rattle.tl_desk.proofs.AlikeBoards.{OpenAlike, moved}

-- ---- what stands under a key

first_none : {V : Type 0} (k : PieceKey) (e : PieceKey × V) (es : List (PieceKey × V)) → Rises (e ∷ es) → key_cmp k e.0 ≡ Less → value_at k (e ∷ es) ≡ None
first_none k e es s lt = lookup-none (is_at (key_cmp k)) (e ∷ es) (none_below_head key_total k e es s lt)

above_none : {V : Type 0} (k : PieceKey) (es : List (PieceKey × V)) → Rises es → AllByRecursion (λ q. key_cmp k q ≡ Less) (keys_of es) → value_at k es ≡ None
above_none k [] s a = refl
above_none k (e ∷ es) s a = first_none k e es s a.0

rest_none : {V : Type 0} (e : PieceKey × V) (es : List (PieceKey × V)) → Rises (e ∷ es) → value_at e.0 es ≡ None
rest_none e es s = above_none e.0 es (sorted_tail key_cmp e.0 (keys_of es) s) (sorted_head key_cmp e.0 (keys_of es) s)

found_head : {V : Type 0} (e : PieceKey × V) (es : List (PieceKey × V)) → value_at e.0 (e ∷ es) ≡ Some e.1
found_head e es = ap (λ b. cond b (Some e.1) (value_at e.0 es)) (ap is_eq (key_self e.0))

module _ {S : Type 0} (same : S → S → Type 0) where
  -- The same keys, one after the other, and under each what shows the same.
  abbrev pub Listed : List (PieceKey × Piece S (List Row)) → List (PieceKey × Piece S (List Row)) → Type 0
  Listed [] [] = Unit {0}
  Listed [] (f ∷ fs) = ⊥
  Listed (e ∷ es) [] = ⊥
  Listed (e ∷ es) (f ∷ fs) = (e.0 ≡ f.0) × SamePiece same e.1 f.1 × Listed es fs

  -- So are lists in the order of their keys that show the same under each.
  pub listed : (xs ys : List (PieceKey × Piece S (List Row))) → Rises xs → Rises ys → ((k : PieceKey) → AreBoth (SamePiece same) (value_at k xs) (value_at k ys)) → Listed xs ys
  listed [] [] a b all = tt
  listed [] (y ∷ ys) a b all = moved (SamePiece same) None (value_at y.0 (y ∷ ys)) None (Some y.1) refl (found_head y ys) (all y.0)
  listed (x ∷ xs) [] a b all = moved (SamePiece same) (value_at x.0 (x ∷ xs)) None (Some x.1) None (found_head x xs) refl (all x.0)
  listed (x ∷ xs) (y ∷ ys) a b all = go (listed xs ys (sorted_tail key_cmp x.0 (keys_of xs) a) (sorted_tail key_cmp y.0 (keys_of ys) b)) (key_cmp x.0 y.0) refl
    where
      tails : x.0 ≡ y.0 → (k : PieceKey) → AreBoth (SamePiece same) (value_at k xs) (value_at k ys)
      tails at k = elim (is_at (key_cmp k) x.0) as (λ t. is_at (key_cmp k) x.0 ≡ t → AreBoth (SamePiece same) (value_at k xs) (value_at k ys)) [
        | true ↦ λ t. (let here : k ≡ x.0 = key_exact k x.0 t in
            moved (SamePiece same) None None (value_at k xs) (value_at k ys) (sym (ap (λ q. value_at q xs) here ∙ rest_none x xs a)) (sym (ap (λ q. value_at q ys) (here ∙ at) ∙ rest_none y ys b)) tt)
        | false ↦ λ t. (let there : is_at (key_cmp k) y.0 ≡ false = subst (λ q. is_at (key_cmp k) q ≡ false) at t in
            moved (SamePiece same) (value_at k (x ∷ xs)) (value_at k (y ∷ ys)) (value_at k xs) (value_at k ys) (ap (λ c. cond c (Some x.1) (value_at k xs)) t) (ap (λ c. cond c (Some y.1) (value_at k ys)) there) (all k))
      ] refl

      go : (((k : PieceKey) → AreBoth (SamePiece same) (value_at k xs) (value_at k ys)) → Listed xs ys) → (o : Ordering) → key_cmp x.0 y.0 ≡ o → Listed (x ∷ xs) (y ∷ ys)
      go later Less e = absurd (moved (SamePiece same) (value_at x.0 (x ∷ xs)) (value_at x.0 (y ∷ ys)) (Some x.1) None (found_head x xs) (first_none x.0 y ys b e) (all x.0))
      go later Equal e =
          let at : x.0 ≡ y.0 = key_exact x.0 y.0 (ap is_eq e) in
          (at, moved (SamePiece same) (value_at x.0 (x ∷ xs)) (value_at x.0 (y ∷ ys)) (Some x.1) (Some y.1) (found_head x xs) (ap (λ q. value_at q (y ∷ ys)) at ∙ found_head y ys) (all x.0), later (tails at))
      go later Greater e =
          let lower : key_cmp y.0 x.0 ≡ Less = key_total.antisymm y.0 x.0 ∙ ap ordering_reverse e in
          absurd (moved (SamePiece same) (value_at y.0 (x ∷ xs)) (value_at y.0 (y ∷ ys)) None (Some y.1) (first_none y.0 x xs a lower) (found_head y ys) (all y.0))

  -- ---- one window

  pub lives_alike : (x y : Option (Piece S (List Row))) → AreBoth (SamePiece same) x y → live_of x ≡ live_of y
  lives_alike None None both = refl
  lives_alike None (Some y) both = absurd both
  lives_alike (Some x) None both = absurd both
  lives_alike (Some x) (Some y) both = both.live

  pub exits_alike : (r q : Option (Pass S (List Row))) → AreBoth (SamePass same) r q → AreBoth same (exit_of r) (exit_of q)
  exits_alike None None both = tt
  exits_alike None (Some q) both = absurd both
  exits_alike (Some r) None both = absurd both
  exits_alike (Some r) (Some q) both = both.exit

  -- A window changes in both.
  pub changed_alike : (key : PieceKey) (f g : Piece S (List Row) → Piece S (List Row)) → ((x y : Piece S (List Row)) → SamePiece same x y → SamePiece same (f x) (g y)) → (es fs : List (PieceKey × Piece S (List Row)))
      → ((k : PieceKey) → AreBoth (SamePiece same) (value_at k es) (value_at k fs)) → (k : PieceKey) → AreBoth (SamePiece same) (value_at k (change key f es)) (value_at k (change key g fs))
  changed_alike key f g keeps es fs all k =
      moved (SamePiece same) (cond (is_at (key_cmp k) key) (option_map f (value_at k es)) (value_at k es)) (cond (is_at (key_cmp k) key) (option_map g (value_at k fs)) (value_at k fs))
      (value_at k (change key f es)) (value_at k (change key g fs)) (sym (lookup_change key f k es)) (sym (lookup_change key g k fs)) (go (is_at (key_cmp k) key))
    where
      mapped : (x y : Option (Piece S (List Row))) → AreBoth (SamePiece same) x y → AreBoth (SamePiece same) (option_map f x) (option_map g y)
      mapped None None both = tt
      mapped None (Some y) both = absurd both
      mapped (Some x) None both = absurd both
      mapped (Some x) (Some y) both = keeps x y both

      go : (b : Bool) → AreBoth (SamePiece same) (cond b (option_map f (value_at k es)) (value_at k es)) (cond b (option_map g (value_at k fs)) (value_at k fs))
      go true = mapped (value_at k es) (value_at k fs) (all k)
      go false = all k

  -- ---- what a window is to start from

  either_alike : (a b c d : Option S) → AreBoth same a c → AreBoth same b d → AreBoth same (option_or a b) (option_or c d)
  either_alike None b None d first second = second
  either_alike None b (Some c) d first second = absurd first
  either_alike (Some a) b None d first second = absurd first
  either_alike (Some a) b (Some c) d first second = first

  last_alike : (o : ℕ) (es fs : List (PieceKey × Piece S (List Row))) → Listed es fs → AreBoth same (last_exit o es) (last_exit o fs)
  last_alike o [] [] all = tt
  last_alike o [] (f ∷ fs) all = absurd all
  last_alike o (e ∷ es) [] all = absurd all
  last_alike o (e ∷ es) (f ∷ fs) all =
      either_alike (last_exit o es) (cond (e.0.owner == o) (exit_of e.1.result) None) (last_exit o fs) (cond (f.0.owner == o) (exit_of f.1.result) None) (last_alike o es fs all.2)
      (subst (λ (k : PieceKey). AreBoth same (cond (e.0.owner == o) (exit_of e.1.result) None) (cond (k.owner == o) (exit_of f.1.result) None)) all.0 (go (e.0.owner == o)))
    where
      go : (b : Bool) → AreBoth same (cond b (exit_of e.1.result) None) (cond b (exit_of f.1.result) None)
      go true = exits_alike e.1.result f.1.result all.1.result
      go false = tt

  before_alike : (k : PieceKey) (es fs : List (PieceKey × Piece S (List Row))) → Listed es fs → Listed (before k es) (before k fs)
  before_alike k [] [] all = tt
  before_alike k [] (f ∷ fs) all = absurd all
  before_alike k (e ∷ es) [] all = absurd all
  before_alike k (e ∷ es) (f ∷ fs) all =
      subst (λ q. Listed (cond (true && not (is_le (key_cmp k e.0))) (e ∷ before k es) (before k es)) (cond (true && not (is_le (key_cmp k q))) (f ∷ before k fs) (before k fs))) all.0
      (go (before_alike k es fs all.2) (true && not (is_le (key_cmp k e.0))))
    where
      go : Listed (before k es) (before k fs) → (b : Bool) → Listed (cond b (e ∷ before k es) (before k es)) (cond b (f ∷ before k fs) (before k fs))
      go later true = (all.0, all.1, later)
      go later false = later

  pub entries_alike : (one other : Board S (List Row)) → OpenAlike same one.openings other.openings → Listed one.pieces other.pieces → (k : PieceKey) → AreBoth same (entry_for k one) (entry_for k other)
  entries_alike one other opens all k =
      either_alike (last_exit k.owner (before k one.pieces)) (opening_of k.owner one.openings) (last_exit k.owner (before k other.pieces)) (opening_of k.owner other.openings)
      (last_alike k.owner (before k one.pieces) (before k other.pieces) (before_alike k one.pieces other.pieces all)) (opens k.owner)
