-- What changes of slots show.
use Rattle.std.proofs.Common.{◌≡◌, ℕ, suc, length, Bool, true, false, not, ◌&&◌, ◌==◌, cond, List, [], ◌∷◌, refl, ap, ◌∙◌, subst, Less, Equal, Greater, Option, Some, None}
use Rattle.std.specs.Prelude.{is_some}
use Rattle.std.specs.Ordering.{match_ordering, is_le, is_lt}
use Rattle.std.specs.Option.{option_map, option_or}
use Rattle.std.specs.BTreeMap.{is_at, insert_entry}
use Rattle.std.specs.List.Sorted.{IsStrictlySortedBy}
use Rattle.std.specs.Map.{keys_of, remove_entry}
use Rattle.tl_pieces.specs.declared.key.PieceKey.{PieceKey}
use Rattle.tl_pieces.specs.declared.slot.Slot.{Slot}
use Rattle.tl_pieces.specs.declared.slot.Stored.{Stored}
use Rattle.tl_pieces.specs.declared.slot.Change.TheVariants as to
use Rattle.tl_pieces.specs.Keys.{key_cmp, value_at, change, before, after, first_key, owned_by, Rises}
use Rattle.tl_pieces.specs.Slots.{changed, blank, last_result}
use Rattle.tl_pieces.specs.Pieces.{Piece, Board, result_of, empty, with_live, with_result, with_pieces, exit_of, last_exit}
use Rattle.tl_pieces.specs.Marks.{piece_of, pass_of, pass_at, passed, shown}

module _ {S R : Type 0} (k : PieceKey) where
  shown_change : (f : Slot S R → Slot S R) (g : Piece S R → Piece S R) → ((v : Slot S R) → piece_of (f v) ≡ g (piece_of v)) → (es : List (PieceKey × Slot S R)) → shown (change k f es) ≡ change k g (shown es)
  shown_change f g h [] = refl
  shown_change f g h (e ∷ es) =
      elim (is_at (key_cmp k) e.0) as (λ b. shown (cond b ((e.0, f e.1) ∷ es) (e ∷ change k f es)) ≡ cond b ((e.0, g (piece_of e.1)) ∷ shown es) ((e.0, piece_of e.1) ∷ change k g (shown es))) [
        | true ↦ ap (λ p. (e.0, p) ∷ shown es) (h e.1)
        | false ↦ ap (λ t. (e.0, piece_of e.1) ∷ t) (shown_change f g h es)
      ]

  pub shown_touched : (es : List (PieceKey × Slot S R)) → shown (change k (changed to.Touched) es) ≡ change k (λ _. empty) (shown es)
  shown_touched es = shown_change (changed to.Touched) (λ _. empty) (λ v. refl) es

  pub shown_live : (t : Option ℕ) (es : List (PieceKey × Slot S R)) → shown (change k (changed (to.Live t)) es) ≡ change k (with_live t) (shown es)
  shown_live t es = shown_change (changed (to.Live t)) (with_live t) (λ v. refl) es

  pub shown_stored : (r : Stored S R) (es : List (PieceKey × Slot S R)) → shown (change k (changed (to.Result r)) es) ≡ change k (with_result (pass_of r)) (shown es)
  shown_stored r es = shown_change (changed (to.Result r)) (with_result (pass_of r)) (λ v. refl) es

  pub shown_wanted : (w : Bool) (es : List (PieceKey × Slot S R)) → shown (change k (changed (to.Wanted w)) es) ≡ shown es
  shown_wanted w [] = refl
  shown_wanted w (e ∷ es) =
      elim (is_at (key_cmp k) e.0) as (λ b. shown (cond b ((e.0, changed (to.Wanted w) e.1) ∷ es) (e ∷ change k (changed (to.Wanted w)) es)) ≡ shown (e ∷ es)) [
        | true ↦ refl
        | false ↦ ap (λ t. (e.0, piece_of e.1) ∷ t) (shown_wanted w es)
      ]

  pub shown_put : (es : List (PieceKey × Slot S R)) → shown (insert_entry key_cmp es k blank) ≡ insert_entry key_cmp (shown es) k empty
  shown_put [] = refl
  shown_put (e ∷ es) =
      elim (key_cmp k e.0) as (λ o. shown (match_ordering o ((k, blank) ∷ e ∷ es) ((e.0, blank) ∷ es) (e ∷ insert_entry key_cmp es k blank))
      ≡ match_ordering o ((k, empty) ∷ shown (e ∷ es)) ((e.0, empty) ∷ shown es) ((e.0, piece_of e.1) ∷ insert_entry key_cmp (shown es) k empty)) [
        | Less ↦ refl
        | Equal ↦ refl
        | Greater ↦ ap (λ t. (e.0, piece_of e.1) ∷ t) (shown_put es)
      ]

  pub shown_taken : (es : List (PieceKey × Slot S R)) → shown (remove_entry (is_at (key_cmp k)) es) ≡ remove_entry (is_at (key_cmp k)) (shown es)
  shown_taken [] = refl
  shown_taken (e ∷ es) =
      elim (is_at (key_cmp k) e.0) as (λ b. shown (cond b es (e ∷ remove_entry (is_at (key_cmp k)) es)) ≡ cond b (shown es) ((e.0, piece_of e.1) ∷ remove_entry (is_at (key_cmp k)) (shown es))) [
        | true ↦ refl
        | false ↦ ap (λ t. (e.0, piece_of e.1) ∷ t) (shown_taken es)
      ]

  -- the slot of a piece that is shown
  pub slot_found : (es : List (PieceKey × Slot S R)) → is_some (value_at k (shown es)) ≡ true → (v : Slot S R) × (value_at k es ≡ Some v)
  slot_found [] h = cc
  slot_found (e ∷ es) h =
      elim (is_at (key_cmp k) e.0) as (λ b. is_some (cond b (Some (piece_of e.1)) (value_at k (shown es))) ≡ true → (v : Slot S R) × (cond b (Some e.1) (value_at k es) ≡ Some v)) [
        | true ↦ λ g. (e.1, refl)
        | false ↦ λ g. slot_found es g
      ] h

  pub slot_none : (es : List (PieceKey × Slot S R)) → value_at k (shown es) ≡ None → value_at k es ≡ None
  slot_none [] h = refl
  slot_none (e ∷ es) h =
      elim (is_at (key_cmp k) e.0) as (λ b. cond b (Some (piece_of e.1)) (value_at k (shown es)) ≡ None → cond b (Some e.1) (value_at k es) ≡ None) [
        | true ↦ λ g. cc
        | false ↦ λ g. slot_none es g
      ] h

pub some_shown : {S R : Type 0} (k : PieceKey) (es : List (PieceKey × Slot S R)) → is_some (value_at k es) ≡ is_some (value_at k (shown es))
some_shown k [] = refl
some_shown k (e ∷ es) =
    elim (is_at (key_cmp k) e.0) as (λ b. is_some (cond b (Some e.1) (value_at k es)) ≡ is_some (cond b (Some (piece_of e.1)) (value_at k (shown es)))) [
      | true ↦ refl
      | false ↦ some_shown k es
    ]

pub found_shown : {S R : Type 0} (k : PieceKey) (es : List (PieceKey × Slot S R)) → value_at k (shown es) ≡ option_map piece_of (value_at k es)
found_shown k [] = refl
found_shown k (e ∷ es) =
    elim (is_at (key_cmp k) e.0) as (λ b. cond b (Some (piece_of e.1)) (value_at k (shown es)) ≡ option_map piece_of (cond b (Some e.1) (value_at k es))) [
      | true ↦ refl
      | false ↦ found_shown k es
    ]

-- what a change shows, once the fields are seen as a value
pub board_step : {S R : Type 0} (v b : Board S R) → v ≡ b → (f : List (PieceKey × Piece S R) → List (PieceKey × Piece S R)) (es : List (PieceKey × Piece S R)) → es ≡ f v.pieces → with_pieces v es ≡ with_pieces b (f b.pieces)
board_step v b is f es h = ap (with_pieces v) h ∙ ap (λ x. with_pieces x (f x.pieces)) is

keys_shown : {S R : Type 0} (es : List (PieceKey × Slot S R)) → keys_of es ≡ keys_of (shown es)
keys_shown [] = refl
keys_shown (e ∷ es) = ap (λ t. e.0 ∷ t) (keys_shown es)

pub rises_shown : {S R : Type 0} (es : List (PieceKey × Slot S R)) → Rises es → Rises (shown es)
rises_shown es s = subst (IsStrictlySortedBy key_cmp) (keys_shown es) s

module _ {S R : Type 0} where
  -- what is shown of it
  pub last_shown : (o : ℕ) (es : List (PieceKey × Slot S R)) → last_exit o (shown es) ≡ exit_of (passed (last_result o es))
  last_shown o [] = refl
  last_shown o (e ∷ es) = ap (λ r. option_or r (cond (e.0.owner == o) (exit_of (passed e.1.result)) None)) (last_shown o es) ∙ both (last_result o es) (e.0.owner == o) e.1.result
    where
      both : (a : Option (Stored S R)) (c : Bool) (r : Option (Stored S R)) → option_or (exit_of (passed a)) (cond c (exit_of (passed r)) None) ≡ exit_of (passed (option_or a (cond c r None)))
      both None true r = refl
      both None false r = refl
      both (Some x) c r = refl

  pub before_shown : (k : PieceKey) (es : List (PieceKey × Slot S R)) → before k (shown es) ≡ shown (before k es)
  before_shown k [] = refl
  before_shown k (e ∷ es) =
      elim (true && not (is_le (key_cmp k e.0))) as (λ b. cond b ((e.0, piece_of e.1) ∷ before k (shown es)) (before k (shown es)) ≡ shown (cond b (e ∷ before k es) (before k es))) [
        | true ↦ ap (λ t. (e.0, piece_of e.1) ∷ t) (before_shown k es)
        | false ↦ before_shown k es
      ]

pub count_shown : {S R : Type 0} (es : List (PieceKey × Slot S R)) → length es ≡ length (shown es)
count_shown [] = refl
count_shown (e ∷ es) = ap suc (count_shown es)

pub pass_shown : {S R : Type 0} (x : Option (Stored S R)) → option_map pass_of x ≡ passed x
pass_shown None = refl
pass_shown (Some r) = refl

pub result_shown : {S R : Type 0} (o : Option (Slot S R)) → result_of (option_map piece_of o) ≡ pass_at o
result_shown None = refl
result_shown (Some s) = refl

-- the first of an owner
pub first_owned_shown : {S R : Type 0} (o : ℕ) (es : List (PieceKey × Slot S R)) → first_key (owned_by o es) ≡ first_key (owned_by o (shown es))
first_owned_shown o [] = refl
first_owned_shown o (e ∷ es) =
    elim (e.0.owner == o) as (λ b. first_key (cond b (e ∷ owned_by o es) (owned_by o es)) ≡ first_key (cond b ((e.0, piece_of e.1) ∷ owned_by o (shown es)) (owned_by o (shown es)))) [
      | true ↦ refl
      | false ↦ first_owned_shown o es
    ]

pub after_shown : {S R : Type 0} (k : PieceKey) (es : List (PieceKey × Slot S R)) → shown (after k es) ≡ after k (shown es)
after_shown k [] = refl
after_shown k (e ∷ es) =
    elim (is_lt (key_cmp k e.0) && not false) as (λ b. shown (cond b (e ∷ after k es) (after k es)) ≡ cond b ((e.0, piece_of e.1) ∷ after k (shown es)) (after k (shown es))) [
      | true ↦ ap (λ t. (e.0, piece_of e.1) ∷ t) (after_shown k es)
      | false ↦ after_shown k es
    ]
