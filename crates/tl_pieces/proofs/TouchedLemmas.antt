-- The pieces of an owner are touched, one after the other.
use Rattle.std.proofs.Common.{◌≡◌, ℕ, suc, ◌+◌, ◌<◌, ◌==◌, true, false, cond, List, [], ◌∷◌, ◌++◌, refl, sym, ap, ◌∙◌, subst, arith, length, append_assoc, Option, Some, None}
use Rattle.std.specs.Prelude.{is_some}
use Rattle.std.specs.List.Sorted.{IsStrictlySortedBy}
use Rattle.std.specs.Map.{keys_of}
use Rattle.std.proofs.lemmas.List.{length-append}
use Rattle.tl_pieces.specs.declared.key.PieceKey.{PieceKey}
use Rattle.tl_pieces.specs.Keys.{key_cmp, value_at, change, after, first_key, owned_by, Rises}
use Rattle.tl_pieces.specs.Pieces.{Piece, Board, empty, piece_at, with_pieces, touched_all}
use Rattle.tl_pieces.proofs.PlaceLemmas.{place_change, place_lookup, place_after}
use Rattle.tl_pieces.proofs.OwnerLemmas.{owned_split, first_owner}

-- with other pieces, twice
pub carried : {S R : Type 0} (a b c : Board S R) (ps : List (PieceKey × Piece S R)) → b ≡ with_pieces a b.pieces → c ≡ with_pieces b ps → c ≡ with_pieces a c.pieces
carried a b c ps first then = then ∙ ap (λ x. with_pieces x ps) first ∙ sym (ap (λ x. with_pieces a x.pieces) then)

-- how many are left, where the next is known
abbrev pub left_after : {S R : Type 0} → Option PieceKey → List (PieceKey × Piece S R) → ℕ
left_after None es = 0
left_after (Some k) es = suc (length (after k es))

module _ {S R : Type 0} (o : ℕ) where
  -- the front is done, and the next is the first of the owner after it
  pub record IsDoneTo (old now : Board S R) (next : Option PieceKey) : Type 0 where
    pub front : List (PieceKey × Piece S R)
    pub back : List (PieceKey × Piece S R)
    pub order : Rises old.pieces
    pub all : old.pieces ≡ front ++ back
    pub now_is : now ≡ with_pieces old (touched_all o front ++ back)
    pub first : next ≡ first_key (owned_by o back)

  pub begun : (old : Board S R) (next : Option PieceKey) → Rises old.pieces → next ≡ first_key (owned_by o old.pieces) → IsDoneTo old old next
  begun old next s is = record { front = []; back = old.pieces; order = s; all = refl; now_is = refl; first = is }

  touched_append : (xs ys : List (PieceKey × Piece S R)) → touched_all o (xs ++ ys) ≡ touched_all o xs ++ touched_all o ys
  touched_append [] ys = refl
  touched_append (x ∷ xs) ys = ap (λ t. (x.0, cond (x.0.owner == o) empty x.1) ∷ t) (touched_append xs ys)

  touched_none : (xs : List (PieceKey × Piece S R)) → first_key (owned_by o xs) ≡ None → touched_all o xs ≡ xs
  touched_none [] h = refl
  touched_none (x ∷ xs) h =
      elim (x.0.owner == o) as (λ b. first_key (cond b (x ∷ owned_by o xs) (owned_by o xs)) ≡ None → (x.0, cond b empty x.1) ∷ touched_all o xs ≡ x ∷ xs) [
        | true ↦ λ g. cc
        | false ↦ λ g. ap (λ t. x ∷ t) (touched_none xs g)
      ] h

  keys_touched : (xs ys : List (PieceKey × Piece S R)) → keys_of (xs ++ ys) ≡ keys_of (touched_all o xs ++ ys)
  keys_touched [] ys = refl
  keys_touched (x ∷ xs) ys = ap (λ t. x.0 ∷ t) (keys_touched xs ys)

  pub ended : (old now : Board S R) → IsDoneTo old now None → now ≡ with_pieces old (touched_all o old.pieces)
  ended old now d =
      d.now_is ∙ ap (λ t. with_pieces old (touched_all o d.front ++ t)) (sym (touched_none d.back (sym d.first))) ∙ ap (with_pieces old) (sym (touched_append d.front d.back)) ∙ ap (λ t. with_pieces old (touched_all o t)) (sym d.all)

  module _ (old now : Board S R) (k : PieceKey) (d : IsDoneTo old now (Some k)) where
    abbrev mid : List (PieceKey × Piece S R)
    mid = (owned_split o d.back k (sym d.first)).0

    abbrev v : Piece S R
    v = (owned_split o d.back k (sym d.first)).1

    abbrev rest : List (PieceKey × Piece S R)
    rest = (owned_split o d.back k (sym d.first)).2

    apart : d.back ≡ mid ++ (k, v) ∷ rest
    apart = (owned_split o d.back k (sym d.first)).3

    abbrev ahead : List (PieceKey × Piece S R)
    ahead = touched_all o d.front ++ mid

    now_list : now.pieces ≡ ahead ++ (k, v) ∷ rest
    now_list = ap (λ x. x.pieces) d.now_is ∙ ap (λ t. touched_all o d.front ++ t) apart ∙ sym (append_assoc (touched_all o d.front) mid ((k, v) ∷ rest))

    now_rises : Rises (ahead ++ (k, v) ∷ rest)
    now_rises =
        subst (IsStrictlySortedBy key_cmp) (ap keys_of d.all ∙ keys_touched d.front d.back ∙ ap (λ t. keys_of (touched_all o d.front ++ t)) apart ∙ ap keys_of (sym (append_assoc (touched_all o d.front) mid ((k, v) ∷ rest)))) d.order

    found : piece_at k now ≡ Some v
    found = ap (value_at k) now_list ∙ place_lookup k v ahead rest now_rises

    pub next_there : is_some (piece_at k now) ≡ true
    next_there = ap is_some found

    module _ (new : Board S R) (next : Option PieceKey) (is : new ≡ with_pieces now (change k (λ _. empty) now.pieces))
        (then : next ≡ first_key (owned_by k.owner (after k new.pieces))) where
      owner : (k.owner == o) ≡ true
      owner = (owned_split o d.back k (sym d.first)).5

      none : owned_by o mid ≡ []
      none = (owned_split o d.back k (sym d.first)).4

      new_list : new.pieces ≡ ahead ++ (k, empty) ∷ rest
      new_list =
          ap (λ x. x.pieces) is ∙ ap (change k (λ _. empty)) now_list ∙ place_change k v ahead rest now_rises (λ _. empty)

      new_rises : Rises (ahead ++ (k, empty) ∷ rest)
      new_rises = subst (IsStrictlySortedBy key_cmp) (keys_same ahead) now_rises
        where
          keys_same : (xs : List (PieceKey × Piece S R)) → keys_of (xs ++ (k, v) ∷ rest) ≡ keys_of (xs ++ (k, empty) ∷ rest)
          keys_same [] = refl
          keys_same (x ∷ xs) = ap (λ t. x.0 ∷ t) (keys_same xs)

      behind : after k new.pieces ≡ rest
      behind = ap (after k) new_list ∙ place_after k empty ahead rest new_rises

      owner_is : k.owner ≡ o
      owner_is = first_owner o d.back k (sym d.first)

      next_is : next ≡ first_key (owned_by o rest)
      next_is = then ∙ ap (λ x. first_key (owned_by x (after k new.pieces))) owner_is ∙ ap (λ t. first_key (owned_by o t)) behind

      one_more : (xs ys zs : List (PieceKey × Piece S R)) (e : PieceKey × Piece S R) → (xs ++ ys) ++ e ∷ zs ≡ (xs ++ ys ++ e ∷ []) ++ zs
      one_more xs ys zs e = sym (append_assoc (xs ++ ys) (e ∷ []) zs)

      pub done_next : IsDoneTo old new next
      done_next = record {
        front = d.front ++ mid ++ (k, v) ∷ [];
        back = rest;
        order = d.order;
        all = d.all ∙ ap (λ t. d.front ++ t) apart ∙ sym (append_assoc d.front mid ((k, v) ∷ rest)) ∙ one_more d.front mid rest (k, v);
        now_is = is ∙ ap (λ x. with_pieces x (change k (λ _. empty) now.pieces)) d.now_is ∙ ap (with_pieces old) (sym (ap (λ x. x.pieces) is) ∙ new_list ∙ sym front_done);
        first = next_is;
      }
        where
          front_done : touched_all o (d.front ++ mid ++ (k, v) ∷ []) ++ rest ≡ ahead ++ (k, empty) ∷ rest
          front_done =
              ap (λ t. t ++ rest) (touched_append (d.front ++ mid) ((k, v) ∷ []) ∙ ap (λ t. t ++ touched_all o ((k, v) ∷ [])) (touched_append d.front mid ∙ ap (λ t. touched_all o d.front ++ t) (touched_none mid (ap first_key none))))
              ∙ append_assoc ahead (touched_all o ((k, v) ∷ [])) rest ∙ ap (λ b. ahead ++ (k, cond b empty v) ∷ rest) owner

      pub fewer : left_after next new.pieces < left_after (Some k) now.pieces
      fewer =
          subst (λ t. left_after next new.pieces < suc (length t)) (sym (ap (after k) now_list ∙ place_after k v ahead rest now_rises))
          (go next next_is)
        where
          go : (x : Option PieceKey) → x ≡ first_key (owned_by o rest) → left_after x new.pieces < suc (length rest)
          go None h = omega arith
          go (Some q) h =
              let r = owned_split o rest q (sym h) in
              let list : new.pieces ≡ (ahead ++ (k, empty) ∷ r.0) ++ (q, r.1) ∷ r.2 = new_list ∙ ap (λ t. ahead ++ (k, empty) ∷ t) r.3 ∙ sym (append_assoc ahead ((k, empty) ∷ r.0) ((q, r.1) ∷ r.2)) in
              let rises : Rises ((ahead ++ (k, empty) ∷ r.0) ++ (q, r.1) ∷ r.2) = subst Rises (sym new_list ∙ list) new_rises in
              let later : after q new.pieces ≡ r.2 = ap (after q) list ∙ place_after q r.1 (ahead ++ (k, empty) ∷ r.0) r.2 rises in
              let long : length rest ≡ length (r.0 ++ (q, r.1) ∷ r.2) = ap length r.3 in
              let sum : length (r.0 ++ (q, r.1) ∷ r.2) ≡ length r.0 + suc (length r.2) = length-append r.0 ((q, r.1) ∷ r.2) in
              let count : length (after q new.pieces) ≡ length r.2 = ap length later in
              omega (arith, long, sum, count)
