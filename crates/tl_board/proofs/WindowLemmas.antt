-- One key after the other.
use Rattle.std.proofs.Common.{◌≡◌, ℕ, ◌⊎◌, inl, inr, true, false, cond, Bool, List, [], ◌∷◌, ◌++◌, Option, Some, None, refl, sym, ap, subst, ◌∙◌, Equal}
use Rattle.std.specs.Prelude.{is_some, map}
use Rattle.std.specs.Option.{option_map}
use Rattle.std.specs.Ordering.{is_eq}
use Rattle.std.specs.BTreeMap.{insert_entry, is_at}
use Rattle.std.specs.List.{Contains}
use Rattle.std.proofs.lemmas.List.Elements.{Contains-append_left, Contains-append_right, Contains-append_cases}
use Rattle.tl_definitions.proofs.Lists.{contains_none, contains_here, contains_there, contains_cases, contains_mapped, mapped_from}
use Rattle.tl_pieces.specs.declared.key.PieceKey.{PieceKey}
use Rattle.tl_pieces.specs.Keys.{key_cmp, change}
use Rattle.std.specs.Map.{remove_entry}
use Rattle.std.proofs.lemmas.Map.{lookup-remove_entry}
use Rattle.tl_pieces.specs.Pieces.{Board, Piece, IsBoard, empty, piece_at, with_pieces}
use Rattle.tl_board.proofs.CoverLemmas.{key_equivalence, distinct_keys}
use Rattle.tl_pieces.proofs.KeyLemmas.{key_exact, key_self, key_total}
use Rattle.tl_board.specs.Windows.{key_of, AreKeysOf, IsGrown, HasAll, IsTaken, IsPruned, AreBlank, blank}
use Rattle.tl_board.proofs.EntryLemmas.{lookup_put}
use Rattle.tl_board.proofs.CheckLemmas.{lookup_change}

keys_exact : (x y : PieceKey) → key_cmp x y ≡ Equal → x ≡ y
keys_exact x y h = key_exact x y (ap is_eq h)

-- a key that is none of these isn't the first of them
not_first : (k : PieceKey) (rest : List PieceKey) (key : PieceKey) → (Contains (k ∷ rest) key → ⊥) → is_at (key_cmp key) k ≡ true → ⊥
not_first k rest key away at = away (subst (Contains (k ∷ rest)) (sym (key_exact key k at)) (contains_here k rest))

-- ---- the keys of owners and windows

abbrev pub keys_with : List ℕ → List ℕ → List PieceKey
keys_with [] windows = []
keys_with (owner ∷ owners) windows = map (key_of owner) windows ++ keys_with owners windows

key_from : (owners windows : List ℕ) (key : PieceKey) → Contains (keys_with owners windows) key → Contains owners key.owner × Contains windows key.window
key_from [] windows key h = absurd (contains_none key h)
key_from (owner ∷ owners) windows key h = elim (Contains-append_cases (map (key_of owner) windows) (keys_with owners windows) key h) [
  | inl here ↦ (let found = mapped_from (key_of owner) windows key here in (
    subst (Contains (owner ∷ owners)) (ap (λ (k : PieceKey). k.owner) found.2) (contains_here owner owners),
    subst (Contains windows) (ap (λ (k : PieceKey). k.window) found.2) found.1,
  ))
  | inr later ↦ (let found = key_from owners windows key later in (contains_there owner owners key.owner found.0, found.1))
]

key_in : (owners windows : List ℕ) (key : PieceKey) → Contains owners key.owner → Contains windows key.window → Contains (keys_with owners windows) key
key_in [] windows key own has = absurd (contains_none key.owner own)
key_in (owner ∷ owners) windows key own has = elim (contains_cases owner owners key.owner own) [
  | inl here ↦ Contains-append_left (map (key_of owner) windows) (keys_with owners windows) key
      (subst (Contains (map (key_of owner) windows)) (ap (λ o. key_of o key.window) here) (contains_mapped (key_of owner) windows key.window has))
  | inr later ↦ Contains-append_right (map (key_of owner) windows) (keys_with owners windows) key (key_in owners windows key later has)
]

pub are_keys : (owners windows : List ℕ) → AreKeysOf owners windows (keys_with owners windows)
are_keys owners windows key = (key_from owners windows key, (λ h. key_in owners windows key h.0 h.1))

-- ---- pieces that come

module _ {S R : Type 0} where
  -- What stood at a key, and what stands there once a blank piece has come to another.
  put_at : (old new : Board S R) (key q : PieceKey) → new ≡ with_pieces old (insert_entry key_cmp old.pieces key empty) → piece_at q new ≡ cond (is_at (key_cmp q) key) (Some empty) (piece_at q old)
  put_at old new key q is = ap (λ (b : Board S R). piece_at q b) is ∙ lookup_put key_cmp key_total keys_exact q key empty old.pieces

  pub grown_none : (keys : List PieceKey) (board : Board S R) → IsGrown keys board board
  grown_none keys board = record { openings = refl; pieces = λ key. inl refl }

  pub grown_one : (keys : List PieceKey) (old mid new : Board S R) (k : PieceKey) → IsGrown keys old mid → Contains keys k → piece_at k mid ≡ None
      → new ≡ with_pieces mid (insert_entry key_cmp mid.pieces k empty) → IsGrown keys old new
  grown_one keys old mid new k is has none put = record {
    openings = ap (λ (b : Board S R). b.openings) put ∙ is.openings;
    pieces = λ key. go key (is_at (key_cmp key) k) refl (put_at mid new k key put);
  }
    where
      before : piece_at k old ≡ None
      before = elim (is.pieces k) [ inl same ↦ sym same ∙ none | inr came ↦ came.1 ]

      here : (key : PieceKey) → key ≡ k → piece_at key new ≡ Some empty → Contains keys key × (piece_at key old ≡ None) × (piece_at key new ≡ Some empty)
      here key at now = (subst (Contains keys) (sym at) has, ap (λ q. piece_at q old) at ∙ before, now)

      go : (key : PieceKey) (b : Bool) → is_at (key_cmp key) k ≡ b → piece_at key new ≡ cond b (Some empty) (piece_at key mid)
          → (piece_at key new ≡ piece_at key old) ⊎ (Contains keys key × (piece_at key old ≡ None) × (piece_at key new ≡ Some empty))
      go key true at now = inr (here key (key_exact key k at) now)
      go key false at now = elim (is.pieces key) [
        | inl same ↦ inl (now ∙ same)
        | inr came ↦ inr (came.0, came.1, now ∙ came.2)
      ]

  -- What is there stays there.
  pub still_all : (old new : Board S R) (key q : PieceKey) → new ≡ with_pieces old (insert_entry key_cmp old.pieces key empty) → is_some (piece_at q old) ≡ true → is_some (piece_at q new) ≡ true
  still_all old new key q put there = ap is_some (put_at old new key q put) ∙ go (is_at (key_cmp q) key)
    where
      go : (b : Bool) → is_some (cond b (Some empty) (piece_at q old)) ≡ true
      go true = refl
      go false = there

  pub put_there : (old new : Board S R) (key : PieceKey) → new ≡ with_pieces old (insert_entry key_cmp old.pieces key empty) → is_some (piece_at key new) ≡ true
  put_there old new key put = ap is_some (put_at old new key key put) ∙ ap (λ b. is_some (cond b (Some empty) (piece_at key old))) (ap is_eq (key_self key))

  -- Each key has its piece, or is one of those that are left.
  abbrev pub AreThereOr : List PieceKey → List PieceKey → Board S R → Type 0
  AreThereOr keys rest board = (key : PieceKey) → Contains keys key → (is_some (piece_at key board) ≡ true) ⊎ Contains rest key

  pub one_there : (keys rest : List PieceKey) (k : PieceKey) (old new : Board S R) → AreThereOr keys (k ∷ rest) old → ((q : PieceKey) → is_some (piece_at q old) ≡ true → is_some (piece_at q new) ≡ true)
      → is_some (piece_at k new) ≡ true → AreThereOr keys rest new
  one_there keys rest k old new are still there key has = elim (are key has) [
    | inl before ↦ inl (still key before)
    | inr left ↦ elim (contains_cases k rest key left) [
      | inl same ↦ inl (subst (λ q. is_some (piece_at q new) ≡ true) same there)
      | inr later ↦ inr later
    ]
  ]

  pub all_there : (keys : List PieceKey) (board : Board S R) → AreThereOr keys [] board → HasAll keys board
  all_there keys board are key has = elim (are key has) [ inl there ↦ there | inr left ↦ absurd (contains_none key left) ]

  -- ---- pieces that lose their results

  pub blank_none : (board : Board S R) → AreBlank [] board board
  blank_none board = record { openings = refl; each = λ key. inl refl; stays = λ key away. refl; these = λ key among. absurd (contains_none key among) }

  is_blank : (x : Option (Piece S R)) → option_map (λ (_ : Piece S R). empty) x ≡ blank x
  is_blank None = refl
  is_blank (Some x) = refl

  blank_twice : (x : Option (Piece S R)) → blank (blank x) ≡ blank x
  blank_twice None = refl
  blank_twice (Some x) = refl

  pub blank_one : (k : PieceKey) (rest : List PieceKey) (old mid new : Board S R) → mid ≡ with_pieces old (change k (λ _. empty) old.pieces) → AreBlank rest mid new → AreBlank (k ∷ rest) old new
  blank_one k rest old mid new touched is = record {
    openings = is.openings ∙ ap (λ (b : Board S R). b.openings) touched;
    each = λ key. both key (middle key) (is.each key);
    stays = λ key away. is.stays key (λ among. away (contains_there k rest key among)) ∙ unchanged key away (is_at (key_cmp key) k) refl (at_key key);
    these = λ key among. elim (contains_cases k rest key among) [
      | inl here ↦ (let gone : piece_at key mid ≡ blank (piece_at key old) = subst (λ q. piece_at q mid ≡ blank (piece_at q old)) here first in
          elim (is.each key) [ inl same ↦ same ∙ gone | inr blanked ↦ blanked ∙ ap blank gone ∙ blank_twice (piece_at key old) ])
      | inr later ↦ is.these key later ∙ elim (middle key) [ inl same ↦ ap blank same | inr blanked ↦ ap blank blanked ∙ blank_twice (piece_at key old) ]
    ];
  }
    where
      at_key : (key : PieceKey) → piece_at key mid ≡ cond (is_at (key_cmp key) k) (option_map (λ (_ : Piece S R). empty) (piece_at key old)) (piece_at key old)
      at_key key = ap (λ (b : Board S R). piece_at key b) touched ∙ lookup_change k (λ (_ : Piece S R). empty) key old.pieces

      middle : (key : PieceKey) → (piece_at key mid ≡ piece_at key old) ⊎ (piece_at key mid ≡ blank (piece_at key old))
      middle key = go (is_at (key_cmp key) k) (at_key key)
        where
          go : (b : Bool) → piece_at key mid ≡ cond b (option_map (λ (_ : Piece S R). empty) (piece_at key old)) (piece_at key old) → (piece_at key mid ≡ piece_at key old) ⊎ (piece_at key mid ≡ blank (piece_at key old))
          go true h = inr (h ∙ is_blank (piece_at key old))
          go false h = inl h

      both : (key : PieceKey) → (piece_at key mid ≡ piece_at key old) ⊎ (piece_at key mid ≡ blank (piece_at key old)) → (piece_at key new ≡ piece_at key mid) ⊎ (piece_at key new ≡ blank (piece_at key mid))
          → (piece_at key new ≡ piece_at key old) ⊎ (piece_at key new ≡ blank (piece_at key old))
      both key (inl a) (inl b) = inl (b ∙ a)
      both key (inl a) (inr b) = inr (b ∙ ap blank a)
      both key (inr a) (inl b) = inr (b ∙ a)
      both key (inr a) (inr b) = inr (b ∙ ap blank a ∙ blank_twice (piece_at key old))

      unchanged : (key : PieceKey) → (Contains (k ∷ rest) key → ⊥) → (b : Bool) → is_at (key_cmp key) k ≡ b
          → piece_at key mid ≡ cond b (option_map (λ (_ : Piece S R). empty) (piece_at key old)) (piece_at key old) → piece_at key mid ≡ piece_at key old
      unchanged key away true at now = absurd (not_first k rest key away at)
      unchanged key away false at now = now

      first : piece_at k mid ≡ blank (piece_at k old)
      first = at_key k ∙ ap (λ b. cond b (option_map (λ (_ : Piece S R). empty) (piece_at k old)) (piece_at k old)) (ap is_eq (key_self k)) ∙ is_blank (piece_at k old)

  pub none_of : (x : Option (Piece S R)) → is_some x ≡ false → x ≡ None
  none_of None h = refl
  none_of (Some x) h = cc

  -- where none is there, none loses its result
  pub blank_absent : (k : PieceKey) (rest : List PieceKey) (old new : Board S R) → is_some (piece_at k old) ≡ false → AreBlank rest old new → AreBlank (k ∷ rest) old new
  blank_absent k rest old new none is = record {
    openings = is.openings;
    each = is.each;
    stays = λ key away. is.stays key (λ among. away (contains_there k rest key among));
    these = λ key among. elim (contains_cases k rest key among) [
      | inl here ↦ (let absent : piece_at key old ≡ None = none_of (piece_at key old) (ap (λ q. is_some (piece_at q old)) (sym here) ∙ none) in
          elim (is.each key) [ inl same ↦ same ∙ absent ∙ sym (ap blank absent) | inr blanked ↦ blanked ])
      | inr later ↦ is.these key later
    ];
  }

  -- ---- pieces that go

  module _ (old : Board S R) (is : IsBoard old) (key : PieceKey) where
    pub taken : (new : Board S R) → new ≡ with_pieces old (remove_entry (is_at (key_cmp key)) old.pieces) → IsTaken key old new
    taken new removed = record {
      openings = ap (λ (b : Board S R). b.openings) removed;
      pieces = λ other. ap (λ (b : Board S R). piece_at other b) removed ∙ lookup-remove_entry key_equivalence (is_at (key_cmp key)) one other old.pieces (distinct_keys old.pieces is.keys)
          ∙ ap (λ b. cond b None (piece_at other old)) (symmetric key other);
    }
      where
        one : (x y : PieceKey) → is_at (key_cmp key) x ≡ true → is_at (key_cmp key) y ≡ is_at (key_cmp x) y
        one x y h = ap (λ (k : PieceKey). is_at (key_cmp k) y) (key_exact key x h)

        symmetric : (x y : PieceKey) → is_at (key_cmp x) y ≡ is_at (key_cmp y) x
        symmetric x y = key_equivalence.symm x y

    pub not_there : is_some (piece_at key old) ≡ false → IsTaken key old old
    not_there none = record { openings = refl; pieces = λ other. go other (is_at (key_cmp other) key) refl }
      where
        go : (other : PieceKey) (b : Bool) → is_at (key_cmp other) key ≡ b → piece_at other old ≡ cond b None (piece_at other old)
        go other true at = ap (λ k. piece_at k old) (key_exact other key at) ∙ none_of (piece_at key old) none
        go other false at = refl

  module _ (P : ℕ → Type 0) where
    pub pruned_none : (board : Board S R) → IsPruned P [] board board
    pruned_none board = record { openings = refl; each = λ key. inl refl; stays = λ key held. refl; left = λ key among there. absurd (contains_none key among) }

    module _ (k : PieceKey) (rest : List PieceKey) (old mid new : Board S R) (is : IsPruned P rest mid new) where
      -- the first piece stays
      pub pruned_kept : P k.window → mid ≡ old → IsPruned P (k ∷ rest) old new
      pruned_kept holds same = subst (λ (b : Board S R). IsPruned P (k ∷ rest) b new) same (record {
        openings = is.openings;
        each = is.each;
        stays = λ key held. is.stays key (λ among. held (contains_there k rest key among));
        left = λ key among there. elim (contains_cases k rest key among) [
          | inl here ↦ subst (λ (q : PieceKey). P q.window) here holds
          | inr later ↦ is.left key later there
        ];
      })

      -- the first piece goes
      pub pruned_gone : (P k.window → ⊥) → IsTaken k old mid → IsPruned P (k ∷ rest) old new
      pruned_gone lacks gone = record {
        openings = is.openings ∙ gone.openings;
        each = λ key. both key (middle key (is_at (key_cmp key) k) (gone.pieces key)) (is.each key);
        stays = λ key held. is.stays key (λ among. held (contains_there k rest key among)) ∙ unchanged key held (is_at (key_cmp key) k) refl (gone.pieces key);
        left = λ key among there. elim (contains_cases k rest key among) [
          | inl here ↦ (let absent : piece_at key mid ≡ None = gone.pieces key ∙ ap (λ b. cond b None (piece_at key old)) (at_key key here) in
              let none_left : piece_at key new ≡ None = elim (is.each key) [ inl same ↦ same ∙ absent | inr none_left ↦ none_left ] in
              let never : false ≡ true = sym (ap is_some none_left) ∙ there in cc)
          | inr later ↦ is.left key later there
        ];
      }
        where
          at_key : (key : PieceKey) → k ≡ key → is_at (key_cmp key) k ≡ true
          at_key key same = subst (λ (q : PieceKey). is_at (key_cmp q) k ≡ true) same (ap is_eq (key_self k))

          middle : (key : PieceKey) (b : Bool) → piece_at key mid ≡ cond b None (piece_at key old) → (piece_at key mid ≡ piece_at key old) ⊎ (piece_at key mid ≡ None)
          middle key true h = inr h
          middle key false h = inl h

          both : (key : PieceKey) → (piece_at key mid ≡ piece_at key old) ⊎ (piece_at key mid ≡ None) → (piece_at key new ≡ piece_at key mid) ⊎ (piece_at key new ≡ None) → (piece_at key new ≡ piece_at key old) ⊎ (piece_at key new ≡ None)
          both key (inl a) (inl b) = inl (b ∙ a)
          both key (inr a) (inl b) = inr (b ∙ a)
          both key a (inr b) = inr b

          unchanged : (key : PieceKey) → (Contains (k ∷ rest) key → P key.window) → (b : Bool) → is_at (key_cmp key) k ≡ b → piece_at key mid ≡ cond b None (piece_at key old)
              → piece_at key mid ≡ piece_at key old
          unchanged key held true at h =
              let same : key ≡ k = key_exact key k at in
              absurd (lacks (subst (λ (q : PieceKey). P q.window) same (held (subst (Contains (k ∷ rest)) (sym same) (contains_here k rest)))))
          unchanged key held false at h = h
