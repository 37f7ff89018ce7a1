-- Marks under changes of slots.
use Rattle.tl_pieces.specs.Pieces.{Piece, opening_of, exit_of, exit_before, IsGood}
use Rattle.tl_pieces.specs.Marks.{shown, passed, left, ends, pass_at, IsExact, IsMarked, IsMarkedBehind, IsMarkedBut}
use Rattle.std.specs.List.{AllByRecursion}
use Rattle.std.specs.Ordering.{nat_cmp}
use Rattle.std.proofs.Common.{◌≡◌, ℕ, ◌≤◌, ◌<◌, Bool, true, false, not, cond, List, [], ◌∷◌, ◌++◌, refl, sym, ap, ◌∙◌, subst, arith, append_assoc, ◌==◌, Option, Some, None}
use Rattle.std.proofs.lemmas.Bool.Decides.{nat_tests}
use Rattle.std.specs.Prelude.{is_some, ⊤}
use Rattle.std.specs.Bool.{Decides}
use Rattle.std.specs.BTreeMap.{is_at, insert_entry}
use Rattle.std.specs.Map.{remove_entry}
use Rattle.tl_pieces.specs.declared.key.PieceKey.{PieceKey}
use Rattle.tl_pieces.specs.declared.slot.Slot.{Slot}
use Rattle.tl_pieces.specs.declared.slot.Stored.{Stored}
use Rattle.tl_pieces.specs.declared.slot.Change.TheVariants as to
use Rattle.tl_pieces.specs.Keys.{key_cmp, value_at, change, before, after, first_key, if_owned, Rises, EndsWith}
use Rattle.tl_pieces.specs.Slots.{changed, blank}
use Rattle.tl_pieces.proofs.OpeningLemmas.{opening_take}
use Rattle.tl_pieces.proofs.KeyLemmas.{owner_le, owner_ge}
use Rattle.tl_pieces.proofs.PlaceLemmas.{Above, Below, split, below_of, above_of, place_before, place_change, place_remove, place_lookup, remove_insert, lookup_insert}

-- ---- what stands before a later owner's piece

module _ {S : Type 0} where
  abbrev IsOff : Option (ℕ × Option S) → ℕ → Type 0
  IsOff None o = ⊤
  IsOff (Some l) o = (l.0 == o) ≡ false

  -- it is of no later owner than the key's
  abbrev IsClear : PieceKey → Option (ℕ × Option S) → Type 0
  IsClear k l = (o : ℕ) → k.owner < o → IsOff l o

  off_opening : (os : List (ℕ × S)) (l : Option (ℕ × Option S)) (o : ℕ) → IsOff l o → exit_before os l o ≡ opening_of o os
  off_opening os None o h = refl
  off_opening os (Some l) o h = ap (λ b. cond b l.1 (opening_of o os)) h

module _ {S R : Type 0} where
  clear_left : (k : PieceKey) (v : Slot S R) → IsClear k (left (k, v))
  clear_left k v o low = grind (arith, nat_tests)

  clear_ends : (k : PieceKey) (xs : List (PieceKey × Slot S R)) (l : Option (ℕ × Option S)) → Below k xs → IsClear k l → IsClear k (ends l xs)
  clear_ends k [] l b h = h
  clear_ends k (x ∷ xs) l b h = clear_ends k xs (left x) b.1 (λ o low. let le : x.0.owner ≤ k.owner = owner_le x.0 k b.0 in grind (arith, nat_tests))

  -- what the last piece of a list leaves
  ends_push : (l : Option (ℕ × Option S)) (t : List (PieceKey × Slot S R)) (e : PieceKey × Slot S R) → left e ≡ ends l (t ++ e ∷ [])
  ends_push l [] e = refl
  ends_push l (x ∷ t) e = ends_push (left x) t e

module _ {S R : Type 0} (same : S → S → Type 0) (os : List (ℕ × S)) where
  pub marked_append : (l : Option (ℕ × Option S)) (xs ys : List (PieceKey × Slot S R)) → IsMarked same os l xs → IsMarked same os (ends l xs) ys → IsMarked same os l (xs ++ ys)
  marked_append l [] ys m n = n
  marked_append l (x ∷ xs) ys m n = (m.0, marked_append (left x) xs ys m.1 n)

  pub marked_left : (l : Option (ℕ × Option S)) (xs ys : List (PieceKey × Slot S R)) → IsMarked same os l (xs ++ ys) → IsMarked same os l xs
  marked_left l [] ys m = tt
  marked_left l (x ∷ xs) ys m = (m.0, marked_left (left x) xs ys m.1)

  pub marked_right : (l : Option (ℕ × Option S)) (xs ys : List (PieceKey × Slot S R)) → IsMarked same os l (xs ++ ys) → IsMarked same os (ends l xs) ys
  marked_right l [] ys m = m
  marked_right l (x ∷ xs) ys m = marked_right (left x) xs ys m.1

  -- a live ticket is no part of a mark
  pub marked_live : (k : PieceKey) (t : Option ℕ) (l : Option (ℕ × Option S)) (es : List (PieceKey × Slot S R)) → IsMarked same os l es → IsMarked same os l (change k (changed (to.Live t)) es)
  marked_live k t l [] m = tt
  marked_live k t l (e ∷ es) m =
      elim (is_at (key_cmp k) e.0) as (λ b. IsMarked same os l (cond b ((e.0, changed (to.Live t) e.1) ∷ es) (e ∷ change k (changed (to.Live t)) es))) [
        | true ↦ (record { owner = m.0.owner; mark = m.0.mark }, m.1)
        | false ↦ (m.0, marked_live k t (left e) es m.1)
      ]

  -- ---- the pieces after a key, where something else comes to stand before them

  module _ (k : PieceKey) (l m : Option (ℕ × Option S)) (was : IsClear k l) (is : IsClear k m) where
    other : (e : PieceKey × Slot S R) → k.owner < e.0.owner → IsExact same os l e.0 e.1 → IsExact same os m e.0 e.1
    other e low x = record {
      owner = x.owner;
      mark = subst (λ (b : Option S). Decides (not e.1.wanted) (IsGood same b (passed e.1.result))) (off_opening os l e.0.owner (was e.0.owner low) ∙ sym (off_opening os m e.0.owner (is e.0.owner low))) x.mark;
    }

    -- the first, if it is of the same owner, is still to be judged; no other looks there
    pub behind_of : (ys : List (PieceKey × Slot S R)) (next : Option PieceKey) → Above k ys → next ≡ if_owned k.owner (first_key ys) → IsMarked same os l ys → IsMarkedBehind same os next m ys
    behind_of ys next a n h = subst (λ (x : Option PieceKey). IsMarkedBehind same os x m ys) (sym n) (go ys a h)
      where
        go : (ys : List (PieceKey × Slot S R)) → Above k ys → IsMarked same os l ys → IsMarkedBehind same os (if_owned k.owner (first_key ys)) m ys
        go [] a h = tt
        go (e ∷ es) a h =
            elim (e.0.owner == k.owner) as (λ b. (e.0.owner == k.owner) ≡ b → IsMarkedBehind same os (cond b (Some e.0) None) m (e ∷ es)) [
              | true ↦ λ _. (refl, h.0.owner, h.1)
              | false ↦ λ apart. let ge : k.owner ≤ e.0.owner = owner_ge e.0 k a.0 in let low : k.owner < e.0.owner = grind (arith, nat_tests) in (other e low h.0, h.1)
            ] refl

  -- ---- a piece is judged

  module _ (k : PieceKey) (v : Slot S R) (xs ys : List (PieceKey × Slot S R)) (w : Bool) (es : List (PieceKey × Slot S R)) (is : es ≡ xs ++ (k, v) ∷ ys) (s : Rises es)
      (exact : Decides (not w) (IsGood same (exit_before os (ends None (before k es)) k.owner) (pass_at (value_at k es)))) where
    own : Rises (xs ++ (k, v) ∷ ys)
    own = subst Rises is s

    pub judged_mark : Decides (not w) (IsGood same (exit_before os (ends None xs) k.owner) (passed v.result))
    judged_mark =
        let front : before k es ≡ xs = ap (before k) is ∙ place_before k v xs ys own in
        let found : value_at k es ≡ Some v = ap (value_at k) is ∙ place_lookup k v xs ys own in
        subst (λ (o : Option (Slot S R)). Decides (not w) (IsGood same (exit_before os (ends None xs) k.owner) (pass_at o))) found
        (subst (λ (zs : List (PieceKey × Slot S R)). Decides (not w) (IsGood same (exit_before os (ends None zs) k.owner) (pass_at (value_at k es)))) front exact)

    pub judged_list : change k (changed (to.Wanted w)) es ≡ xs ++ (k, changed (to.Wanted w) v) ∷ ys
    judged_list = ap (change k (changed (to.Wanted w))) is ∙ place_change k v xs ys own (changed (to.Wanted w))

    pub judged : is_some (opening_of k.owner os) ≡ true → IsMarked same os None xs → IsMarked same os (left (k, v)) ys → IsMarked same os None (change k (changed (to.Wanted w)) es)
    judged owner m n = subst (IsMarked same os None) (sym judged_list) (marked_append None xs ((k, changed (to.Wanted w) v) ∷ ys) m (record { owner = owner; mark = judged_mark }, n))

  pub judged_next : (q : PieceKey) (w : Bool) (es : List (PieceKey × Slot S R)) → Rises es → IsMarkedBut same os (Some q) es
      → Decides (not w) (IsGood same (exit_before os (ends None (before q es)) q.owner) (pass_at (value_at q es))) → IsMarked same os None (change q (changed (to.Wanted w)) es)
  judged_next q w es s b exact = go b.back b.all b.behind
    where
      at : (e : PieceKey × Slot S R) (t : List (PieceKey × Slot S R)) → q ≡ e.0 → es ≡ b.front ++ e ∷ t → is_some (opening_of e.0.owner os) ≡ true → IsMarked same os (left e) t
          → IsMarked same os None (change q (changed (to.Wanted w)) es)
      at e t here is owner rest =
          judged q e.1 b.front t w es (is ∙ ap (λ (k : PieceKey). b.front ++ (k, e.1) ∷ t) (sym here)) s exact
          (subst (λ (k : PieceKey). is_some (opening_of k.owner os) ≡ true) (sym here) owner) b.marked (subst (λ (k : PieceKey). IsMarked same os (left (k, e.1)) t) (sym here) rest)

      go : (ys : List (PieceKey × Slot S R)) → es ≡ b.front ++ ys → IsMarkedBehind same os (Some q) (ends None b.front) ys → IsMarked same os None (change q (changed (to.Wanted w)) es)
      go [] is behind = absurd behind
      go (e ∷ t) is behind = at e t behind.0 is behind.1 behind.2

  pub judged_none : (es : List (PieceKey × Slot S R)) → IsMarkedBut same os None es → IsMarked same os None es
  judged_none es b = subst (IsMarked same os None) (sym b.all) (marked_append None b.front b.back b.marked b.behind)

  -- ---- after a change, all marks but that of the piece after

  pub blank_mark : (k : PieceKey) (l : Option (ℕ × Option S)) → is_some (opening_of k.owner os) ≡ true → IsExact {R = R} same os l k blank
  blank_mark k l owner = record { owner = owner; mark = (λ h. cc, λ h. absurd h) }

  one_more : (xs ys : List (PieceKey × Slot S R)) (e : PieceKey × Slot S R) → xs ++ e ∷ ys ≡ (xs ++ e ∷ []) ++ ys
  one_more xs ys e = sym (append_assoc xs (e ∷ []) ys)

  module _ (k : PieceKey) (v : Slot S R) (es : List (PieceKey × Slot S R)) (s : Rises es) (found : value_at k es ≡ Some v) (m : IsMarked same os None es) (next : Option PieceKey)
      (first : next ≡ if_owned k.owner (first_key (after k es))) where
    parts : IsMarked same os None (before k es ++ (k, v) ∷ after k es)
    parts = subst (IsMarked same os None) (split k v es s found) m

    order : Rises (before k es ++ (k, v) ∷ after k es)
    order = subst Rises (split k v es s found) s

    here : IsMarked same os (ends None (before k es)) ((k, v) ∷ after k es)
    here = marked_right None (before k es) ((k, v) ∷ after k es) parts

    front : IsMarked same os None (before k es)
    front = marked_left None (before k es) ((k, v) ∷ after k es) parts

    pub owner_found : is_some (opening_of k.owner os) ≡ true
    owner_found = here.0.owner

    pub changed_list : (f : Slot S R → Slot S R) → change k f es ≡ before k es ++ (k, f v) ∷ after k es
    changed_list f = ap (change k f) (split k v es s found) ∙ place_change k v (before k es) (after k es) order f

    -- the slot of the key is another, with an exact mark
    pub but_changed : (u : Slot S R) (ds : List (PieceKey × Slot S R)) → ds ≡ before k es ++ (k, u) ∷ after k es → IsExact same os (ends None (before k es)) k u → IsMarkedBut same os next ds
    but_changed u ds is exact = record {
      front = before k es ++ (k, u) ∷ [];
      back = after k es;
      all = is ∙ one_more (before k es) (after k es) (k, u);
      marked = marked_append None (before k es) ((k, u) ∷ []) front (exact, tt);
      behind = subst (λ (l : Option (ℕ × Option S)). IsMarkedBehind same os next l (after k es)) (ends_push None (before k es) (k, u))
          (behind_of k (left (k, v)) (left (k, u)) (clear_left k v) (clear_left k u) (after k es) next (above_of k v (before k es) (after k es) order) first here.1);
    }

    pub but_taken : (ds : List (PieceKey × Slot S R)) → ds ≡ remove_entry (is_at (key_cmp k)) es → IsMarkedBut same os next ds
    but_taken ds is = record {
      front = before k es;
      back = after k es;
      all = is ∙ ap (remove_entry (is_at (key_cmp k))) (split k v es s found) ∙ place_remove k v (before k es) (after k es) order;
      marked = front;
      behind = behind_of k (left (k, v)) (ends None (before k es)) (clear_left k v) (clear_ends k (before k es) None (below_of k v (before k es) (after k es) order) (λ _ _. tt))
          (after k es) next (above_of k v (before k es) (after k es) order) first here.1;
    }

    -- a result is stored, and its mark is judged
    pub but_stored : (r : Stored S R) (w : Bool) (ds fs : List (PieceKey × Slot S R)) → ds ≡ change k (changed (to.Result r)) es → Rises ds
        → Decides (not w) (IsGood same (exit_before os (ends None (before k ds)) k.owner) (pass_at (value_at k ds))) → fs ≡ change k (changed (to.Wanted w)) ds → IsMarkedBut same os next fs
    but_stored r w ds fs is t exact js =
        let u : Slot S R = changed (to.Result r) v in
        let all : ds ≡ before k es ++ (k, u) ∷ after k es = is ∙ changed_list (changed (to.Result r)) in
        but_changed (changed (to.Wanted w) u) fs (js ∙ judged_list k u (before k es) (after k es) w ds all t exact) (record { owner = here.0.owner; mark = judged_mark k u (before k es) (after k es) w ds all t exact })

  pub but_put : (k : PieceKey) (es ds : List (PieceKey × Slot S R)) → is_some (opening_of k.owner os) ≡ true → value_at k es ≡ None → IsMarked same os None es → ds ≡ insert_entry key_cmp es k blank → Rises ds
      → (next : Option PieceKey) → next ≡ if_owned k.owner (first_key (after k ds)) → IsMarkedBut same os next ds
  but_put k es ds owner none m is s next first =
      let v : Slot S R = blank in
      let found : value_at k ds ≡ Some v = ap (value_at k) is ∙ lookup_insert k v es in
      let apart : ds ≡ before k ds ++ (k, v) ∷ after k ds = split k v ds s found in
      let order : Rises (before k ds ++ (k, v) ∷ after k ds) = subst Rises apart s in
      let old : es ≡ before k ds ++ after k ds =
      sym (remove_insert k v es none) ∙ ap (remove_entry (is_at (key_cmp k))) (sym is) ∙ ap (remove_entry (is_at (key_cmp k))) apart ∙ place_remove k v (before k ds) (after k ds) order in
      let parts : IsMarked same os None (before k ds ++ after k ds) = subst (IsMarked same os None) old m in
      record {
        front = before k ds ++ (k, v) ∷ [];
        back = after k ds;
        all = apart ∙ one_more (before k ds) (after k ds) (k, v);
        marked = marked_append None (before k ds) ((k, v) ∷ []) (marked_left None (before k ds) (after k ds) parts) (blank_mark k (ends None (before k ds)) owner, tt);
        behind = subst (λ (l : Option (ℕ × Option S)). IsMarkedBehind same os next l (after k ds)) (ends_push None (before k ds) (k, v))
            (behind_of k (ends None (before k ds)) (left (k, v)) (clear_ends k (before k ds) None (below_of k v (before k ds) (after k ds) order) (λ _ _. tt)) (clear_left k v)
            (after k ds) next (above_of k v (before k ds) (after k ds) order) first (marked_right None (before k ds) (after k ds) parts));
      }

  -- ---- other opening states

  pub marked_openings : (ps : List (ℕ × S)) → ((o : ℕ) → is_some (opening_of o os) ≡ true → opening_of o ps ≡ opening_of o os) → (l : Option (ℕ × Option S)) (es : List (PieceKey × Slot S R)) → IsMarked same os l es → IsMarked same ps l es
  marked_openings ps h l [] m = tt
  marked_openings ps h l (e ∷ es) m = (record { owner = ap is_some (h e.0.owner m.0.owner) ∙ m.0.owner; mark = subst (λ (b : Option S). Decides (not e.1.wanted) (IsGood same b (passed e.1.result))) (sym (at l e.0.owner m.0.owner)) m.0.mark }, marked_openings ps h (left e) es m.1)
    where
      at : (l : Option (ℕ × Option S)) (o : ℕ) → is_some (opening_of o os) ≡ true → exit_before ps l o ≡ exit_before os l o
      at None o owner = h o owner
      at (Some l) o owner = ap (cond (l.0 == o) l.1) (h o owner)

  -- an owner without pieces goes
  pub marked_without : (o : ℕ) (l : Option (ℕ × Option S)) (es : List (PieceKey × Slot S R)) → AllByRecursion (λ (e : PieceKey × Piece S R). (e.0.owner == o) ≡ false) (shown es) → IsMarked same os l es
      → IsMarked same (remove_entry (is_at (nat_cmp o)) os) l es
  marked_without o l [] a m = tt
  marked_without o l (e ∷ es) a m =
      let kept : opening_of e.0.owner (remove_entry (is_at (nat_cmp o)) os) ≡ opening_of e.0.owner os = opening_take o e.0.owner os a.0 in (
        record {
          owner = ap is_some kept ∙ m.0.owner;
          mark = subst (λ (b : Option S). Decides (not e.1.wanted) (IsGood same b (passed e.1.result))) (sym (at l kept)) m.0.mark;
        },
        marked_without o (left e) es a.1 m.1,
      )
    where
      at : (l : Option (ℕ × Option S)) → opening_of e.0.owner (remove_entry (is_at (nat_cmp o)) os) ≡ opening_of e.0.owner os → exit_before (remove_entry (is_at (nat_cmp o)) os) l e.0.owner ≡ exit_before os l e.0.owner
      at None h = h
      at (Some l) h = ap (cond (l.0 == e.0.owner) l.1) h

-- ---- the exit before a key, from the last piece before it

module _ {S R : Type 0} where
  pub exit_same : (os : List (ℕ × S)) (b : List (PieceKey × Slot S R)) (e : PieceKey × Slot S R) (o : ℕ) → EndsWith b (Some e) → (e.0.owner == o) ≡ true → exit_before os (ends None b) o ≡ exit_of (passed e.1.result)
  exit_same os b e o h is = ap (λ x. exit_before os (ends None x) o) h.1 ∙ ap (λ l. exit_before os l o) (sym (ends_push None h.0 e)) ∙ ap (λ t. cond t (exit_of (passed e.1.result)) (opening_of o os)) is

  pub exit_other : (os : List (ℕ × S)) (b : List (PieceKey × Slot S R)) (e : PieceKey × Slot S R) (o : ℕ) → EndsWith b (Some e) → (e.0.owner == o) ≡ false → exit_before os (ends None b) o ≡ opening_of o os
  exit_other os b e o h is = ap (λ x. exit_before os (ends None x) o) h.1 ∙ ap (λ l. exit_before os l o) (sym (ends_push None h.0 e)) ∙ ap (λ t. cond t (exit_of (passed e.1.result)) (opening_of o os)) is
