-- A result that begins with what its job was to start from begins with the exit before it, if that is there.
use Rattle.std.proofs.Common.{◌≡◌, ℕ, ◌≤◌, ◌==◌, true, false, not, ◌&&◌, cond, List, [], ◌∷◌, refl, sym, ap, ◌∙◌, subst, arith, Less, Equal, Greater, Option, Some, None}
use Rattle.std.proofs.lemmas.Bool.Decides.{nat_tests}
use Rattle.std.specs.Prelude.{⊤}
use Rattle.std.specs.Bool.{Decides}
use Rattle.std.specs.Option.{option_or}
use Rattle.std.specs.Ordering.{is_le, is_eq}
use Rattle.std.specs.List.{AllByRecursion}
use Rattle.std.specs.BTreeMap.{is_at}
use Rattle.std.specs.Map.{keys_of}
use Rattle.std.proofs.lemmas.Map.Keys.{sorted_head, sorted_tail}
use Rattle.tl_pieces.specs.declared.key.PieceKey.{PieceKey}
use Rattle.tl_pieces.specs.declared.slot.Slot.{Slot}
use Rattle.tl_pieces.specs.declared.slot.Stored.{Stored}
use Rattle.tl_pieces.specs.declared.slot.Change.TheVariants as to
use Rattle.tl_pieces.specs.Keys.{key_cmp, value_at, change, before, Rises}
use Rattle.tl_pieces.specs.Slots.{changed}
use Rattle.tl_pieces.specs.Pieces.{Pass, exit_of, last_exit, opening_of, exit_before, IsGood}
use Rattle.tl_pieces.specs.Marks.{piece_of, pass_of, passed, left, ends, pass_at, shown}
use Rattle.tl_pieces.proofs.KeyLemmas.{owner_le}
use Rattle.tl_pieces.proofs.OwnerLemmas.{owners_later}
use Rattle.tl_pieces.proofs.ReadyLemmas.{either_none}

module _ {V : Type 0} (k : PieceKey) (f : V → V) where
  before_change : (es : List (PieceKey × V)) → before k (change k f es) ≡ before k es
  before_change [] = refl
  before_change (e ∷ es) =
      elim (key_cmp k e.0) as (λ o. key_cmp k e.0 ≡ o → before k (cond (is_eq o) ((e.0, f e.1) ∷ es) (e ∷ change k f es)) ≡ cond (true && not (is_le o)) (e ∷ before k es) (before k es)) [
        | Less ↦ λ h. ap (λ o. cond (true && not (is_le o)) (e ∷ before k (change k f es)) (before k (change k f es))) h ∙ before_change es
        | Equal ↦ λ h. ap (λ o. cond (true && not (is_le o)) ((e.0, f e.1) ∷ before k es) (before k es)) h
        | Greater ↦ λ h. ap (λ o. cond (true && not (is_le o)) (e ∷ before k (change k f es)) (before k (change k f es))) h ∙ ap (λ t. e ∷ t) (before_change es)
      ] refl

  value_changed : (es : List (PieceKey × V)) (v : V) → value_at k es ≡ Some v → value_at k (change k f es) ≡ Some (f v)
  value_changed [] v h = cc
  value_changed (e ∷ es) v h =
      elim (is_at (key_cmp k) e.0) as (λ b. is_at (key_cmp k) e.0 ≡ b → cond b (Some e.1) (value_at k es) ≡ Some v → value_at k (cond b ((e.0, f e.1) ∷ es) (e ∷ change k f es)) ≡ Some (f v)) [
        | true ↦ λ t g. let is : e.1 ≡ v = cc in ap (λ b. cond b (Some (f e.1)) (value_at k es)) t ∙ ap (λ x. Some (f x)) is
        | false ↦ λ t g. ap (λ b. cond b (Some e.1) (value_at k (change k f es))) t ∙ value_changed es v g
      ] refl h

module _ {S R : Type 0} (os : List (ℕ × S)) (k : PieceKey) where
  -- what stands before a list is of no later owner than its pieces
  abbrev IsPast : Option (ℕ × Option S) → List (PieceKey × Slot S R) → Type 0
  IsPast None es = ⊤
  IsPast (Some l) es = AllByRecursion (λ (key : PieceKey). l.0 ≤ key.owner) (keys_of es)

  past_first : (l : Option (ℕ × Option S)) (e : PieceKey × Slot S R) (es : List (PieceKey × Slot S R)) → IsPast l (e ∷ es) → IsPast l es
  past_first None e es past = tt
  past_first (Some l) e es past = past.1

  -- where a piece before the key is of another owner, so is what stands before that
  opens : (l : Option (ℕ × Option S)) (e : PieceKey × Slot S R) (es : List (PieceKey × Slot S R)) → IsPast l (e ∷ es) → key_cmp k e.0 ≡ Greater → (e.0.owner == k.owner) ≡ false
      → exit_before os l k.owner ≡ opening_of k.owner os
  opens None e es past gt apart = refl
  opens (Some l) e es past gt apart =
      let high : l.0 ≤ e.0.owner = past.0 in
      let low : e.0.owner ≤ k.owner = owner_le e.0 k gt in
      let other : (l.0 == k.owner) ≡ false = grind (arith, nat_tests) in
      ap (λ b. cond b l.1 (opening_of k.owner os)) other

  -- the exit before a key is the nearest exit before it, if it is there
  nearest : (s : S) (l : Option (ℕ × Option S)) (es : List (PieceKey × Slot S R)) → Rises es → IsPast l es → exit_before os (ends l (before k es)) k.owner ≡ Some s
      → option_or (last_exit k.owner (before k (shown es))) (exit_before os l k.owner) ≡ Some s
  nearest s l [] rise past h = h
  nearest s l (e ∷ es) rise past h =
      elim (key_cmp k e.0) as (λ o. key_cmp k e.0 ≡ o → exit_before os (ends l (cond (true && not (is_le o)) (e ∷ before k es) (before k es))) k.owner ≡ Some s
      → option_or (last_exit k.owner (cond (true && not (is_le o)) ((e.0, piece_of e.1) ∷ before k (shown es)) (before k (shown es)))) (exit_before os l k.owner) ≡ Some s) [
        | Less ↦ λ _ g. nearest s l es rest (past_first l e es past) g
        | Equal ↦ λ _ g. nearest s l es rest (past_first l e es past) g
        | Greater ↦ λ gt g. one_more gt (nearest s (left e) es rest (owners_later e.0 es (sorted_head key_cmp e.0 (keys_of es) rise)) g)
      ] refl h
    where
      rest : Rises es
      rest = sorted_tail key_cmp e.0 (keys_of es) rise

      one_more : key_cmp k e.0 ≡ Greater → option_or (last_exit k.owner (before k (shown es))) (exit_before os (left e) k.owner) ≡ Some s
          → option_or (option_or (last_exit k.owner (before k (shown es))) (cond (e.0.owner == k.owner) (exit_of (passed e.1.result)) None)) (exit_before os l k.owner) ≡ Some s
      one_more gt h =
          elim (e.0.owner == k.owner) as (λ b. (e.0.owner == k.owner) ≡ b → option_or (last_exit k.owner (before k (shown es))) (cond b (exit_of (passed e.1.result)) (opening_of k.owner os)) ≡ Some s
          → option_or (option_or (last_exit k.owner (before k (shown es))) (cond b (exit_of (passed e.1.result)) None)) (exit_before os l k.owner) ≡ Some s) [
            | true ↦ λ _ g. ap (λ x. option_or x (exit_before os l k.owner)) g
            | false ↦ λ apart g. either_none (last_exit k.owner (before k (shown es))) (exit_before os l k.owner) ∙ ap (option_or (last_exit k.owner (before k (shown es)))) (opens l e es past gt apart) ∙ g
          ] refl h

  module _ (same : S → S → Type 0) (es : List (PieceKey × Slot S R)) (rise : Rises es) (r : Stored S R) (alike : same (pass_of r).entry (pass_of r).entry)
      (from : option_or (last_exit k.owner (before k (shown es))) (opening_of k.owner os) ≡ Some (pass_of r).entry) where
    good : IsGood same (exit_before os (ends None (before k es)) k.owner) (Some (pass_of r))
    good = go (exit_before os (ends None (before k es)) k.owner) refl
      where
        go : (exit : Option S) → exit_before os (ends None (before k es)) k.owner ≡ exit → IsGood same exit (Some (pass_of r))
        go None at = tt
        go (Some s) at =
            let near : option_or (last_exit k.owner (before k (shown es))) (opening_of k.owner os) ≡ Some s = nearest s None es rise tt at in
            let is : (pass_of r).entry ≡ s = cc in
            subst (same (pass_of r).entry) is alike

    -- once it is stored, its piece is marked as not wanted
    pub marked_good : (v : Slot S R) → value_at k es ≡ Some v → (ds : List (PieceKey × Slot S R)) → ds ≡ change k (changed (to.Result r)) es
        → Decides (not false) (IsGood same (exit_before os (ends None (before k ds)) k.owner) (pass_at (value_at k ds)))
    marked_good v found ds is =
        let front : before k ds ≡ before k es = ap (before k) is ∙ before_change k (changed (to.Result r)) es in
        let own : value_at k ds ≡ Some (changed (to.Result r) v) = ap (value_at k) is ∙ value_changed k (changed (to.Result r)) es v found in
        let begins : IsGood same (exit_before os (ends None (before k ds)) k.owner) (pass_at (value_at k ds)) =
        subst (λ (xs : List (PieceKey × Slot S R)). IsGood same (exit_before os (ends None xs) k.owner) (pass_at (value_at k ds))) (sym front)
        (subst (λ (o : Option (Slot S R)). IsGood same (exit_before os (ends None (before k es)) k.owner) (pass_at o)) (sym own) good) in
        (λ _. begins, λ _. refl)
