-- The last result before a key.
use Rattle.std.proofs.Common.{◌≡◌, ℕ, ◌≤◌, ◌<◌, ◌==◌, true, false, not, ◌&&◌, cond, List, [], ◌∷◌, ◌++◌, refl, sym, ap, ◌∙◌, subst, arith, append_assoc, Less, Equal, Greater, Option, Some, None}
use Rattle.std.proofs.lemmas.Bool.Decides.{nat_tests}
use Rattle.std.specs.Option.{option_or}
use Rattle.std.specs.Ordering.{is_le}
use Rattle.std.specs.List.{AllByRecursion}
use Rattle.std.specs.List.Sorted.{IsStrictlySortedBy}
use Rattle.std.specs.Map.{keys_of}
use Rattle.tl_pieces.specs.declared.key.PieceKey.{PieceKey}
use Rattle.tl_pieces.specs.declared.slot.Slot.{Slot}
use Rattle.tl_pieces.specs.declared.slot.Stored.{Stored}
use Rattle.tl_pieces.specs.Keys.{key_cmp, before, Rises}
use Rattle.tl_pieces.specs.Slots.{last_result}
use Rattle.tl_pieces.proofs.KeyLemmas.{owner_le}
use Rattle.tl_pieces.proofs.PlaceLemmas.{below_of}

module _ {S R : Type 0} where
  all_before : (k : PieceKey) (P : PieceKey → Type 0) (es : List (PieceKey × Slot S R)) → AllByRecursion P (keys_of es) → AllByRecursion P (keys_of (before k es))
  all_before k P [] a = tt
  all_before k P (e ∷ es) a =
      elim (true && not (is_le (key_cmp k e.0))) as (λ b. AllByRecursion P (keys_of (cond b (e ∷ before k es) (before k es)))) [
        | true ↦ (a.0, all_before k P es a.1)
        | false ↦ all_before k P es a.1
      ]

  pub before_rises : (k : PieceKey) (es : List (PieceKey × Slot S R)) → Rises es → Rises (before k es)
  unfolding IsStrictlySortedBy
  before_rises k [] s = tt
  before_rises k (e ∷ es) s =
      elim (true && not (is_le (key_cmp k e.0))) as (λ b. Rises (cond b (e ∷ before k es) (before k es))) [
        | true ↦ (all_before k (λ y. key_cmp e.0 y ≡ Less) es s.0, before_rises k es s.1)
        | false ↦ before_rises k es s.1
      ]

  before_below : (k : PieceKey) (es : List (PieceKey × Slot S R)) → AllByRecursion (λ (e : PieceKey × Slot S R). key_cmp k e.0 ≡ Greater) (before k es)
  before_below k [] = tt
  before_below k (e ∷ es) =
      elim (key_cmp k e.0) as (λ o. key_cmp k e.0 ≡ o → AllByRecursion (λ (x : PieceKey × Slot S R). key_cmp k x.0 ≡ Greater) (cond (true && not (is_le o)) (e ∷ before k es) (before k es))) [
        | Less ↦ λ _. before_below k es
        | Equal ↦ λ _. before_below k es
        | Greater ↦ λ h. (h, before_below k es)
      ] refl

  middle : (P : PieceKey × Slot S R → Type 0) (t zs : List (PieceKey × Slot S R)) (e : PieceKey × Slot S R) → AllByRecursion P (t ++ e ∷ zs) → P e
  middle P [] zs e a = a.0
  middle P (x ∷ t) zs e a = middle P t zs e a.1

  others : (o : ℕ) (k : PieceKey) (t : List (PieceKey × Slot S R)) → k.owner < o → AllByRecursion (λ (e : PieceKey × Slot S R). key_cmp k e.0 ≡ Greater) t → last_result o t ≡ None
  others o k [] low b = refl
  others o k (x ∷ t) low b =
      let le : x.0.owner ≤ k.owner = owner_le x.0 k b.0 in
      let no : (x.0.owner == o) ≡ false = grind (arith, nat_tests) in
      ap (λ r. option_or r (cond (x.0.owner == o) x.1.result None)) (others o k t low b.1) ∙ ap (λ c. cond c x.1.result None) no

  pub last_push : (o : ℕ) (t : List (PieceKey × Slot S R)) (e : PieceKey × Slot S R) → last_result o (t ++ e ∷ []) ≡ option_or (cond (e.0.owner == o) e.1.result None) (last_result o t)
  last_push o [] e = last (cond (e.0.owner == o) e.1.result None)
    where
      last : (r : Option (Stored S R)) → option_or None r ≡ option_or r None
      last None = refl
      last (Some x) = refl
  last_push o (x ∷ t) e = ap (λ r. option_or r (cond (x.0.owner == o) x.1.result None)) (last_push o t e) ∙ either (cond (e.0.owner == o) e.1.result None) (last_result o t) (cond (x.0.owner == o) x.1.result None)
    where
      either : (a b c : Option (Stored S R)) → option_or (option_or a b) c ≡ option_or a (option_or b c)
      either None b c = refl
      either (Some y) b c = refl

  -- the last piece before the key is of another owner
  pub last_other : (k : PieceKey) (es ws t zs : List (PieceKey × Slot S R)) (e : PieceKey × Slot S R) → Rises es → before k es ≡ ws ++ zs → ws ≡ t ++ e ∷ [] → (e.0.owner == k.owner) ≡ false → last_result k.owner ws ≡ None
  last_other k es ws t zs e s part is other =
      let all : before k es ≡ t ++ e ∷ zs = part ∙ ap (λ x. x ++ zs) is ∙ append_assoc t (e ∷ []) zs in
      let at : key_cmp k e.0 ≡ Greater = middle (λ x. key_cmp k x.0 ≡ Greater) t zs e (subst (AllByRecursion (λ (x : PieceKey × Slot S R). key_cmp k x.0 ≡ Greater)) all (before_below k es)) in
      let le : e.0.owner ≤ k.owner = owner_le e.0 k at in
      let low : e.0.owner < k.owner = grind (arith, nat_tests) in
      ap (last_result k.owner) is ∙ last_push k.owner t e ∙ ap (λ c. option_or (cond c e.1.result None) (last_result k.owner t)) other
      ∙ others k.owner e.0 t low (below_of e.0 e.1 t zs (subst Rises all (before_rises k es s)))

  -- the last has no result
  pub last_silent : (o : ℕ) (ws t : List (PieceKey × Slot S R)) (e : PieceKey × Slot S R) → ws ≡ t ++ e ∷ [] → e.1.result ≡ None → last_result o t ≡ last_result o ws
  last_silent o ws t e is none = sym (ap (last_result o) is ∙ last_push o t e ∙ ap (λ r. option_or (cond (e.0.owner == o) r None) (last_result o t)) none ∙ elim (e.0.owner == o) as (λ c. option_or (cond c None None) (last_result o t) ≡ last_result o t) [ true ↦ refl | false ↦ refl ])

  -- the last has one
  pub last_here : (o : ℕ) (ws t : List (PieceKey × Slot S R)) (e : PieceKey × Slot S R) (r : Stored S R) → ws ≡ t ++ e ∷ [] → (e.0.owner == o) ≡ true → e.1.result ≡ Some r → last_result o ws ≡ Some r
  last_here o ws t e r is own some = ap (last_result o) is ∙ last_push o t e ∙ ap (λ c. option_or (cond c e.1.result None) (last_result o t)) own ∙ ap (λ x. option_or x (last_result o t)) some
