-- Tallies under changes of slots, whatever the test.
use Rattle.std.proofs.Common.{◌≡◌, ℕ, ◌+◌, ◌≤◌, Bool, true, false, ◌&&◌, cond, List, [], ◌∷◌, length, refl, sym, ap, ◌∙◌, subst, arith, Less, Equal, Greater, true≢false, Option, Some, None}
use Rattle.std.specs.Ordering.{is_eq, match_ordering}
use Rattle.std.specs.BTreeMap.{is_at, insert_entry}
use Rattle.std.specs.Map.{remove_entry, set_value}
use Rattle.tl_pieces.specs.declared.key.PieceKey.{PieceKey}
use Rattle.tl_pieces.specs.declared.tally.Tally.{Tally}
use Rattle.tl_pieces.specs.Keys.{key_cmp, value_at, change}
use Rattle.tl_pieces.specs.Tallies.{count_of, is_past, lowered, NoneIsPassed, IsTally}
use Rattle.tl_pieces.proofs.KeyLemmas.{key_exact, lowered_past, lowered_here}

pub weaker : (a b d : Bool) → (a && b) ≡ false → (d ≡ true → b ≡ true) → (a && d) ≡ false
weaker false b d h w = refl
weaker true b false h w = refl
weaker true b true h w = absurd (true≢false (sym (w refl) ∙ h))

pub freed : (a d : Bool) → (a ≡ true → d ≡ false) → (a && d) ≡ false
freed false d h = refl
freed true d h = h refl

module _ {V : Type 0} where
  pub change_set : (k : PieceKey) (v : V) (f : V → V) (es : List (PieceKey × V)) → value_at k es ≡ Some v → set_value (is_at (key_cmp k)) es (f v) ≡ change k f es
  change_set k v f [] h = refl
  change_set k v f (e ∷ es) h =
      elim (is_at (key_cmp k) e.0) as (λ b. cond b (Some e.1) (value_at k es) ≡ Some v → cond b ((e.0, f v) ∷ es) (e ∷ set_value (is_at (key_cmp k)) es (f v)) ≡ cond b ((e.0, f e.1) ∷ es) (e ∷ change k f es)) [
        | true ↦ λ g. let same : e.1 ≡ v = cc in ap (λ s. (e.0, f s) ∷ es) (sym same)
        | false ↦ λ g. ap (λ t. e ∷ t) (change_set k v f es g)
      ] h

  pub change_none : (k : PieceKey) (f : V → V) (es : List (PieceKey × V)) → value_at k es ≡ None → change k f es ≡ es
  change_none k f [] h = refl
  change_none k f (e ∷ es) h =
      elim (is_at (key_cmp k) e.0) as (λ b. cond b (Some e.1) (value_at k es) ≡ None → cond b ((e.0, f e.1) ∷ es) (e ∷ change k f es) ≡ e ∷ es) [
        | true ↦ λ g. cc
        | false ↦ λ g. ap (λ t. e ∷ t) (change_none k f es g)
      ] h

module _ {V : Type 0} (p : V → Bool) where
  pub all_weaker : (c d : Option PieceKey) → ((q : PieceKey) → is_past d q ≡ true → is_past c q ≡ true) → (es : List (PieceKey × V)) → NoneIsPassed p c es → NoneIsPassed p d es
  all_weaker c d w [] a = tt
  all_weaker c d w (e ∷ es) a = (weaker (p e.1) (is_past c e.0) (is_past d e.0) a.0 (w e.0), all_weaker c d w es a.1)

  pub count_fits : (es : List (PieceKey × V)) → count_of p es ≤ length es
  count_fits [] = omega arith
  count_fits (e ∷ es) = let one : cond (p e.1) 1 0 ≤ 1 = small (p e.1) in omega (arith, count_fits es)
    where
      small : (b : Bool) → cond b 1 0 ≤ 1
      small true = omega arith
      small false = omega arith

  -- the cursor after a turn
  down : (c : Option PieceKey) (k : PieceKey) (b : Bool) → (q : PieceKey) → is_past (cond b (lowered c k) c) q ≡ true → is_past c q ≡ true
  down c k true q h = lowered_past c k q h
  down c k false q h = h

  here : (c : Option PieceKey) (k : PieceKey) (b : Bool) → b ≡ true → is_past (cond b (lowered c k) c) k ≡ false
  here c k true h = lowered_here c k
  here c k false h = cc

  module _ (k : PieceKey) (v : V) where
    -- one that passes counts
    pub counts_one : (es : List (PieceKey × V)) → value_at k es ≡ Some v → cond (p v) 1 0 ≤ count_of p es
    counts_one [] h = cc
    counts_one (e ∷ es) h =
        elim (is_at (key_cmp k) e.0) as (λ b. cond b (Some e.1) (value_at k es) ≡ Some v → cond (p v) 1 0 ≤ count_of p (e ∷ es)) [
          | true ↦ λ g. let same : e.1 ≡ v = cc in omega (arith, ap {B = ℕ} (λ (s : V). cond (p s) 1 0) same)
          | false ↦ λ g. omega (arith, counts_one es g)
        ] h

    -- ---- a slot changes

    module _ (f : V → V) where
      count_change : (es : List (PieceKey × V)) → value_at k es ≡ Some v → count_of p (change k f es) + cond (p v) 1 0 ≡ count_of p es + cond (p (f v)) 1 0
      count_change [] h = cc
      count_change (e ∷ es) h =
          elim (is_at (key_cmp k) e.0) as (λ b. cond b (Some e.1) (value_at k es) ≡ Some v → count_of p (cond b ((e.0, f e.1) ∷ es) (e ∷ change k f es)) + cond (p v) 1 0 ≡ count_of p (e ∷ es) + cond (p (f v)) 1 0) [
            | true ↦ λ g.
                let same : e.1 ≡ v = cc in
                omega (arith, ap {B = ℕ} (λ (s : V). cond (p s) 1 0) same, ap {B = ℕ} (λ (s : V). cond (p (f s)) 1 0) same)
            | false ↦ λ g. omega (arith, count_change es g)
          ] h

      passed_change : (c d : Option PieceKey) → ((q : PieceKey) → is_past d q ≡ true → is_past c q ≡ true) → (p (f v) ≡ true → is_past d k ≡ false) → (es : List (PieceKey × V)) → value_at k es ≡ Some v
          → NoneIsPassed p c es → NoneIsPassed p d (change k f es)
      passed_change c d w new [] h a = tt
      passed_change c d w new (e ∷ es) h a =
          elim (is_at (key_cmp k) e.0) as (λ b. is_at (key_cmp k) e.0 ≡ b → cond b (Some e.1) (value_at k es) ≡ Some v → NoneIsPassed p d (cond b ((e.0, f e.1) ∷ es) (e ∷ change k f es))) [
            | true ↦ λ t g.
                let same : e.1 ≡ v = cc in
                (freed (p (f e.1)) (is_past d e.0) (λ free. ap (is_past d) (sym (key_exact k e.0 t)) ∙ new (ap (λ s. p (f s)) (sym same) ∙ free)), all_weaker c d w es a.1)
            | false ↦ λ t g. (weaker (p e.1) (is_past c e.0) (is_past d e.0) a.0 (w e.0), passed_change c d w new es g a.1)
          ] refl h

      pub change_tally : (es ds : List (PieceKey × V)) (s t : Tally) (was is : Bool) → value_at k es ≡ Some v → IsTally p es s → was ≡ p v → is ≡ p (f v) → t.count + cond was 1 0 ≡ s.count + cond is 1 0
          → t.cursor ≡ cond is (lowered s.cursor k) s.cursor → ds ≡ change k f es → IsTally p ds t
      change_tally es ds s t was is found old before after count cursor all = record {
        counted = omega (arith, ap (count_of p) all, count_change es found, old.counted, count, ap {B = ℕ} (λ b. cond b 1 0) before, ap {B = ℕ} (λ b. cond b 1 0) after);
        passed = subst (NoneIsPassed p t.cursor) (sym all)
            (subst (λ (x : Option PieceKey). NoneIsPassed p x (change k f es)) (sym cursor) (passed_change s.cursor (cond is (lowered s.cursor k) s.cursor) (down s.cursor k is) (λ yes. here s.cursor k is (after ∙ yes)) es found old.passed));
      }

    -- ---- a slot comes

    count_insert : (es : List (PieceKey × V)) → value_at k es ≡ None → count_of p (insert_entry key_cmp es k v) ≡ count_of p es + cond (p v) 1 0
    count_insert [] h = omega arith
    count_insert (e ∷ es) h =
        elim (key_cmp k e.0) as (λ o. cond (is_eq o) (Some e.1) (value_at k es) ≡ None → count_of p (match_ordering o ((k, v) ∷ e ∷ es) ((e.0, v) ∷ es) (e ∷ insert_entry key_cmp es k v)) ≡ count_of p (e ∷ es) + cond (p v) 1 0) [
          | Less ↦ λ g. omega arith
          | Equal ↦ λ g. cc
          | Greater ↦ λ g. omega (arith, count_insert es g)
        ] h

    passed_insert : (c d : Option PieceKey) → ((q : PieceKey) → is_past d q ≡ true → is_past c q ≡ true) → is_past d k ≡ false → (es : List (PieceKey × V)) → value_at k es ≡ None
        → NoneIsPassed p c es → NoneIsPassed p d (insert_entry key_cmp es k v)
    passed_insert c d w new [] h a = (freed (p v) (is_past d k) (λ _. new), tt)
    passed_insert c d w new (e ∷ es) h a =
        elim (key_cmp k e.0) as (λ o. cond (is_eq o) (Some e.1) (value_at k es) ≡ None → NoneIsPassed p d (match_ordering o ((k, v) ∷ e ∷ es) ((e.0, v) ∷ es) (e ∷ insert_entry key_cmp es k v))) [
          | Less ↦ λ g. (freed (p v) (is_past d k) (λ _. new), all_weaker c d w (e ∷ es) a)
          | Equal ↦ λ g. cc
          | Greater ↦ λ g. (weaker (p e.1) (is_past c e.0) (is_past d e.0) a.0 (w e.0), passed_insert c d w new es g a.1)
        ] h

    pub insert_tally : (es ds : List (PieceKey × V)) (s t : Tally) → p v ≡ true → value_at k es ≡ None → IsTally p es s → t.count + 0 ≡ s.count + 1 → t.cursor ≡ lowered s.cursor k
        → ds ≡ insert_entry key_cmp es k v → IsTally p ds t
    insert_tally es ds s t new none old count cursor all = record {
      counted = omega (arith, ap (count_of p) all, count_insert es none, old.counted, count, ap {B = ℕ} (λ b. cond b 1 0) new);
      passed = subst (NoneIsPassed p t.cursor) (sym all)
          (subst (λ (x : Option PieceKey). NoneIsPassed p x (insert_entry key_cmp es k v)) (sym cursor) (passed_insert s.cursor (lowered s.cursor k) (lowered_past s.cursor k) (lowered_here s.cursor k) es none old.passed));
    }

    -- ---- a slot goes

    count_remove : (es : List (PieceKey × V)) → value_at k es ≡ Some v → count_of p (remove_entry (is_at (key_cmp k)) es) + cond (p v) 1 0 ≡ count_of p es
    count_remove [] h = cc
    count_remove (e ∷ es) h =
        elim (is_at (key_cmp k) e.0) as (λ b. cond b (Some e.1) (value_at k es) ≡ Some v → count_of p (cond b es (e ∷ remove_entry (is_at (key_cmp k)) es)) + cond (p v) 1 0 ≡ count_of p (e ∷ es)) [
          | true ↦ λ g. let same : e.1 ≡ v = cc in omega (arith, ap {B = ℕ} (λ (s : V). cond (p s) 1 0) same)
          | false ↦ λ g. omega (arith, count_remove es g)
        ] h

    passed_remove : (c : Option PieceKey) (es : List (PieceKey × V)) → NoneIsPassed p c es → NoneIsPassed p c (remove_entry (is_at (key_cmp k)) es)
    passed_remove c [] a = tt
    passed_remove c (e ∷ es) a =
        elim (is_at (key_cmp k) e.0) as (λ b. NoneIsPassed p c (cond b es (e ∷ remove_entry (is_at (key_cmp k)) es))) [
          | true ↦ a.1
          | false ↦ (a.0, passed_remove c es a.1)
        ]

    pub remove_tally : (es ds : List (PieceKey × V)) (s t : Tally) (was : Bool) → was ≡ p v → value_at k es ≡ Some v → IsTally p es s → t.count + cond was 1 0 ≡ s.count + 0 → t.cursor ≡ s.cursor
        → ds ≡ remove_entry (is_at (key_cmp k)) es → IsTally p ds t
    remove_tally es ds s t was before found old count cursor all = record {
      counted = omega (arith, ap (count_of p) all, count_remove es found, old.counted, count, ap {B = ℕ} (λ b. cond b 1 0) before);
      passed = subst (NoneIsPassed p t.cursor) (sym all) (subst (λ (x : Option PieceKey). NoneIsPassed p x (remove_entry (is_at (key_cmp k)) es)) (sym cursor) (passed_remove s.cursor es old.passed));
    }
