-- The place of a key among entries whose keys rise.
use Rattle.std.proofs.Common.{◌≡◌, true, false, not, ◌&&◌, cond, List, [], ◌∷◌, ◌++◌, refl, sym, ap, ◌∙◌, subst, Ordering, Less, Equal, Greater, Some, None}
use Rattle.std.specs.Ordering.{is_lt, is_le, is_eq, match_ordering, ordering_reverse}
use Rattle.std.specs.List.{AllByRecursion}
use Rattle.std.specs.BTreeMap.{is_at, insert_entry}
use Rattle.std.specs.Map.{keys_of, remove_entry}
use Rattle.std.proofs.lemmas.Map.{lookup-none}
use Rattle.std.proofs.lemmas.Map.Entries.{none_below_head}
use Rattle.std.proofs.lemmas.Map.Keys.{sorted_head, sorted_tail}
use Rattle.tl_pieces.specs.declared.key.PieceKey.{PieceKey}
use Rattle.tl_pieces.specs.Keys.{key_cmp, value_at, change, before, after, Rises}
use Rattle.tl_pieces.proofs.KeyLemmas.{key_total, key_exact, key_self}

module _ {V : Type 0} (k : PieceKey) where
  abbrev pub Above : List (PieceKey × V) → Type 0
  Above es = AllByRecursion (λ y. key_cmp k y ≡ Less) (keys_of es)

  abbrev pub Below : List (PieceKey × V) → Type 0
  Below es = AllByRecursion (λ (e : PieceKey × V). key_cmp k e.0 ≡ Greater) es

  before_above : (es : List (PieceKey × V)) → Above es → before k es ≡ []
  before_above [] a = refl
  before_above (e ∷ es) a = ap (λ o. cond (true && not (is_le o)) (e ∷ before k es) (before k es)) a.0 ∙ before_above es a.1

  after_above : (es : List (PieceKey × V)) → Above es → after k es ≡ es
  after_above [] a = refl
  after_above (e ∷ es) a = ap (λ o. cond (is_lt o && not false) (e ∷ after k es) (after k es)) a.0 ∙ ap (λ t. e ∷ t) (after_above es a.1)

  before_over : (xs ys : List (PieceKey × V)) → Below xs → before k (xs ++ ys) ≡ xs ++ before k ys
  before_over [] ys b = refl
  before_over (x ∷ xs) ys b = ap (λ o. cond (true && not (is_le o)) (x ∷ before k (xs ++ ys)) (before k (xs ++ ys))) b.0 ∙ ap (λ t. x ∷ t) (before_over xs ys b.1)

  after_over : (xs ys : List (PieceKey × V)) → Below xs → after k (xs ++ ys) ≡ after k ys
  after_over [] ys b = refl
  after_over (x ∷ xs) ys b = ap (λ o. cond (is_lt o && not false) (x ∷ after k (xs ++ ys)) (after k (xs ++ ys))) b.0 ∙ after_over xs ys b.1

  change_over : (f : V → V) (xs ys : List (PieceKey × V)) → Below xs → change k f (xs ++ ys) ≡ xs ++ change k f ys
  change_over f [] ys b = refl
  change_over f (x ∷ xs) ys b = ap (λ o. cond (is_eq o) ((x.0, f x.1) ∷ (xs ++ ys)) (x ∷ change k f (xs ++ ys))) b.0 ∙ ap (λ t. x ∷ t) (change_over f xs ys b.1)

  remove_over : (xs ys : List (PieceKey × V)) → Below xs → remove_entry (is_at (key_cmp k)) (xs ++ ys) ≡ xs ++ remove_entry (is_at (key_cmp k)) ys
  remove_over [] ys b = refl
  remove_over (x ∷ xs) ys b = ap (λ o. cond (is_eq o) (xs ++ ys) (x ∷ remove_entry (is_at (key_cmp k)) (xs ++ ys))) b.0 ∙ ap (λ t. x ∷ t) (remove_over xs ys b.1)

  lookup_over : (xs ys : List (PieceKey × V)) → Below xs → value_at k (xs ++ ys) ≡ value_at k ys
  lookup_over [] ys b = refl
  lookup_over (x ∷ xs) ys b = ap (λ o. cond (is_eq o) (Some x.1) (value_at k (xs ++ ys))) b.0 ∙ lookup_over xs ys b.1

  at_middle : (P : PieceKey → Type 0) (v : V) (xs ys : List (PieceKey × V)) → AllByRecursion P (keys_of (xs ++ (k, v) ∷ ys)) → P k
  at_middle P v [] ys a = a.0
  at_middle P v (x ∷ xs) ys a = at_middle P v xs ys a.1

  module _ (v : V) where
    pub below_of : (xs ys : List (PieceKey × V)) → Rises (xs ++ (k, v) ∷ ys) → Below xs
    below_of [] ys s = tt
    below_of (x ∷ xs) ys s =
        (key_total.antisymm k x.0 ∙ ap ordering_reverse (at_middle (λ y. key_cmp x.0 y ≡ Less) v xs ys (sorted_head key_cmp x.0 (keys_of (xs ++ (k, v) ∷ ys)) s)), below_of xs ys (sorted_tail key_cmp x.0 (keys_of (xs ++ (k, v) ∷ ys)) s))

    pub above_of : (xs ys : List (PieceKey × V)) → Rises (xs ++ (k, v) ∷ ys) → Above ys
    above_of [] ys s = sorted_head key_cmp k (keys_of ys) s
    above_of (x ∷ xs) ys s = above_of xs ys (sorted_tail key_cmp x.0 (keys_of (xs ++ (k, v) ∷ ys)) s)

    module _ (xs ys : List (PieceKey × V)) (s : Rises (xs ++ (k, v) ∷ ys)) where
      pub place_before : before k (xs ++ (k, v) ∷ ys) ≡ xs
      place_before =
          before_over xs ((k, v) ∷ ys) (below_of xs ys s)
          ∙ ap (λ o. xs ++ cond (true && not (is_le o)) ((k, v) ∷ before k ys) (before k ys)) (key_self k)
          ∙ ap (λ t. xs ++ t) (before_above ys (above_of xs ys s)) ∙ nil xs
        where
          nil : (zs : List (PieceKey × V)) → zs ++ [] ≡ zs
          nil [] = refl
          nil (z ∷ zs) = ap (λ t. z ∷ t) (nil zs)

      pub place_after : after k (xs ++ (k, v) ∷ ys) ≡ ys
      place_after = after_over xs ((k, v) ∷ ys) (below_of xs ys s) ∙ ap (λ o. cond (is_lt o && not false) ((k, v) ∷ after k ys) (after k ys)) (key_self k) ∙ after_above ys (above_of xs ys s)

      pub place_change : (f : V → V) → change k f (xs ++ (k, v) ∷ ys) ≡ xs ++ (k, f v) ∷ ys
      place_change f = change_over f xs ((k, v) ∷ ys) (below_of xs ys s) ∙ ap (λ o. xs ++ cond (is_eq o) ((k, f v) ∷ ys) ((k, v) ∷ change k f ys)) (key_self k)

      pub place_remove : remove_entry (is_at (key_cmp k)) (xs ++ (k, v) ∷ ys) ≡ xs ++ ys
      place_remove = remove_over xs ((k, v) ∷ ys) (below_of xs ys s) ∙ ap (λ o. xs ++ cond (is_eq o) ys ((k, v) ∷ remove_entry (is_at (key_cmp k)) ys)) (key_self k)

      pub place_lookup : value_at k (xs ++ (k, v) ∷ ys) ≡ Some v
      place_lookup = lookup_over xs ((k, v) ∷ ys) (below_of xs ys s) ∙ ap (λ o. cond (is_eq o) (Some v) (value_at k ys)) (key_self k)

    pub split : (es : List (PieceKey × V)) → Rises es → value_at k es ≡ Some v → es ≡ before k es ++ (k, v) ∷ after k es
    split [] s h = cc
    split (e ∷ es) s h = go (λ g. split es (sorted_tail key_cmp e.0 (keys_of es) s) g) (key_cmp k e.0) refl h
      where
        above : k ≡ e.0 → Above es
        above same = subst (λ (q : PieceKey). AllByRecursion (λ y. key_cmp q y ≡ Less) (keys_of es)) (sym same) (sorted_head key_cmp e.0 (keys_of es) s)

        here : k ≡ e.0 → e.1 ≡ v → e ∷ es ≡ before k es ++ (k, v) ∷ after k es
        here same is =
            ap (λ (q : PieceKey). (q, e.1) ∷ es) (sym same) ∙ ap (λ (x : V). (k, x) ∷ es) is ∙ ap (λ t. (k, v) ∷ t) (sym (after_above es (above same)))
            ∙ ap (λ t. t ++ (k, v) ∷ after k es) (sym (before_above es (above same)))

        go : (value_at k es ≡ Some v → es ≡ before k es ++ (k, v) ∷ after k es) → (o : Ordering) → key_cmp k e.0 ≡ o → cond (is_eq o) (Some e.1) (value_at k es) ≡ Some v
            → e ∷ es ≡ cond (true && not (is_le o)) (e ∷ before k es) (before k es) ++ (k, v) ∷ cond (is_lt o && not false) (e ∷ after k es) (after k es)
        go ih Less lt g = let none : value_at k (e ∷ es) ≡ None = lookup-none (is_at (key_cmp k)) (e ∷ es) (none_below_head key_total k e es s lt) in cc
        go ih Equal eq g = here (key_exact k e.0 (ap is_eq eq)) cc
        go ih Greater gt g = ap (λ t. e ∷ t) (ih g)

    pub remove_insert : (es : List (PieceKey × V)) → value_at k es ≡ None → remove_entry (is_at (key_cmp k)) (insert_entry key_cmp es k v) ≡ es
    remove_insert [] h = ap (λ o. cond (is_eq o) [] ((k, v) ∷ [])) (key_self k)
    remove_insert (e ∷ es) h = go (λ g. remove_insert es g) (key_cmp k e.0) refl h
      where
        go : (value_at k es ≡ None → remove_entry (is_at (key_cmp k)) (insert_entry key_cmp es k v) ≡ es) → (o : Ordering) → key_cmp k e.0 ≡ o → cond (is_eq o) (Some e.1) (value_at k es) ≡ None
            → remove_entry (is_at (key_cmp k)) (match_ordering o ((k, v) ∷ e ∷ es) ((e.0, v) ∷ es) (e ∷ insert_entry key_cmp es k v)) ≡ e ∷ es
        go ih Less lt g = ap (λ o. cond (is_eq o) (e ∷ es) ((k, v) ∷ remove_entry (is_at (key_cmp k)) (e ∷ es))) (key_self k)
        go ih Equal eq g = cc
        go ih Greater gt g = ap (λ o. cond (is_eq o) (insert_entry key_cmp es k v) (e ∷ remove_entry (is_at (key_cmp k)) (insert_entry key_cmp es k v))) gt ∙ ap (λ t. e ∷ t) (ih g)

    pub lookup_insert : (es : List (PieceKey × V)) → value_at k (insert_entry key_cmp es k v) ≡ Some v
    lookup_insert [] = ap (λ o. cond (is_eq o) (Some v) None) (key_self k)
    lookup_insert (e ∷ es) = go (lookup_insert es) (key_cmp k e.0) refl
      where
        go : value_at k (insert_entry key_cmp es k v) ≡ Some v → (o : Ordering) → key_cmp k e.0 ≡ o → value_at k (match_ordering o ((k, v) ∷ e ∷ es) ((e.0, v) ∷ es) (e ∷ insert_entry key_cmp es k v)) ≡ Some v
        go ih Less lt = ap (λ o. cond (is_eq o) (Some v) (value_at k (e ∷ es))) (key_self k)
        go ih Equal eq = ap (λ o. cond (is_eq o) (Some v) (value_at k es)) eq
        go ih Greater gt = ap (λ o. cond (is_eq o) (Some e.1) (value_at k (insert_entry key_cmp es k v))) gt ∙ ih
