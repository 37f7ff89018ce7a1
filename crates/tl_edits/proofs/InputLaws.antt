-- What stands: maps of no regions, and monitors that are attached.
use Rattle.std.proofs.Common.{◌≡◌, ℕ, zero, suc, ◌+◌, ◌<◌, List, [], ◌∷◌, ◌++◌, take, get_or, length, map, sym, ap, ◌∙◌, Option, Some, None}
use Rattle.std.specs.declared.cmp.Ordering.TheVariants.{Less}
use Rattle.std.specs.List.{AllByRecursion}
use Rattle.std.specs.List.Sorted.{IsStrictlySortedBy}
use Rattle.std.specs.Map.{keys_of}
use Rattle.std.specs.Ordering.{nat_cmp}
use Rattle.std.proofs.lemmas.List.{take_more, map-append}
use Rattle.tl_beats.specs.declared.watch.Watch.{Watch}
use Rattle.tl_edits.specs.Inputs.{attached, AreNumbered}

pub blanks_more : {X Y : Type 0} (y : Y) (xs : List X) (i : ℕ) (d : X) (ys : List Y) → i < length xs → ys ≡ map (λ x. y) (take i xs) → ys ++ y ∷ [] ≡ map (λ x. y) (take (i + 1) xs)
blanks_more y xs i d ys within h = ap (λ l. l ++ y ∷ []) h ∙ sym (ap (map (λ x. y)) (take_more xs i d within) ∙ map-append (λ x. y) (take i xs) (get_or xs i d ∷ []))

all_attached : (P : ℕ → Type 0) (es : List (ℕ × Option Watch)) → AllByRecursion P (keys_of es) → AllByRecursion P (map (λ e. e.0) (attached es))
all_attached P [] a = a
all_attached P ((k, None) ∷ es) a = all_attached P es a.1
all_attached P ((k, Some w) ∷ es) a = (a.0, all_attached P es a.1)

pub attached_rise : (es : List (ℕ × Option Watch)) → IsStrictlySortedBy nat_cmp (keys_of es) → IsStrictlySortedBy nat_cmp (map (λ e. e.0) (attached es))
unfolding IsStrictlySortedBy
attached_rise [] s = s
attached_rise ((k, None) ∷ es) s = attached_rise es s.1
attached_rise ((k, Some w) ∷ es) s = (all_attached (λ y. nat_cmp k y ≡ Less) es s.0, attached_rise es s.1)

-- Where there are no regions, each has its number.
pub none_numbered : {X : Type 0} (xs : List X) → AreNumbered (map (λ x. []) xs)
none_numbered [] manager number h = cc
none_numbered (x ∷ xs) zero number h = cc
none_numbered (x ∷ xs) (suc manager) number h = none_numbered xs manager number h
