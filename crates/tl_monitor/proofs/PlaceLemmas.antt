-- What a function of places finds at a number, after a place that comes, goes or changes.
use Rattle.std.proofs.Common.{◌≡◌, ℕ, true, false, cond, Bool, Option, Some, None, refl, sym, ap, subst, ◌∙◌}
use Rattle.std.specs.Option.{option_and_then, IsSome}
use Rattle.std.specs.Ordering.{nat_cmp}
use Rattle.std.specs.BTreeMap.{insert_entry, is_at}
use Rattle.std.specs.Map.{keys_of, remove_entry}
use Rattle.std.proofs.lemmas.Map.{lookup-remove_entry, lookup-set_value}
use Rattle.std.proofs.lemmas.Map.Keys.{IsDistinct-from_sorted}
use Rattle.tl_monitor.specs.Held.{Held}
use Rattle.tl_monitor.specs.declared.away.Away.{Away}
use Rattle.tl_monitor.specs.Places.{Place, Here, Out, held_of, away_of}
use Rattle.tl_monitor.specs.Boxes.{BoxesData, IsBoxes, place_at, placed_at}
use Rattle.tl_monitor.proofs.NumberLemmas.{number_exact, number_equivalence, same_test, turned, lookup_put}

pub held_there : (o : Option Place) (held : Held) → option_and_then held_of o ≡ Some held → o ≡ Some (Here held)
held_there None held h = cc
held_there (Some (Here other)) held h = let same : other ≡ held = cc in ap (λ x. Some (Here x)) same
held_there (Some (Out away)) held h = cc

pub away_there : (o : Option Place) (away : Away) → option_and_then away_of o ≡ Some away → o ≡ Some (Out away)
away_there None away h = cc
away_there (Some (Here held)) away h = cc
away_there (Some (Out other)) away h = let same : other ≡ away = cc in ap (λ x. Some (Out x)) same

module _ {X : Type 0} (f : Place → Option X) where
  -- what it finds at a number
  abbrev pub at : ℕ → BoxesData → Option X
  at n b = option_and_then f (place_at n b.slots)

  cond_some : (t : Bool) (p : Place) (o : Option Place) → option_and_then f (cond t (Some p) o) ≡ cond t (f p) (option_and_then f o)
  cond_some true p o = refl
  cond_some false p o = refl

  cond_none : (t : Bool) (o : Option Place) → option_and_then f (cond t None o) ≡ cond t None (option_and_then f o)
  cond_none true o = refl
  cond_none false o = refl

  -- What stands at a number is what stands at an equal one.
  pub at_same : (n m : ℕ) (b : BoxesData) (x : Option X) → x ≡ at m b → cond (is_at (nat_cmp n) m) x (at n b) ≡ at n b
  at_same n m b x is = go (is_at (nat_cmp n) m) refl
    where
      go : (t : Bool) → is_at (nat_cmp n) m ≡ t → cond t x (at n b) ≡ at n b
      go true t = is ∙ ap (λ k. at k b) (sym (number_exact n m t))
      go false t = refl

  pub put_at : (n m : ℕ) (p : Place) (b : BoxesData) → option_and_then f (place_at n (insert_entry nat_cmp b.slots m p)) ≡ cond (is_at (nat_cmp n) m) (f p) (at n b)
  put_at n m p b = ap (option_and_then f) (lookup_put n m p b.slots) ∙ cond_some (is_at (nat_cmp n) m) p (place_at n b.slots)

  pub removed_at : (n m : ℕ) (b : BoxesData) → IsBoxes b → option_and_then f (place_at n (remove_entry (is_at (nat_cmp m)) b.slots)) ≡ cond (is_at (nat_cmp n) m) None (at n b)
  removed_at n m b are =
      ap (option_and_then f) (lookup-remove_entry number_equivalence (is_at (nat_cmp m)) (same_test m) n b.slots (IsDistinct-from_sorted nat_cmp (keys_of b.slots) are.rises))
      ∙ cond_none (is_at (nat_cmp m) n) (place_at n b.slots)
      ∙ ap (λ t. cond t None (at n b)) (turned m n)

  pub set_at : (n m : ℕ) (p q : Place) (b : BoxesData) → place_at m b.slots ≡ Some q → at n (placed_at m p b) ≡ cond (is_at (nat_cmp n) m) (f p) (at n b)
  set_at n m p q b there =
      ap (option_and_then f) (lookup-set_value number_equivalence (is_at (nat_cmp m)) (same_test m) n p b.slots (subst IsSome (sym there) refl))
      ∙ cond_some (is_at (nat_cmp m) n) p (place_at n b.slots)
      ∙ ap (λ t. cond t (f p) (at n b)) (turned m n)

  pub set_alike : (n m : ℕ) (p q : Place) (b : BoxesData) → place_at m b.slots ≡ Some q → f p ≡ f q → at n (placed_at m p b) ≡ at n b
  set_alike n m p q b there alike = set_at n m p q b there ∙ at_same n m b (f p) (alike ∙ sym (ap (option_and_then f) there))
