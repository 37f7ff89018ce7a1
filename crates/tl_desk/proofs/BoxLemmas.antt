-- Where monitors are, after one call.
use Rattle.std.proofs.Common.{◌≡◌, ℕ, ◌⊎◌, inl, inr, true, false, cond, Bool, Option, Some, None, refl, sym, ap, subst, ◌∙◌, arith, Equal, Ordering, Less, Greater}
use Rattle.std.specs.Prelude.{is_some}
use Rattle.std.specs.Option.{option_map, option_map_or, option_and_then, IsSome}
use Rattle.std.specs.Ordering.{nat_cmp, is_eq}
use Rattle.std.specs.Cmp.{IsEquivalence}
use Rattle.std.specs.BTreeMap.{insert_entry, is_at}
use Rattle.std.specs.List.Sorted.{IsStrictlySortedBy}
use Rattle.std.specs.Map.{keys_of, remove_entry}
use Rattle.std.proofs.lemmas.Bool.Decides.{nat_tests}
use Rattle.std.proofs.lemmas.Cmp.{nat_cmp_total, eq_by_cmp_equiv}
use Rattle.std.proofs.lemmas.Map.{lookup-remove_entry, lookup-set_value}
use Rattle.std.proofs.lemmas.Map.Keys.{IsDistinct-from_sorted}
use Rattle.tl_monitor.specs.Boxes.{BoxesData, place_at, held_at, away_at, placed_at, attached_at, retuned_at, detached_from, detached_at, taken_at, back_with, brought_back}
use Rattle.tl_monitor.specs.Places.{Place, Here, Out, held_of, away_of, limit_of, tuned, place_tuned, leaving}
use Rattle.tl_monitor.specs.declared.away.Away.{Away}
use Rattle.tl_monitor.specs.Held.{Held}
use Rattle.tl_board.proofs.EntryLemmas.{lookup_put}

-- ---- numbers

pub nat_exact : (x y : ℕ) → nat_cmp x y ≡ Equal → x ≡ y
nat_exact x y h = grind (arith, nat_tests)

pub number_exact : (x y : ℕ) → is_at (nat_cmp x) y ≡ true → x ≡ y
number_exact x y h = go (nat_cmp x y) refl h
  where
    go : (o : Ordering) → nat_cmp x y ≡ o → is_eq o ≡ true → x ≡ y
    go Less e g = cc
    go Equal e g = nat_exact x y e
    go Greater e g = cc

pub number_self : (x : ℕ) → is_at (nat_cmp x) x ≡ true
number_self x = grind (arith, nat_tests)

pub number_equivalence : IsEquivalence (λ k. is_at (nat_cmp k))
number_equivalence = eq_by_cmp_equiv nat_cmp_total

pub same_test : (m : ℕ) (x y : ℕ) → is_at (nat_cmp m) x ≡ true → is_at (nat_cmp m) y ≡ is_at (nat_cmp x) y
same_test m x y h = ap (λ k. is_at (nat_cmp k) y) (number_exact m x h)

pub number_apart : (m n : ℕ) → (m ≡ n → ⊥) → is_at (nat_cmp m) n ≡ false
number_apart m n apart = go (is_at (nat_cmp m) n) refl
  where
    go : (b : Bool) → is_at (nat_cmp m) n ≡ b → is_at (nat_cmp m) n ≡ false
    go true t = absurd (apart (number_exact m n t))
    go false t = t

pub number_apart_back : (m n : ℕ) → (m ≡ n → ⊥) → is_at (nat_cmp n) m ≡ false
number_apart_back m n apart = number_apart n m (λ h. apart (sym h))

pub same_number : (m n : ℕ) → (m ≡ n) ⊎ (m ≡ n → ⊥)
same_number m n = go (is_at (nat_cmp m) n) refl
  where
    go : (b : Bool) → is_at (nat_cmp m) n ≡ b → (m ≡ n) ⊎ (m ≡ n → ⊥)
    go true t = inl (number_exact m n t)
    go false t = inr (λ same. let yes : is_at (nat_cmp m) n ≡ true = subst (λ k. is_at (nat_cmp m) k ≡ true) same (number_self m) in let never : true ≡ false = sym yes ∙ t in cc)

-- ---- the place of one number

-- The monitor of this number is here, or nowhere, and all others are where they were.
pub record IsPlaced (m : ℕ) (p : Option Place) (old new : BoxesData) : Type 0 where
  pub here : place_at m new.slots ≡ p
  pub others : (n : ℕ) → (m ≡ n → ⊥) → place_at n new.slots ≡ place_at n old.slots

pub stays_placed : (m : ℕ) (p : Option Place) (old new : BoxesData) → place_at m old.slots ≡ p → new ≡ old → IsPlaced m p old new
stays_placed m p old new at same = record {
  here = ap (λ (b : BoxesData). place_at m b.slots) same ∙ at;
  others = λ n apart. ap (λ (b : BoxesData). place_at n b.slots) same;
}

pub set_placed : (m : ℕ) (q p : Place) (old new : BoxesData) → place_at m old.slots ≡ Some q → new ≡ placed_at m p old → IsPlaced m (Some p) old new
set_placed m q p old new at is = record {
  here = found m ∙ ap (λ b. cond b (Some p) (place_at m old.slots)) (number_self m);
  others = λ n apart. found n ∙ ap (λ b. cond b (Some p) (place_at n old.slots)) (number_apart m n apart);
}
  where
    found : (n : ℕ) → place_at n new.slots ≡ cond (is_at (nat_cmp m) n) (Some p) (place_at n old.slots)
    found n = ap (λ (b : BoxesData). place_at n b.slots) is ∙ lookup-set_value number_equivalence (is_at (nat_cmp m)) (same_test m) n p old.slots (subst IsSome (sym at) refl)

pub gone_placed : (m : ℕ) (old new : BoxesData) → IsStrictlySortedBy nat_cmp (keys_of old.slots) → new.slots ≡ remove_entry (is_at (nat_cmp m)) old.slots → IsPlaced m None old new
gone_placed m old new order is = record {
  here = found m ∙ ap (λ b. cond b None (place_at m old.slots)) (number_self m);
  others = λ n apart. found n ∙ ap (λ b. cond b None (place_at n old.slots)) (number_apart m n apart);
}
  where
    found : (n : ℕ) → place_at n new.slots ≡ cond (is_at (nat_cmp m) n) None (place_at n old.slots)
    found n = ap (place_at n) is ∙ lookup-remove_entry number_equivalence (is_at (nat_cmp m)) (same_test m) n old.slots (IsDistinct-from_sorted nat_cmp (keys_of old.slots) order)

pub come_placed : (m : ℕ) (p : Place) (old new : BoxesData) → new.slots ≡ insert_entry nat_cmp old.slots m p → IsPlaced m (Some p) old new
come_placed m p old new is = record {
  here = found m ∙ ap (λ b. cond b (Some p) (place_at m old.slots)) (number_self m);
  others = λ n apart. found n ∙ ap (λ b. cond b (Some p) (place_at n old.slots)) (number_apart_back m n apart);
}
  where
    found : (n : ℕ) → place_at n new.slots ≡ cond (is_at (nat_cmp n) m) (Some p) (place_at n old.slots)
    found n = ap (place_at n) is ∙ lookup_put nat_cmp nat_cmp_total nat_exact n m p old.slots

-- ---- each call

pub tuned_placed : (m limit : ℕ) (old new : BoxesData) → new ≡ retuned_at m limit old → IsPlaced m (option_map (place_tuned limit) (place_at m old.slots)) old new
tuned_placed m limit old new is = go (place_at m old.slots) refl is
  where
    go : (p : Option Place) → place_at m old.slots ≡ p → new ≡ option_map_or (λ place. placed_at m (place_tuned limit place) old) p old → IsPlaced m (option_map (place_tuned limit) p) old new
    go None at same = stays_placed m None old new at same
    go (Some q) at same = set_placed m q (place_tuned limit q) old new at same

-- one that is here ends, and one that is out is to end
abbrev pub place_detached : ℕ → Option Place → Option Place
place_detached edit None = None
place_detached edit (Some (Here held)) = None
place_detached edit (Some (Out away)) = Some (Out (record away { closing = Some edit }))

pub detached_placed : (m edit : ℕ) (old new : BoxesData) → IsStrictlySortedBy nat_cmp (keys_of old.slots) → new ≡ detached_at m edit old → IsPlaced m (place_detached edit (place_at m old.slots)) old new
detached_placed m edit old new order is = go (place_at m old.slots) refl is
  where
    go : (p : Option Place) → place_at m old.slots ≡ p → new ≡ detached_from p m edit old → IsPlaced m (place_detached edit p) old new
    go None at same = stays_placed m None old new at same
    go (Some (Here held)) at same = gone_placed m old new order (ap (λ (b : BoxesData). b.slots) same)
    go (Some (Out away)) at same = set_placed m (Out away) (Out (record away { closing = Some edit })) old new at same

pub attached_placed : (m : ℕ) (held : Held) (old new : BoxesData) → new ≡ attached_at m held old → IsPlaced m (Some (Here held)) old new
attached_placed m held old new is = come_placed m (Here held) old new (ap (λ (b : BoxesData). b.slots) is)

-- what is at a place
pub place_here : (p : Option Place) (held : Held) → option_and_then held_of p ≡ Some held → p ≡ Some (Here held)
place_here None held h = cc
place_here (Some (Here found)) held h = let both : Some found ≡ Some held = h in let same : found ≡ held = cc in ap (λ x. Some (Here x)) same
place_here (Some (Out away)) held h = absurd (let never : None ≡ Some held = h in cc)

pub place_out : (p : Option Place) (away : Away) → option_and_then away_of p ≡ Some away → p ≡ Some (Out away)
place_out None away h = cc
place_out (Some (Here found)) away h = absurd (let never : None ≡ Some away = h in cc)
place_out (Some (Out found)) away h = let both : Some found ≡ Some away = h in let same : found ≡ away = cc in ap (λ x. Some (Out x)) same

pub taken_placed : (m ticket : ℕ) (held : Held) (old new : BoxesData) → held_at m old.slots ≡ Some held → new ≡ taken_at m ticket old → IsPlaced m (Some (Out (leaving ticket held))) old new
taken_placed m ticket held old new here is =
    set_placed m (Here held) (Out (leaving ticket held)) old new (place_here (place_at m old.slots) held here)
    (is ∙ ap (λ o. option_map_or (λ h. placed_at m (Out (leaving ticket h)) old) o old) here)

-- what comes back, with the last limit
abbrev pub place_back : Option ℕ → Held → Option Place
place_back None held = Some (Here held)
place_back (Some edit) held = None

pub back_placed : (m : ℕ) (away : Away) (held : Held) (old new : BoxesData) → IsStrictlySortedBy nat_cmp (keys_of old.slots) → away_at m old.slots ≡ Some away → new ≡ brought_back m held old
    → IsPlaced m (place_back away.closing (tuned (limit_of away.watch) held)) old new
back_placed m away held old new order out is = go away.closing (is ∙ ap (λ o. option_map_or (λ (a : Away). back_with a.closing m (tuned (limit_of a.watch) held) old) o old) out)
  where
    go : (closing : Option ℕ) → new ≡ back_with closing m (tuned (limit_of away.watch) held) old → IsPlaced m (place_back closing (tuned (limit_of away.watch) held)) old new
    go None same = set_placed m (Out away) (Here (tuned (limit_of away.watch) held)) old new (place_out (place_at m old.slots) away out) same
    go (Some edit) same = gone_placed m old new order (ap (λ (b : BoxesData). b.slots) same)

-- One that is here, or out, has a place.
pub held_there : (m : ℕ) (b : BoxesData) → is_some (held_at m b.slots) ≡ true → is_some (place_at m b.slots) ≡ true
held_there m b h = go (place_at m b.slots) h
  where
    go : (p : Option Place) → is_some (option_and_then held_of p) ≡ true → is_some p ≡ true
    go None g = g
    go (Some p) g = refl

pub away_there : (m : ℕ) (b : BoxesData) → is_some (away_at m b.slots) ≡ true → is_some (place_at m b.slots) ≡ true
away_there m b h = go (place_at m b.slots) h
  where
    go : (p : Option Place) → is_some (option_and_then away_of p) ≡ true → is_some p ≡ true
    go None g = g
    go (Some p) g = refl
