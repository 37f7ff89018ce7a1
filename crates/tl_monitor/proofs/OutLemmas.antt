-- The first that is out.
use Rattle.std.proofs.Common.{◌≡◌, ◌<◌, ℕ, true, false, cond, Bool, List, [], ◌∷◌, Option, Some, None, refl, sym, ap, subst, ◌∙◌, arith, Less}
use Rattle.std.specs.Option.{option_and_then}
use Rattle.std.specs.Ordering.{nat_cmp, is_eq}
use Rattle.std.specs.BTreeMap.{is_at}
use Rattle.std.specs.List.{AllByRecursion}
use Rattle.std.specs.List.Sorted.{IsStrictlySortedBy}
use Rattle.std.specs.Map.{keys_of, lookup}
use Rattle.std.proofs.lemmas.Bool.Decides.{nat_tests}
use Rattle.std.proofs.lemmas.Map.Keys.{sorted_head, sorted_tail}
use Rattle.std.proofs.lemmas.Map.{lookup-none}
use Rattle.std.proofs.lemmas.Map.Entries.{none_below_head}
use Rattle.std.proofs.lemmas.Cmp.{nat_cmp_total}
use Rattle.tl_monitor.specs.declared.away.Away.{Away}
use Rattle.tl_monitor.specs.Places.{Place, Here, Out, away_of}
use Rattle.tl_monitor.specs.Boxes.{away_at, first_out}
use Rattle.tl_monitor.proofs.PlaceLemmas.{away_there}
use Rattle.tl_monitor.proofs.NumberLemmas.{own_number, number_exact, turned}

cond_away : (b : Bool) (p : Place) (o : Option Place) → option_and_then away_of (cond b (Some p) o) ≡ cond b (away_of p) (option_and_then away_of o)
cond_away true p o = refl
cond_away false p o = refl

both_none : {X : Type 0} (b : Bool) (o : Option X) → cond b o o ≡ o
both_none true o = refl
both_none false o = refl

-- One that is not out hides none.
past_here : (m : ℕ) (e : ℕ × Place) (es : List (ℕ × Place)) → away_of e.1 ≡ None → away_at m es ≡ None → away_at m (e ∷ es) ≡ None
past_here m e es here rest =
    cond_away (is_at (nat_cmp m) e.0) e.1 (lookup (is_at (nat_cmp m)) es)
    ∙ ap (λ o. cond (is_at (nat_cmp m) e.0) o (away_at m es)) here
    ∙ ap (λ o. cond (is_at (nat_cmp m) e.0) None o) rest
    ∙ both_none (is_at (nat_cmp m) e.0) None

pub none_out : (m : ℕ) (slots : List (ℕ × Place)) → first_out slots ≡ None → away_at m slots ≡ None
none_out m [] h = refl
none_out m ((n, Here held) ∷ es) h = past_here m (n, Here held) es refl (none_out m es h)
none_out m ((n, Out away) ∷ es) h = absurd (let never : Some n ≡ None = h in cc)

-- A number that is found after another is above it.
behind : (k n : ℕ) (es : List (ℕ × Place)) (p : Place) → AllByRecursion (λ y. nat_cmp k y ≡ Less) (keys_of es) → lookup (is_at (nat_cmp n)) es ≡ Some p → nat_cmp k n ≡ Less
behind k n [] p all h = cc
behind k n (e ∷ es) p all h = go (behind k n es p all.1) (is_at (nat_cmp n) e.0) refl h
  where
    go : (lookup (is_at (nat_cmp n)) es ≡ Some p → nat_cmp k n ≡ Less) → (b : Bool) → is_at (nat_cmp n) e.0 ≡ b → cond b (Some e.1) (lookup (is_at (nat_cmp n)) es) ≡ Some p → nat_cmp k n ≡ Less
    go later true t g = subst (λ x. nat_cmp k x ≡ Less) (sym (number_exact n e.0 t)) all.0
    go later false t g = later g

below : (m n : ℕ) → m < n → nat_cmp m n ≡ Less
below m n h = grind (arith, nat_tests)

abbrev IsLowest : ℕ → List (ℕ × Place) → Type 0
IsLowest n slots = ((away : Away) × (away_at n slots ≡ Some away)) × ((m : ℕ) → m < n → away_at m slots ≡ None)

pub lowest : (n : ℕ) (slots : List (ℕ × Place)) → IsStrictlySortedBy nat_cmp (keys_of slots) → first_out slots ≡ Some n → IsLowest n slots
lowest n [] order h = cc
lowest n ((k, Here held) ∷ es) order h = go (lowest n es (sorted_tail nat_cmp k (keys_of es) order) h)
  where
    go : IsLowest n es → IsLowest n ((k, Here held) ∷ es)
    go rest =
        let there : lookup (is_at (nat_cmp n)) es ≡ Some (Out rest.0.0) = away_there (lookup (is_at (nat_cmp n)) es) rest.0.0 rest.0.1 in
        let less : nat_cmp k n ≡ Less = behind k n es (Out rest.0.0) (sorted_head nat_cmp k (keys_of es) order) there in
        let other : is_at (nat_cmp n) k ≡ false = turned n k ∙ ap is_eq less in (
          (rest.0.0, ap (λ b. option_and_then away_of (cond b (Some (Here held)) (lookup (is_at (nat_cmp n)) es))) other ∙ rest.0.1),
          λ m lower. past_here m (k, Here held) es refl (rest.1 m lower),
        )
lowest n ((k, Out away) ∷ es) order h = subst (λ x. IsLowest x ((k, Out away) ∷ es)) same found
  where
    same : k ≡ n
    same = cc

    found : IsLowest k ((k, Out away) ∷ es)
    found = (
      (away, ap (λ b. option_and_then away_of (cond b (Some (Out away)) (lookup (is_at (nat_cmp k)) es))) (own_number k)),
      λ m lower. ap (option_and_then away_of) (lookup-none (is_at (nat_cmp m)) ((k, Out away) ∷ es) (none_below_head nat_cmp_total m (k, Out away) es order (below m k lower))),
    )
