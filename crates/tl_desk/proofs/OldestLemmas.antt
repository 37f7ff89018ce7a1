-- The lowest live ticket among those that are out.
use Rattle.std.proofs.Common.{◌≡◌, ℕ, ◌<◌, ◌≤◌, inl, inr, cond, Bool, true, false, List, [], ◌∷◌, Option, Some, None, refl, sym, ap, subst, ◌∙◌, arith, Less}
use Rattle.std.specs.Prelude.{is_some}
use Rattle.std.specs.Ordering.{nat_cmp}
use Rattle.std.specs.BTreeMap.{is_at}
use Rattle.std.specs.List.{All}
use Rattle.std.specs.List.Sorted.{IsStrictlySortedBy}
use Rattle.std.specs.Map.{keys_of}
use Rattle.std.proofs.lemmas.List.Elements.{All-head, All-tail}
use Rattle.std.proofs.lemmas.Map.Views.{All-after_first}
use Rattle.std.proofs.lemmas.Map.Keys.{sorted_tail}
use Rattle.tl_desk.specs.declared.tickets.Taken.{Taken}
use Rattle.tl_desk.specs.TicketData.{taken_at}
use Rattle.tl_capture.proofs.PresentLemmas.{less_is}
use Rattle.tl_desk.specs.Core.{Core, IsSound}
use Rattle.tl_desk.specs.Jobs.{IsLive, IsOldestLive}
use Rattle.tl_desk.proofs.BoxLemmas.{number_exact, number_self, number_apart, same_number}

-- Of the tickets in order, these are left, and all that are live are among them.
pub record AreLeft (core : Core) (rest : List (ℕ × Taken)) : Type 0 where
  pub order : IsStrictlySortedBy nat_cmp (keys_of rest)
  pub live : (ticket : ℕ) → IsLive core ticket → is_some (taken_at ticket rest) ≡ true
  pub out : (ticket : ℕ) (taken : Taken) → taken_at ticket rest ≡ Some taken → taken_at ticket core.tickets.out ≡ Some taken

found_some : (o : Option Taken) (taken : Taken) → o ≡ Some taken → is_some o ≡ true
found_some o taken is = ap is_some is

pub all_left : (core : Core) → IsSound core → AreLeft core core.tickets.out
all_left core sound = record {
  order = sound.tickets.are.order;
  live = λ ticket live. go ticket live;
  out = λ ticket taken is. is;
}
  where
    go : (ticket : ℕ) → IsLive core ticket → is_some (taken_at ticket core.tickets.out) ≡ true
    go ticket (key, inl live) = let own = sound.tickets.live key ticket live in found_some (taken_at ticket core.tickets.out) own.taken own.is
    go ticket (key, inr live) = let own = sound.tickets.watched key ticket live in found_some (taken_at ticket core.tickets.out) own.taken own.is

-- Those that stand after a number in order are above it.
above : (first ticket : ℕ) (es : List (ℕ × Taken)) → All (λ q. nat_cmp first q ≡ Less) (keys_of es) → is_some (taken_at ticket es) ≡ true → first < ticket
above first ticket [] all found = absurd (let never : false ≡ true = found in cc)
above first ticket ((k, v) ∷ es) all found = go (λ f. above first ticket es (All-tail (λ q. nat_cmp first q ≡ Less) k (keys_of es) all) f) (is_at (nat_cmp ticket) k) refl found
  where
    go : (is_some (taken_at ticket es) ≡ true → first < ticket) → (b : Bool) → is_at (nat_cmp ticket) k ≡ b → is_some (cond b (Some v) (taken_at ticket es)) ≡ true → first < ticket
    go behind true same found = subst (λ t. first < t) (sym (number_exact ticket k same)) (less_is first k (All-head (λ q. nat_cmp first q ≡ Less) k (keys_of es) all))
    go behind false same found = behind found

module _ (core : Core) (first : ℕ) (taken : Taken) (rest : List (ℕ × Taken)) (left : AreLeft core ((first, taken) ∷ rest)) where
  -- The first one is out for its window.
  pub first_out : taken_at first core.tickets.out ≡ Some taken
  first_out = left.out first taken (ap (λ b. cond b (Some taken) (taken_at first rest)) (number_self first))

  -- Where it isn't live, the others are left.
  pub others_left : (IsLive core first → ⊥) → AreLeft core rest
  others_left dead = record {
    order = sorted_tail nat_cmp first (keys_of rest) left.order;
    live = λ ticket live. go ticket live (is_at (nat_cmp ticket) first) refl (left.live ticket live);
    out = λ ticket other is. elim (same_number ticket first) [
      | inl same ↦ absurd (not_again ticket other same is)
      | inr apart ↦ left.out ticket other (ap (λ b. cond b (Some taken) (taken_at ticket rest)) (number_apart ticket first apart) ∙ is)
    ];
  }
    where
      not_again : (ticket : ℕ) (other : Taken) → ticket ≡ first → taken_at ticket rest ≡ Some other → ⊥
      not_again ticket other same is =
          let more : first < ticket = above first ticket rest (All-after_first nat_cmp first (keys_of rest) left.order) (found_some (taken_at ticket rest) other is) in
          omega (arith, same, more)

      go : (ticket : ℕ) → IsLive core ticket → (b : Bool) → is_at (nat_cmp ticket) first ≡ b → is_some (cond b (Some taken) (taken_at ticket rest)) ≡ true → is_some (taken_at ticket rest) ≡ true
      go ticket live true same found = absurd (dead (subst (IsLive core) (number_exact ticket first same) live))
      go ticket live false same found = found

  -- Where it is live, it is the lowest.
  pub first_is_oldest : IsLive core first → IsOldestLive core (Some first)
  first_is_oldest live = (live, λ ticket other. go ticket (is_at (nat_cmp ticket) first) refl (left.live ticket other))
    where
      go : (ticket : ℕ) (b : Bool) → is_at (nat_cmp ticket) first ≡ b → is_some (cond b (Some taken) (taken_at ticket rest)) ≡ true → first ≤ ticket
      go ticket true same found = let is : ticket ≡ first = number_exact ticket first same in omega (arith, is)
      go ticket false same found = let more : first < ticket = above first ticket rest (All-after_first nat_cmp first (keys_of rest) left.order) found in omega (arith, more)

-- Where none is left, none is live.
pub none_left : (core : Core) → AreLeft core [] → IsOldestLive core None
none_left core left ticket live = let never : false ≡ true = left.live ticket live in cc
