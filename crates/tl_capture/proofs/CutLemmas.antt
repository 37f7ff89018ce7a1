-- From where to where the beats of a span stand in a fragment.
use Rattle.std.proofs.Common.{◌≡◌, ℕ, zero, suc, ◌+◌, ◌<◌, ◌≤◌, Bool, true, false, cond, ltb, leb, ◌&&◌, List, [], ◌∷◌, ◌++◌, length, get_or, take, refl, sym, ap, subst, ◌∙◌, arith, append_assoc}
use Rattle.std.specs.Prelude.{filter, nat_lt, nat_le}
use Rattle.std.specs.List.{Contains, AllWithin}
use Rattle.std.specs.List.Sorted.{IsPartitionPoint, IsNonDecreasingBy}
use Rattle.std.proofs.lemmas.Bool.Decides.{nat_tests}
use Rattle.std.proofs.lemmas.List.Elements.{Contains-get_or, filter_more}
use Rattle.std.proofs.lemmas.List.Sorted.{IsNonDecreasingBy-from_all_adjacent}
use Rattle.tl_beats.specs.declared.Beat.{Beat}
use Rattle.tl_beats.specs.declared.Placed.{Placed}
use Rattle.tl_beats.specs.Beats.{rises}
use Rattle.tl_beats.specs.Fragments.{AreBeats}
use Rattle.tl_definitions.specs.Positions.{Recorded, placed_from, placed_beats}
use Rattle.tl_definitions.proofs.Lists.{none_kept}
use Rattle.tl_capture.specs.Spans.{holds}
use Rattle.tl_capture.specs.Windows.{is_within, beats_within}
use Rattle.tl_capture.proofs.PresentLemmas.{placed_at}

-- ---- two partition points

module _ {X : Type 0} where
  -- Where the first test passes, the second does.
  pub points_rise : (p q : X → Bool) (xs : List X) (weaker : (x : X) → Contains xs x → p x ≡ true → q x ≡ true) (i j : ℕ) → i ≤ length xs
      → IsPartitionPoint (λ x. p x ≡ true) (λ x. p x ≡ false) xs i → IsPartitionPoint (λ x. q x ≡ true) (λ x. q x ≡ false) xs j → i ≤ j
  points_rise p q [] weaker i j within first second = let few : i ≤ 0 = within in omega arith
  points_rise p q (x ∷ xs) weaker i j within first second = elim (nat_lt j i) as (λ b. nat_lt j i ≡ b → i ≤ j) [
    | true ↦ λ e. (let lt : j < i = grind (arith, nat_tests) in
        let here : q (get_or (x ∷ xs) j x) ≡ true = weaker (get_or (x ∷ xs) j x) (Contains-get_or (x ∷ xs) j x (omega arith)) (first.0 j x (omega arith) lt) in
        let there : q (get_or (x ∷ xs) j x) ≡ false = second.1 j x (omega arith) (omega arith) in
        let wrong : true ≡ false = sym here ∙ there in cc)
    | false ↦ λ e. grind (arith, nat_tests)
  ] refl

  -- What fails in front is not kept, nor what fails after.
  pub none_in_front : (p : X → Bool) (xs : List X) (n : ℕ) → AllWithin (λ x. p x ≡ false) xs 0 n → filter p (take n xs) ≡ []
  none_in_front p xs zero all = refl
  none_in_front p [] (suc n) all = refl
  none_in_front p (x ∷ xs) (suc n) all =
      ap (λ b. cond b (x ∷ filter p (take n xs)) (filter p (take n xs))) (all 0 x (omega arith) (omega arith))
      ∙ none_in_front p xs n (λ k d low high. all (suc k) d (omega arith) (omega arith))

  pub none_behind : (p : X → Bool) (xs : List X) (n : ℕ) → AllWithin (λ x. p x ≡ false) xs n (length xs) → filter p (take n xs) ≡ filter p xs
  none_behind p [] zero all = refl
  none_behind p [] (suc n) all = refl
  none_behind p (x ∷ xs) zero all = sym (none_kept p (x ∷ xs) (λ y h. subst (λ z. p z ≡ false) h.2 (all h.0 y (omega arith) h.1)))
  none_behind p (x ∷ xs) (suc n) all =
      ap (λ ys. cond (p x) (x ∷ ys) ys) (none_behind p xs n (λ k d low high. all (suc k) d (omega arith) (let lt : k < length xs = high in omega arith)))

  pub one_more : (p : X → Bool) (xs : List X) (i : ℕ) (x : X) → i < length xs → get_or xs i x ≡ x → p x ≡ true → filter p (take (i + 1) xs) ≡ filter p (take i xs) ++ x ∷ []
  one_more p xs i x within is passes =
      filter_more p xs i x within ∙ ap (λ y. filter p (take i xs) ++ cond (p y) (y ∷ []) []) is ∙ ap (λ b. filter p (take i xs) ++ cond b (x ∷ []) []) passes

-- ---- the beats of a fragment

not_below : (a from to : ℕ) → ltb a from ≡ true → (nat_le from a && nat_le a to) ≡ false
not_below a from to h = grind (arith, nat_tests)

not_above : (a from to : ℕ) → leb a to ≡ false → (nat_le from a && nat_le a to) ≡ false
not_above a from to h = grind (arith, nat_tests)

level : (a from to : ℕ) → ltb a from ≡ false → leb a to ≡ true → (nat_le from a && nat_le a to) ≡ true
level a from to g h = grind (arith, nat_tests)

-- From where to where the beats of a span stand.
pub record AreBounds (beats : List Beat) (from to : ℕ) (start end : ℕ) : Type 0 where
  pub order : start ≤ end
  pub within : end ≤ length beats
  pub before : AllWithin (λ b. holds from to b ≡ false) beats 0 start
  pub between : AllWithin (λ b. holds from to b ≡ true) beats start end
  pub behind : AllWithin (λ b. holds from to b ≡ false) beats end (length beats)

below_weaker : (a from to : ℕ) → from ≤ to → ltb a from ≡ true → leb a to ≡ true
below_weaker a from to order h = grind (arith, nat_tests)

pub are_bounds : (beats : List Beat) (from to start end : ℕ) → from ≤ to → start ≤ length beats → end ≤ length beats
    → IsPartitionPoint (λ b. ltb b.cycle from ≡ true) (λ b. ltb b.cycle from ≡ false) beats start
    → IsPartitionPoint (λ b. leb b.cycle to ≡ true) (λ b. leb b.cycle to ≡ false) beats end
    → AreBounds beats from to start end
are_bounds beats from to start end order low high first second = record {
  order = points_rise (λ b. ltb b.cycle from) (λ b. leb b.cycle to) beats (λ b h t. below_weaker b.cycle from to order t) start end low first second;
  within = high;
  before = λ k d at lt. not_below (get_or beats k d).cycle from to (first.0 k d at lt);
  between = λ k d at lt. level (get_or beats k d).cycle from to (first.1 k d at (omega arith)) (second.0 k d (omega arith) lt);
  behind = λ k d at lt. not_above (get_or beats k d).cycle from to (second.1 k d at lt);
}

pub rises_up : (a b : Beat) → rises a b ≡ true → a.cycle ≤ b.cycle
rises_up a b h = grind (arith, nat_tests)

pub cycles_rise : (first last : ℕ) (beats : List Beat) → AreBeats first last beats → IsNonDecreasingBy (λ (b : Beat). b.cycle) beats
cycles_rise first last beats are = IsNonDecreasingBy-from_all_adjacent (λ (b : Beat). b.cycle) beats
    (λ k d lt. rises_up (get_or beats k d) (get_or beats (k + 1) d) (are.rising k d lt))

pub placed_length : (link number line : ℕ) (beats : List Beat) → length (placed_from link number line beats) ≡ length beats
placed_length link number line [] = refl
placed_length link number line (b ∷ beats) = ap suc (placed_length link number (line + 1) beats)

pub placed_get : (link number line : ℕ) (beats : List Beat) (k : ℕ) (d : Placed) (e : Beat) → k < length beats → get_or (placed_from link number line beats) k d ≡ placed_at link number (line + k) (get_or beats k e)
placed_get link number line [] k d e within = absurd (let none : k < 0 = within in omega arith)
placed_get link number line (b ∷ beats) zero d e within = let same : line ≡ line + 0 = omega arith in ap (λ n. placed_at link number n b) same
placed_get link number line (b ∷ beats) (suc k) d e within =
    let same : (line + 1) + k ≡ line + suc k = omega arith in
    placed_get link number (line + 1) beats k d e (let lt : suc k < suc (length beats) = within in omega arith) ∙ ap (λ n. placed_at link number n (get_or beats k e)) same

pub placed_within : (f : Recorded) (from to n m : ℕ) (t : Bool) → m ≤ length f.beats → AllWithin (λ b. holds from to b ≡ t) f.beats n m → AllWithin (λ p. is_within from to p ≡ t) (placed_beats f) n m
placed_within f from to n m t within all k d low high =
    subst (λ p. is_within from to p ≡ t) (sym (placed_get f.link f.number 2 f.beats k d d.beat (omega arith))) (all k d.beat low high)

pub front_of_fragment : (f : Recorded) (from to n : ℕ) → n ≤ length f.beats → AllWithin (λ b. holds from to b ≡ false) f.beats 0 n → beats_within from to (take n (placed_beats f)) ≡ []
front_of_fragment f from to n within all = none_in_front (is_within from to) (placed_beats f) n (placed_within f from to 0 n false within all)

pub all_of_fragment : (f : Recorded) (from to n : ℕ) → AllWithin (λ b. holds from to b ≡ false) f.beats n (length f.beats) → beats_within from to (take n (placed_beats f)) ≡ beats_within from to (placed_beats f)
all_of_fragment f from to n all = none_behind (is_within from to) (placed_beats f) n
    (subst (λ m. AllWithin (λ p. is_within from to p ≡ false) (placed_beats f) n m) (sym (placed_length f.link f.number 2 f.beats))
    (placed_within f from to n (length f.beats) false (omega arith) all))

pub next_of_fragment : (f : Recorded) (from to i line number : ℕ) (beats : List Beat) (d : Beat) (before after old : List Placed) → i < length f.beats → line ≡ i + 2 → number ≡ f.number → beats ≡ f.beats
    → holds from to (get_or f.beats i d) ≡ true → before ≡ old ++ beats_within from to (take i (placed_beats f))
    → after ≡ before ++ placed_at f.link number line (get_or beats i d) ∷ [] → after ≡ old ++ beats_within from to (take (i + 1) (placed_beats f))
next_of_fragment f from to i line number beats d before after old within at of same lies kept put =
    let b : Beat = get_or f.beats i d in
    let p : Placed = placed_at f.link f.number line b in
    let lines : 2 + i ≡ line = omega arith in
    let found : get_or (placed_beats f) i p ≡ p = placed_get f.link f.number 2 f.beats i p d within ∙ ap (λ n. placed_at f.link f.number n b) lines in
    let many = placed_length f.link f.number 2 f.beats in
    let grown = one_more (is_within from to) (placed_beats f) i p (omega arith) found lies in
    put ∙ ap (λ ps. ps ++ placed_at f.link number line (get_or beats i d) ∷ []) kept ∙ ap (λ bs. (old ++ beats_within from to (take i (placed_beats f))) ++ placed_at f.link number line (get_or bs i d) ∷ []) same
    ∙ ap (λ n. (old ++ beats_within from to (take i (placed_beats f))) ++ placed_at f.link n line b ∷ []) of ∙ append_assoc old (beats_within from to (take i (placed_beats f))) (p ∷ [])
    ∙ ap (λ ps. old ++ ps) (sym grown)
