-- The windows of a fragment.
use Rattle.std.proofs.Common.{◌≡◌, ℕ, suc, ◌+◌, ◌<◌, ◌≤◌, inl, inr, true, false, cond, List, [], ◌∷◌, ◌++◌, length, get_or, drop, refl, sym, ap, subst, ◌∙◌, arith, append-nil, append_assoc, drop_of_length-le}
use Rattle.std.specs.Prelude.{nat_lt, ◌↔◌}
use Rattle.std.specs.declared.cmp.Ordering.TheVariants.{Less}
use Rattle.std.specs.Ordering.{nat_cmp}
use Rattle.std.specs.List.{Contains}
use Rattle.std.specs.List.Sorted.{IsStrictlySortedBy, IsNonDecreasingBy}
use Rattle.std.proofs.lemmas.List.Sorted.{IsNonDecreasingBy-from_all_adjacent}
use Rattle.std.proofs.lemmas.Bool.Decides.{nat_tests}
use Rattle.tl_beats.specs.declared.Beat.{Beat}
use Rattle.tl_beats.specs.Fragments.{AreBeats}
use Rattle.tl_definitions.proofs.Lists.{contains_none, contains_here, contains_there, contains_cases, all_by}
use Rattle.tl_definitions.proofs.OrderLaws.{below}
use Rattle.tl_capture.specs.Windows.{window_of}
use Rattle.tl_capture.specs.Shares.{windows_from}
use Rattle.tl_capture.proofs.CutLemmas.{rises_up}

window_up : (a b : ℕ) → a ≤ b → window_of a ≤ window_of b
window_up a b h = omega arith

windows_rise : (first last : ℕ) (beats : List Beat) → AreBeats first last beats → IsNonDecreasingBy (λ (b : Beat). window_of b.cycle) beats
windows_rise first last beats are = IsNonDecreasingBy-from_all_adjacent (λ (b : Beat). window_of b.cycle) beats
    (λ k d lt. window_up (get_or beats k d).cycle (get_or beats (k + 1) d).cycle (rises_up (get_or beats k d) (get_or beats (k + 1) d) (are.rising k d lt)))

from_low : (next : ℕ) (beats : List Beat) (w : ℕ) → Contains (windows_from next beats) w → (next ≤ w) × ((b : Beat) × Contains beats b × (window_of b.cycle ≡ w))
from_low next [] w h = absurd (contains_none w h)
from_low next (b ∷ beats) w h = elim (nat_lt (window_of b.cycle) next) as (λ t. nat_lt (window_of b.cycle) next ≡ t
    → Contains (cond t (windows_from next beats) (window_of b.cycle ∷ windows_from (window_of b.cycle + 1) beats)) w → (next ≤ w) × ((c : Beat) × Contains (b ∷ beats) c × (window_of c.cycle ≡ w))) [
      | true ↦ λ e g. (let known = from_low next beats w g in (known.0, (known.1.0, contains_there b beats known.1.0 known.1.1, known.1.2)))
      | false ↦ λ e g. (let low : next ≤ window_of b.cycle = grind (arith, nat_tests) in elim (contains_cases (window_of b.cycle) (windows_from (window_of b.cycle + 1) beats) w g) [
        | inl is ↦ (subst (λ n. next ≤ n) is low, (b, contains_here b beats, is))
        | inr there ↦ (let known = from_low (window_of b.cycle + 1) beats w there in (omega arith, (known.1.0, contains_there b beats known.1.0 known.1.1, known.1.2)))
      ])
    ] refl h

pub from_rise : (next : ℕ) (beats : List Beat) → IsStrictlySortedBy nat_cmp (windows_from next beats)
unfolding IsStrictlySortedBy
from_rise next [] = tt
from_rise next (b ∷ beats) = elim (nat_lt (window_of b.cycle) next) as (λ t. IsStrictlySortedBy nat_cmp (cond t (windows_from next beats) (window_of b.cycle ∷ windows_from (window_of b.cycle + 1) beats))) [
  | true ↦ from_rise next beats
  | false ↦ (
    all_by (λ w. nat_cmp (window_of b.cycle) w ≡ Less) (windows_from (window_of b.cycle + 1) beats) (λ w h.
        let known = from_low (window_of b.cycle + 1) beats w h in let low : window_of b.cycle + 1 ≤ w = known.0 in below (window_of b.cycle) w (omega arith)),
    from_rise (window_of b.cycle + 1) beats,
  )
]

up_tail : (b : Beat) (beats : List Beat) → IsNonDecreasingBy (λ (b : Beat). window_of b.cycle) (b ∷ beats) → IsNonDecreasingBy (λ (b : Beat). window_of b.cycle) beats
up_tail b beats up i j d le lt = up (suc i) (suc j) d (omega arith) (omega arith)

from_has : (next : ℕ) (beats : List Beat) (b : Beat) → IsNonDecreasingBy (λ (b : Beat). window_of b.cycle) beats → Contains beats b → next ≤ window_of b.cycle → Contains (windows_from next beats) (window_of b.cycle)
from_has next [] b up h low = absurd (contains_none b h)
from_has next (a ∷ beats) b up h low = elim (nat_lt (window_of a.cycle) next) as (λ t. nat_lt (window_of a.cycle) next ≡ t
    → Contains (cond t (windows_from next beats) (window_of a.cycle ∷ windows_from (window_of a.cycle + 1) beats)) (window_of b.cycle)) [
      | true ↦ λ e. elim (contains_cases a beats b h) [
        | inl is ↦ (let same : window_of a.cycle ≡ window_of b.cycle = ap (λ (c : Beat). window_of c.cycle) is in absurd (let lt : window_of a.cycle < next = grind (arith, nat_tests) in omega arith))
        | inr there ↦ from_has next beats b (up_tail a beats up) there low
      ]
      | false ↦ λ e. elim (nat_lt (window_of a.cycle) (window_of b.cycle)) as (λ t. nat_lt (window_of a.cycle) (window_of b.cycle) ≡ t → Contains (window_of a.cycle ∷ windows_from (window_of a.cycle + 1) beats) (window_of b.cycle)) [
        | true ↦ λ g. (let lt : window_of a.cycle < window_of b.cycle = grind (arith, nat_tests) in elim (contains_cases a beats b h) [
          | inl is ↦ (let same : window_of a.cycle ≡ window_of b.cycle = ap (λ (c : Beat). window_of c.cycle) is in absurd (omega arith))
          | inr there ↦ contains_there (window_of a.cycle) (windows_from (window_of a.cycle + 1) beats) (window_of b.cycle) (from_has (window_of a.cycle + 1) beats b (up_tail a beats up) there (omega arith))
        ])
        | false ↦ λ g. (let high : window_of b.cycle ≤ window_of a.cycle = grind (arith, nat_tests) in
            let inside : h.0 < length (a ∷ beats) = h.1 in
            let rise : window_of a.cycle ≤ window_of (get_or (a ∷ beats) h.0 b).cycle = up 0 h.0 b (omega arith) inside in
            let at : window_of (get_or (a ∷ beats) h.0 b).cycle ≡ window_of b.cycle = ap (λ (c : Beat). window_of c.cycle) h.2 in
            let same : window_of a.cycle ≡ window_of b.cycle = omega arith in
            subst (Contains (window_of a.cycle ∷ windows_from (window_of a.cycle + 1) beats)) same (contains_here (window_of a.cycle) (windows_from (window_of a.cycle + 1) beats)))
      ] refl
    ] refl

pub are_windows : (first last : ℕ) (beats : List Beat) → AreBeats first last beats → (w : ℕ) → Contains (windows_from 0 beats) w ↔ ((b : Beat) × Contains beats b × (window_of b.cycle ≡ w))
are_windows first last beats are w = (
  (λ h. (from_low 0 beats w h).1),
  (λ h. subst (Contains (windows_from 0 beats)) h.2 (from_has 0 beats h.0 (windows_rise first last beats are) h.1 (omega arith))),
)

-- One beat more.
pub windows_skip : (next i : ℕ) (beats rest : List Beat) (b : Beat) (found all : List ℕ) → rest ≡ b ∷ drop (i + 1) beats → window_of b.cycle < next
    → found ++ windows_from next rest ≡ all → found ++ windows_from next (drop (i + 1) beats) ≡ all
windows_skip next i beats rest b found all is low known =
    let test : nat_lt (window_of b.cycle) next ≡ true = grind (arith, nat_tests) in
    sym (ap (λ bs. found ++ windows_from next bs) is ∙ ap (λ t. found ++ cond t (windows_from next (drop (i + 1) beats)) (window_of b.cycle ∷ windows_from (window_of b.cycle + 1) (drop (i + 1) beats))) test) ∙ known

pub windows_take : (next i : ℕ) (beats rest : List Beat) (b : Beat) (found all : List ℕ) → rest ≡ b ∷ drop (i + 1) beats → next ≤ window_of b.cycle
    → found ++ windows_from next rest ≡ all → (found ++ window_of b.cycle ∷ []) ++ windows_from (window_of b.cycle + 1) (drop (i + 1) beats) ≡ all
windows_take next i beats rest b found all is high known =
    let test : nat_lt (window_of b.cycle) next ≡ false = grind (arith, nat_tests) in
    append_assoc found (window_of b.cycle ∷ []) (windows_from (window_of b.cycle + 1) (drop (i + 1) beats))
    ∙ sym (ap (λ bs. found ++ windows_from next bs) is ∙ ap (λ t. found ++ cond t (windows_from next (drop (i + 1) beats)) (window_of b.cycle ∷ windows_from (window_of b.cycle + 1) (drop (i + 1) beats))) test) ∙ known

pub windows_found : (beats : List Beat) (i next : ℕ) (found all : List ℕ) → length beats ≤ i → found ++ windows_from next (drop i beats) ≡ all → found ≡ all
windows_found beats i next found all past known = sym (append-nil found) ∙ ap (λ bs. found ++ windows_from next bs) (sym (drop_of_length-le beats past)) ∙ known
