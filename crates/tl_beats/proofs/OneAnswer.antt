-- Parts have one answer.
use Rattle.std.proofs.Common.{◌≡◌, ℕ, zero, suc, ◌+◌, ◌<◌, ◌≤◌, List, [], ◌∷◌, ◌++◌, get_or, take, drop, Some, Result, Ok, Err, refl, sym, ap, subst, ◌∙◌, arith, inl, inr}
use Rattle.std.specs.Prelude.{slice_get}
use Rattle.std.proofs.lemmas.Bool.{cases_lt}
use Rattle.std.proofs.lemmas.List.{take-append-drop}
use Rattle.std.proofs.lemmas.Option.{none-some, same_Some, get_or_from_slice_get, slice_get_within}
use Rattle.std.proofs.Math.Seq.{drop-cons}
use Rattle.tl_beats.specs.declared.Beat.{Beat}
use Rattle.tl_beats.specs.declared.fault.FragmentFault.{FragmentFault}
use Rattle.tl_beats.specs.Beats.{IsWellFormed}
use Rattle.tl_beats.specs.Fragments.{Frag, AreBeats}
use Rattle.tl_beats.specs.Parts.{IsFaultOf, IsFirstFault, IsAnswerTo}
use Rattle.tl_beats.specs.Reading.{placed_at}
use Rattle.tl_beats.proofs.Growing.{IsNext}
use Rattle.tl_beats.proofs.FragmentTexts.{ok-err, at_seam, placed_again}

-- ---- a beat of a fragment has no fault

good_at : (first last i : ℕ) (beats : List Beat) (b : Beat) → AreBeats first last beats → slice_get beats i ≡ Some b → IsNext first last (take i beats) b × IsWellFormed b
good_at first last i beats b kept at =
    let here : get_or beats i b ≡ b = get_or_from_slice_get beats i b b at in
    let behind : drop i beats ≡ b ∷ drop (suc i) beats = drop-cons beats i b (slice_get_within beats i b at) ∙ ap (λ (x : Beat). x ∷ drop (suc i) beats) here in
    let split : beats ≡ take i beats ++ b ∷ drop (suc i) beats = sym (take-append-drop i beats) ∙ ap (λ (l : List Beat). take i beats ++ l) behind in
    at_seam first last (take i beats) (drop (suc i) beats) b (subst (AreBeats first last) split kept)

no_fault : (first last n i : ℕ) (beats : List Beat) (b : Beat) (found : FragmentFault) → AreBeats first last beats → slice_get beats i ≡ Some b → IsFaultOf first last n (take i beats) b found → ⊥
no_fault first last n i beats b found kept at (inl bad) = bad.0 (good_at first last i beats b kept at).1
no_fault first last n i beats b found kept at (inr bad) = ok-err b found (sym (placed_again first last n (take i beats) b (good_at first last i beats b kept at).0) ∙ bad.1)

-- ---- the first fault is one

take_front : (i j : ℕ) (xs : List Beat) → i < j → take i (take j xs) ≡ take i xs
take_front zero j xs lt = refl
take_front (suc i) zero xs lt = absurd (omega arith)
take_front (suc i) (suc j) [] lt = refl
take_front (suc i) (suc j) (x ∷ xs) lt = ap (λ (l : List Beat). x ∷ l) (take_front i j xs (omega arith))

get_front : (i j : ℕ) (xs : List Beat) (b : Beat) → i < j → slice_get xs i ≡ Some b → slice_get (take j xs) i ≡ Some b
get_front i zero xs b lt at = absurd (omega arith)
get_front zero (suc j) [] b lt at = absurd (none-some b at)
get_front (suc i) (suc j) [] b lt at = absurd (none-some b at)
get_front zero (suc j) (x ∷ xs) b lt at = at
get_front (suc i) (suc j) (x ∷ xs) b lt at = get_front i j xs b (omega arith) at

not_before : (first last n i j : ℕ) (beats : List Beat) (b : Beat) (found : FragmentFault) → i < j → AreBeats first last (take j beats) → slice_get beats i ≡ Some b → IsFaultOf first last n (take i beats) b found → ⊥
not_before first last n i j beats b found lt kept at bad =
    no_fault first last n i (take j beats) b found kept (get_front i j beats b lt at) (subst (λ (l : List Beat). IsFaultOf first last n l b found) (sym (take_front i j beats lt)) bad)

same_err : (e f : FragmentFault) (r : Result Beat FragmentFault) → r ≡ Err e → r ≡ Err f → e ≡ f
same_err e f r is also = cc

same_fault : (first last n : ℕ) (before : List Beat) (b : Beat) (e f : FragmentFault) → IsFaultOf first last n before b e → IsFaultOf first last n before b f → e ≡ f
same_fault first last n before b e f (inl x) (inl y) = x.1 ∙ sym y.1
same_fault first last n before b e f (inl x) (inr y) = absurd (x.0 y.0)
same_fault first last n before b e f (inr x) (inl y) = absurd (y.0 x.0)
same_fault first last n before b e f (inr x) (inr y) = same_err e f (placed_at first last n before b) x.1 y.1

same_place : (first last i : ℕ) (beats : List Beat) (b c : Beat) (e f : FragmentFault) → slice_get beats i ≡ Some b → slice_get beats i ≡ Some c
    → IsFaultOf first last (i + 2) (take i beats) b e → IsFaultOf first last (i + 2) (take i beats) c f → e ≡ f
same_place first last i beats b c e f at also x y =
    let same : c ≡ b = same_Some c b (sym also ∙ at) in
    same_fault first last (i + 2) (take i beats) b e f x (subst (λ (z : Beat). IsFaultOf first last (i + 2) (take i beats) z f) same y)

one_fault : (first last : ℕ) (beats : List Beat) (e f : FragmentFault) → IsFirstFault first last beats e → IsFirstFault first last beats f → e ≡ f
one_fault first last beats e f (i, b, at, kept, x) (j, c, also, more, y) = elim (cases_lt i j) [
  | inl lt ↦ absurd (not_before first last (i + 2) i j beats b e lt more at x)
  | inr ge ↦ elim (cases_lt j i) [
    | inl lt ↦ absurd (not_before first last (j + 2) j i beats c f lt kept also y)
    | inr le ↦
        let same : j ≡ i = omega (arith, ge, le) in
        let moved : (slice_get beats i ≡ Some c) × IsFaultOf first last (i + 2) (take i beats) c f = subst (λ (k : ℕ). (slice_get beats k ≡ Some c) × IsFaultOf first last (k + 2) (take k beats) c f) same (also, y) in
        same_place first last i beats b c e f at moved.0 x moved.1
  ]
]

-- ---- the answer

ok_alone : (parts : Frag) (found : FragmentFault) → parts.first ≤ parts.last → AreBeats parts.first parts.last parts.beats → IsAnswerTo parts (Err found) → ⊥
ok_alone parts found order kept (inl backwards) = omega (arith, order, backwards.0)
ok_alone parts found order kept (inr (forwards, (i, b, at, front, x))) = no_fault parts.first parts.last (i + 2) i parts.beats b found kept at x

err_alone : (parts : Frag) (e f : FragmentFault) → IsAnswerTo parts (Err e) → IsAnswerTo parts (Err f) → e ≡ f
err_alone parts e f (inl x) (inl y) = x.1 ∙ sym y.1
err_alone parts e f (inl x) (inr y) = absurd (omega (arith, x.0, y.0))
err_alone parts e f (inr x) (inl y) = absurd (omega (arith, x.0, y.0))
err_alone parts e f (inr x) (inr y) = one_fault parts.first parts.last parts.beats e f x.1 y.1

pub one_answer : (parts : Frag) (r s : Result Frag FragmentFault) → IsAnswerTo parts r → IsAnswerTo parts s → r ≡ s
one_answer parts (Ok f) (Ok g) x y = ap Ok (x.0 ∙ sym y.0)
one_answer parts (Ok f) (Err e) x y = absurd (ok_alone parts e x.1 x.2 y)
one_answer parts (Err e) (Ok f) x y = absurd (ok_alone parts e y.1 y.2 x)
one_answer parts (Err e) (Err f) x y = ap Err (err_alone parts e f x y)
