-- A line that differs from another in its cycle alone.
use Rattle.std.proofs.Common.{◌≡◌, ℕ, eqb, true, false, Bor, Option, None, length, take, drop, List, ◌∷◌, ◌++◌, [], Some, sym, ap, ◌∙◌, append_assoc}
use Rattle.std.specs.Prelude.{IfSome, MatchOption, ◌+◌}
use Rattle.std.specs.Cmp.Lexicographic.{pointwise}
use Rattle.std.proofs.lemmas.Bool.Decides.{Decides-eqb}
use Rattle.std.proofs.lemmas.Slice.Eq.{strip_prefix_is}
use Rattle.tl_text.specs.Words.{ended}
use Rattle.tl_text.specs.Numbers.{numeral}
use Rattle.tl_beats.specs.declared.Beat.{Beat}
use Rattle.tl_beats.specs.Beats.{IsWellFormed}
use Rattle.tl_beats.specs.Text.{beat_text}
use Rattle.tl_beats.specs.Fronts.{after_cycle, IsFrontLine}
use Rattle.tl_beats.specs.declared.front_line.FrontLine.{FrontLine}

-- what stands after the cycle is the line's, and then the rest
pub spells : (b : Beat) (n : ℕ) (text words rest : List ℕ) → b.cycle ≡ n → text ≡ numeral 10 n ++ 32 ∷ words → words ≡ ended (after_cycle b) ++ rest → text ≡ beat_text b ++ 10 ∷ rest
unfolding beat_text
spells b n text words rest n_is is w_is =
    let tail : words ≡ after_cycle b ++ 10 ∷ rest = w_is ∙ append_assoc (after_cycle b) (10 ∷ []) rest in
    let whole : text ≡ numeral 10 b.cycle ++ 32 ∷ (after_cycle b ++ 10 ∷ rest) = is ∙ ap (λ (m : ℕ). numeral 10 m ++ 32 ∷ words) (sym n_is) ∙ ap (λ (l : List ℕ). numeral 10 b.cycle ++ 32 ∷ l) tail in
    whole ∙ sym (append_assoc (numeral 10 b.cycle) (32 ∷ after_cycle b) (10 ∷ rest))

-- a front that was taken away stood there
pub front_taken : (text front : List ℕ) (found : Option (Bor (List ℕ)))
    → MatchOption found (pointwise eqb (take (length front) text) front ≡ false) (λ x. (pointwise eqb (take (length front) text) front ≡ true) × (x.now ≡ drop (length front) text) × (length x.now + length front ≡ length text))
    → IfSome found (λ x. text ≡ front ++ x.now)
front_taken text front None cases = tt
front_taken text front (Some x) cases = strip_prefix_is Decides-eqb text front (Some x) cases

-- the same of what is found
pub found_spells : {X : Type 0} (beat : X → Beat) (rest : X → List ℕ) (found : Option X) (n : ℕ) (text words : List ℕ) → text ≡ numeral 10 n ++ 32 ∷ words → IfSome found (λ x. (beat x).cycle ≡ n)
    → IfSome found (λ x. words ≡ ended (after_cycle (beat x)) ++ rest x) → IfSome found (λ x. text ≡ beat_text (beat x) ++ 10 ∷ rest x)
found_spells beat rest None n text words is n_is w_is = tt
found_spells beat rest (Some x) n text words is n_is w_is = spells (beat x) n text words (rest x) n_is is w_is

pub found_formed : {X : Type 0} (line : X → FrontLine) (found : Option X) → IfSome found (λ x. IsFrontLine (line x)) → IfSome found (λ x. IsWellFormed (line x).beat)
found_formed line None is = tt
found_formed line (Some x) is = is.formed
