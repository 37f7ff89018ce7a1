-- A text that begins with a beat's text and a newline is read as that beat.
use Rattle.std.proofs.Common.{◌≡◌, ℕ, ◌≤◌, List, [], ◌∷◌, ◌++◌, Option, Some, None, refl, sym, ap, ◌∙◌, true, length, get_or, take, drop, ◌-◌, ◌+◌, arith, append_assoc}
use Rattle.std.specs.Prelude.{IfSome}
use Rattle.std.proofs.lemmas.List.{take_all, length-append}
use Rattle.std.proofs.Math.Seq.{take-append_seam}
use Rattle.tl_text.specs.Words.{ended, line_at}
use Rattle.tl_text.proofs.Cuts.{cut_again, is_free}
use Rattle.tl_beats.specs.declared.Beat.{Beat}
use Rattle.tl_beats.specs.Beats.{IsWellFormed}
use Rattle.tl_beats.specs.Text.{chan_text, fields_text, beat_text}
use Rattle.tl_beats.proofs.BeatTexts.{beat_again, beat_line}
use Rattle.tl_beats.specs.Fronts.{after_cycle, beat_line_at}

line_again : (line rest : List ℕ) → is_free 10 line ≡ true → line_at (line ++ 10 ∷ rest) ≡ Some (line, rest)
unfolding line_at
line_again line rest free = rw (cut_again 10 line rest free) refl

pub reads : (b : Beat) (text rest : List ℕ) → IsWellFormed b → text ≡ beat_text b ++ 10 ∷ rest → beat_line_at text ≡ Some (b, rest)
reads b text rest formed is =
    let line = line_again (beat_text b) rest (beat_line b formed) in
    let beat = beat_again b formed in
    rw (is, line, beat) refl

words_are : (words : List ℕ) → 2 ≤ length words → get_or words 1 0 ≡ 32 → words ≡ get_or words 0 0 ∷ 32 ∷ take (length words - 2) (drop 2 words)
words_are [] few is = absurd (omega arith)
words_are (a ∷ []) few is = absurd (omega arith)
words_are (a ∷ b ∷ rest) few is =
    let left : length (a ∷ b ∷ rest) - 2 ≡ length rest = omega arith in
    rw (left, take_all (length rest) rest (omega arith)) (ap (λ (n : ℕ). a ∷ n ∷ rest) is)

-- a channel's letter and its fields, and then the rest
pub joins : (b : Beat) (words rest : List ℕ) → 2 ≤ length words → get_or words 1 0 ≡ 32 → chan_text b.chan ≡ get_or words 0 0 ∷ [] → take (length words - 2) (drop 2 words) ≡ fields_text b.chan b ++ 10 ∷ rest
    → words ≡ ended (after_cycle b) ++ rest
joins b words rest two space n_is f_is =
    let own : List ℕ = fields_text b.chan b in
    let letter : List ℕ = chan_text b.chan in
    let named : words ≡ letter ++ 32 ∷ (own ++ 10 ∷ rest) = words_are words two space ∙ ap (λ (l : List ℕ). get_or words 0 0 ∷ 32 ∷ l) f_is ∙ ap (λ (l : List ℕ). l ++ 32 ∷ (own ++ 10 ∷ rest)) (sym n_is) in
    named ∙ sym (append_assoc letter (32 ∷ own) (10 ∷ rest)) ∙ sym (append_assoc (letter ++ 32 ∷ own) (10 ∷ []) rest)

-- the line alone, without the rest
pub joined : (line words rest : List ℕ) → words ≡ line ++ rest → take (length words - length rest) words ≡ line
joined line words rest is =
    let all : length words ≡ length line + length rest = ap length is ∙ length-append line rest in
    let few : length words - length rest ≡ length line = omega (arith, all) in
    rw (few, is) (take-append_seam line rest)

pub found_reads : {X : Type 0} (beat : X → Beat) (rest : X → List ℕ) (found : Option X) (text : List ℕ) → IfSome found (λ x. IsWellFormed (beat x)) → IfSome found (λ x. text ≡ beat_text (beat x) ++ 10 ∷ rest x)
    → IfSome found (λ x. beat_line_at text ≡ Some (beat x, rest x))
found_reads beat rest None text formed is = tt
found_reads beat rest (Some x) text formed is = reads (beat x) text (rest x) formed is
