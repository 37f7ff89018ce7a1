-- A beat that was read at the front of the lines.
use Rattle.std.proofs.Common.{◌≡◌, ℕ, ◌+◌, List, [], ◌∷◌, ◌++◌, Option, Some, Result, Ok, Err, length, refl, sym, ap, subst, ◌∙◌, arith}
use Rattle.std.proofs.lemmas.List.{length-append}
use Rattle.tl_text.specs.Words.{before_stop, lines_of, first_line}
use Rattle.tl_text.specs.Readings.{Fails}
use Rattle.tl_text.proofs.Cuts.{cut_again, line_first}
use Rattle.tl_beats.specs.declared.Beat.{Beat}
use Rattle.tl_beats.specs.declared.fault.FragmentFault.{FragmentFault}
use Rattle.tl_beats.specs.Beats.{IsWellFormed}
use Rattle.tl_beats.specs.Fragments.{AreBeats}
use Rattle.tl_beats.specs.Faults.{is_memory}
use Rattle.tl_beats.specs.Reading.{placed_at, next_at, beats_from}
use Rattle.tl_beats.specs.Text.{beat_text}
use Rattle.tl_beats.proofs.BeatTexts.{beat_again, beat_line}
use Rattle.tl_beats.proofs.FragmentTexts.{end_is_no_beat}
use Rattle.tl_beats.proofs.Growing.{grown}
use Rattle.tl_beats.proofs.Lines.{goes_on, fails}

first_spelled : (b : Beat) (text rest : List ℕ) → IsWellFormed b → text ≡ beat_text b ++ 10 ∷ rest → first_line (lines_of text) ≡ Some (beat_text b, lines_of rest)
first_spelled b text rest formed is =
    let found : ◌≡◌ {A = Option (List ℕ × List ℕ)} (Some (beat_text b, rest)) (before_stop 10 text) = rw (is, cut_again 10 (beat_text b) rest (beat_line b formed)) refl in
    sym (line_first (λ (x : List ℕ × List ℕ). x) text (Some (beat_text b, rest)) found)

next_spelled : (first last n : ℕ) (before : List Beat) (b : Beat) → IsWellFormed b → next_at first last n before (beat_text b) ≡ placed_at first last n before b
unfolding next_at
next_spelled first last n before b formed = rw (beat_again b formed) refl

pub front_goes_on : (first last n : ℕ) (before : List Beat) (text rest : List ℕ) (b beat : Beat) → IsWellFormed b → text ≡ beat_text b ++ 10 ∷ rest → Ok beat ≡ placed_at first last n before b
    → beats_from first last n before (lines_of text) ≡ beats_from first last (n + 1) (before ++ beat ∷ []) (lines_of rest)
front_goes_on first last n before text rest b beat formed is placed =
    goes_on first last n before (lines_of text) (beat_text b) (lines_of rest) beat (first_spelled b text rest formed is) (end_is_no_beat b formed) (next_spelled first last n before b formed ∙ sym placed)

pub front_fails : (first last n : ℕ) (before : List Beat) (text rest : List ℕ) (b : Beat) (found : FragmentFault) → IsWellFormed b → text ≡ beat_text b ++ 10 ∷ rest → Err found ≡ placed_at first last n before b
    → Fails is_memory found (beats_from first last n before (lines_of text))
front_fails first last n before text rest b found formed is placed =
    fails first last n before (lines_of text) (beat_text b) (lines_of rest) found (first_spelled b text rest formed is) (end_is_no_beat b formed) (λ m. next_spelled first last n before b formed ∙ sym placed)

pub front_grows : (first last n : ℕ) (before : List Beat) (b beat : Beat) → AreBeats first last before → IsWellFormed b → Ok beat ≡ placed_at first last n before b → beat ≡ b → AreBeats first last (before ++ beat ∷ [])
front_grows first last n before b beat kept formed placed same = grown first last n before (beat_text b) beat kept (next_spelled first last n before b formed ∙ sym placed) (subst IsWellFormed (sym same) formed)

-- lines are counted from the beats before them
pub counts_on : (first last n : ℕ) (before : List Beat) (beat : Beat) (lines left : List (List ℕ)) → n ≡ length before + 2 → beats_from first last n before lines ≡ beats_from first last (n + 1) (before ++ beat ∷ []) left
    → beats_from first last (length before + 2) before lines ≡ beats_from first last (length (before ++ beat ∷ []) + 2) (before ++ beat ∷ []) left
counts_on first last n before beat lines left is read =
    let more : n + 1 ≡ length (before ++ beat ∷ []) + 2 = omega (arith, is, length-append before (beat ∷ [])) in
    ap (λ (m : ℕ). beats_from first last m before lines) (sym is) ∙ read ∙ ap (λ (m : ℕ). beats_from first last m (before ++ beat ∷ []) left) more

pub counts_fault : (first last n : ℕ) (before : List Beat) (lines : List (List ℕ)) (found : FragmentFault) → n ≡ length before + 2 → Fails is_memory found (beats_from first last n before lines) → Fails is_memory found (beats_from first last (length before + 2) before lines)
counts_fault first last n before lines found is fails = subst (λ (m : ℕ). Fails is_memory found (beats_from first last m before lines)) is fails

-- a fault is the same where reading comes to it later
pub fault_before : (found : FragmentFault) (now then : Result (List Beat × List (List ℕ)) FragmentFault) → now ≡ then → Fails is_memory found now → Fails is_memory found then
fault_before found now then same fails = subst (λ (r : Result (List Beat × List (List ℕ)) FragmentFault). Fails is_memory found r) same fails
