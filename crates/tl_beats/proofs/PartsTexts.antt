-- Parts of a fragment are answered as their text is.
use Rattle.std.proofs.Common.{◌≡◌, ℕ, zero, suc, ◌+◌, ◌^◌, ◌<◌, ◌≤◌, ◌++◌, inl, inr, true, List, [], ◌∷◌, map, take, Some, None, Result, Ok, Err, refl, sym, ap, subst, ◌∙◌, arith, append_assoc, append-nil}
use Rattle.std.specs.Prelude.{codes, slice_get}
use Rattle.std.specs.List.{All, flat_map}
use Rattle.std.proofs.lemmas.Bool.{and_from}
use Rattle.std.proofs.lemmas.Option.{none-some, same_Some, get_or_from_slice_get, slice_get_within}
use Rattle.tl_text.specs.Words.{lines_of, ended}
use Rattle.tl_text.specs.Names.{is_name}
use Rattle.tl_text.specs.Readings.{◌>>>◌}
use Rattle.tl_text.proofs.Spelling.{all_free, lines_again}
use Rattle.tl_beats.specs.declared.Beat.{Beat}
use Rattle.tl_beats.specs.declared.fault.FragmentFault.{FragmentFault}
use Rattle.tl_beats.specs.declared.fault.FragmentFault.TheVariants as fault
use Rattle.tl_beats.specs.Beats.{IsWellFormed}
use Rattle.tl_beats.specs.Fragments.{Frag, AreBeats, IsFragment}
use Rattle.tl_beats.specs.Parts.{IsFirstFault, IsAnswerTo}
use Rattle.tl_beats.specs.Reading.{placed_at, next_at, beats_from, header_at, fragment_behind, fragment_in, whole_fragment_in}
use Rattle.tl_beats.specs.Text.{beat_text, header_text, fragment_lines, fragment_text}
use Rattle.tl_beats.proofs.BeatTexts.{beat_again, beat_line}
use Rattle.tl_beats.proofs.FragmentTexts.{at_seam, end_is_no_beat, placed_again, header_line, header_again, header_none, whole_again}

-- ---- beats up to the first fault

some_tail : (more : List Beat) (next : List ℕ) (rest : List (List ℕ)) → (x : List ℕ) × (xs : List (List ℕ)) × (map beat_text more ++ codes "end" ∷ next ∷ rest ≡ x ∷ xs)
some_tail [] next rest = (codes "end", next ∷ rest, refl)
some_tail (c ∷ more) next rest = (beat_text c, map beat_text more ++ codes "end" ∷ next ∷ rest, refl)

beats_one : (first last n : ℕ) (before : List Beat) (b : Beat) (tail : List (List ℕ)) (x : List ℕ) (xs : List (List ℕ)) → tail ≡ x ∷ xs → IsWellFormed b
    → beats_from first last n before (beat_text b ∷ tail) ≡ (placed_at first last n before b >>> λ beat. beats_from first last (n + 1) (before ++ beat ∷ []) tail)
unfolding beats_from next_at
beats_one first last n before b tail x xs e formed = rw e (rw (end_is_no_beat b formed, beat_again b formed) refl)

-- a beat's line is read as the beat in its place
at_beat : (first last n : ℕ) (before more : List Beat) (b : Beat) (next : List ℕ) (rest : List (List ℕ)) (r : Result Beat FragmentFault) → IsWellFormed b → placed_at first last n before b ≡ r
    → beats_from first last n before (map beat_text (b ∷ more) ++ codes "end" ∷ next ∷ rest) ≡ (r >>> λ beat. beats_from first last (n + 1) (before ++ beat ∷ []) (map beat_text more ++ codes "end" ∷ next ∷ rest))
at_beat first last n before more b next rest r formed is =
    let tail = some_tail more next rest in
    beats_one first last n before b (map beat_text more ++ codes "end" ∷ next ∷ rest) tail.0 tail.1 tail.2 formed
    ∙ ap (λ (q : Result Beat FragmentFault). q >>> λ beat. beats_from first last (n + 1) (before ++ beat ∷ []) (map beat_text more ++ codes "end" ∷ next ∷ rest)) is

read_fault : (first last n i m : ℕ) (before more all : List Beat) (b : Beat) (found : FragmentFault) (next : List ℕ) (rest : List (List ℕ)) → m ≡ n + i → all ≡ before ++ take i more → All IsWellFormed more → slice_get more i ≡ Some b
    → AreBeats first last all → placed_at first last m all b ≡ Err found → beats_from first last n before (map beat_text more ++ codes "end" ∷ next ∷ rest) ≡ Err found
read_fault first last n zero m before [] all b found next rest line place formed at kept is = absurd (none-some b at)
read_fault first last n (suc i) m before [] all b found next rest line place formed at kept is = absurd (none-some b at)
read_fault first last n zero m before (c ∷ more) all b found next rest line place formed at kept is =
    let same : c ≡ b = same_Some c b at in
    let count : m ≡ n = omega (arith, line) in
    let there : placed_at first last m before b ≡ Err found = subst (λ (l : List Beat). placed_at first last m l b ≡ Err found) (place ∙ append-nil before) is in
    let moved : placed_at first last n before b ≡ Err found = subst (λ (k : ℕ). placed_at first last k before b ≡ Err found) count there in
    let here : placed_at first last n before c ≡ Err found = subst (λ (x : Beat). placed_at first last n before x ≡ Err found) (sym same) moved in
    at_beat first last n before more c next rest (Err found) (formed zero c (omega arith)) here
read_fault first last n (suc i) m before (c ∷ more) all b found next rest line place formed at kept is =
    let seam = at_seam first last before (take i more) c (subst (AreBeats first last) place kept) in
    at_beat first last n before more c next rest (Ok c) seam.1 (placed_again first last n before c seam.0)
    ∙ read_fault first last (n + 1) i m (before ++ c ∷ []) more all b found next rest (omega arith) (place ∙ sym (append_assoc before (c ∷ []) (take i more))) (λ k d lt. formed (suc k) d (omega arith)) at kept is

-- ---- the lines of parts

-- what the types of the parts give
pub record AreParts (parts : Frag) : Type 0 where
  pub named : is_name parts.link ≡ true
  pub number : parts.number < 2 ^ 32
  pub first : parts.first < 2 ^ 64
  pub last : parts.last < 2 ^ 64
  pub formed : All IsWellFormed parts.beats

body_lines : (beats : List Beat) → All IsWellFormed beats → all_free (map beat_text beats ++ codes "end" ∷ []) ≡ true
body_lines [] formed = refl
body_lines (b ∷ beats) formed = and_from _ _ (beat_line b (formed zero b (omega arith))) (body_lines beats (λ k d lt. formed (suc k) d (omega arith)))

lines_free : (parts : Frag) → AreParts parts → all_free (fragment_lines parts) ≡ true
unfolding header_text
lines_free parts are = and_from _ _ (header_line parts.link parts.number parts.first parts.last are.named are.number are.first are.last) (body_lines parts.beats are.formed)

text_lines : (parts : Frag) → AreParts parts → lines_of (fragment_text parts) ≡ header_text parts ∷ (map beat_text parts.beats ++ codes "end" ∷ [] ∷ [])
unfolding fragment_text
text_lines parts are =
    let all : lines_of (flat_map ended (fragment_lines parts) ++ []) ≡ fragment_lines parts ++ lines_of [] = lines_again (fragment_lines parts) [] (lines_free parts are) in
    ap lines_of (sym (append-nil (flat_map ended (fragment_lines parts)))) ∙ all ∙ ap (λ (l : List (List ℕ)). header_text parts ∷ l) (append_assoc (map beat_text parts.beats) (codes "end" ∷ []) ([] ∷ []))

-- ---- the answer

whole_from : (lines : List (List ℕ)) (found : FragmentFault) → fragment_in lines ≡ Err found → whole_fragment_in lines ≡ Err found
unfolding whole_fragment_in
whole_from lines found e = rw e refl

bad_header : (line : List ℕ) (tail : List (List ℕ)) (x : List ℕ) (xs : List (List ℕ)) → tail ≡ x ∷ xs → header_at line ≡ None → fragment_in (line ∷ tail) ≡ Err fault.BadHeader
unfolding fragment_in
bad_header line tail x xs e none = rw e (rw none refl)

good_header : (parts : Frag) (tail : List (List ℕ)) (x : List ℕ) (xs : List (List ℕ)) (found : FragmentFault) → tail ≡ x ∷ xs
    → header_at (header_text parts) ≡ Some (record { link = parts.link; number = parts.number; first = parts.first; last = parts.last })
    → beats_from parts.first parts.last 2 [] tail ≡ Err found → fragment_in (header_text parts ∷ tail) ≡ Err found
unfolding fragment_in fragment_behind
good_header parts tail x xs found e header read = rw e (rw header (rw (rw e at read) refl))

backwards : (parts : Frag) → AreParts parts → parts.last < parts.first → whole_fragment_in (lines_of (fragment_text parts)) ≡ Err fault.BadHeader
unfolding header_text
backwards parts are lt =
    let tail = some_tail parts.beats [] [] in
    let none = header_none parts.link parts.number parts.first parts.last are.named are.number are.first are.last lt in
    ap whole_fragment_in (text_lines parts are) ∙ whole_from _ fault.BadHeader (bad_header (header_text parts) (map beat_text parts.beats ++ codes "end" ∷ [] ∷ []) tail.0 tail.1 tail.2 none)

faulty : (parts : Frag) (found : FragmentFault) → AreParts parts → parts.first ≤ parts.last → IsFirstFault parts.first parts.last parts.beats found → whole_fragment_in (lines_of (fragment_text parts)) ≡ Err found
unfolding header_text
faulty parts found are order (i, beat, at, kept, inl bad) =
    absurd (bad.0 (subst IsWellFormed (get_or_from_slice_get parts.beats i beat beat at) (are.formed i beat (slice_get_within parts.beats i beat at))))
faulty parts found are order (i, beat, at, kept, inr bad) =
    let tail = some_tail parts.beats [] [] in
    let header = header_again parts.link parts.number parts.first parts.last are.named are.number order are.last in
    let read = read_fault parts.first parts.last 2 i (i + 2) [] parts.beats (take i parts.beats) beat found [] [] (omega arith) refl are.formed at kept bad.1 in
    ap whole_fragment_in (text_lines parts are) ∙ whole_from _ found (good_header parts (map beat_text parts.beats ++ codes "end" ∷ [] ∷ []) tail.0 tail.1 found tail.2 header read)

-- parts with well-formed beats are answered as their text is
pub answered_as_text : (parts : Frag) (result : Result Frag FragmentFault) → AreParts parts → IsAnswerTo parts result → result ≡ whole_fragment_in (lines_of (fragment_text parts))
answered_as_text parts (Ok f) are answer =
    let is : IsFragment parts = record { named = are.named; number = are.number; order = answer.1; last = are.last; beats = answer.2 } in
    ap Ok answer.0 ∙ sym (whole_again (fragment_text parts) parts is refl)
answered_as_text parts (Err found) are (inl bad) = ap Err bad.1 ∙ sym (backwards parts are bad.0)
answered_as_text parts (Err found) are (inr bad) = sym (faulty parts found are bad.0 bad.1)
