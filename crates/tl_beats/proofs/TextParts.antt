-- The parts of a fragment's text, in the order in which they are written.
use Rattle.std.proofs.Common.{◌≡◌, ℕ, zero, suc, ◌<◌, List, [], ◌∷◌, ◌++◌, length, get_or, map, take, drop, sym, ap, ◌∙◌, append_assoc, arith}
use Rattle.std.specs.Prelude.{codes}
use Rattle.std.specs.List.{flat_map}
use Rattle.std.proofs.lemmas.List.Concat.{flat_map-cons, flat_map-append}
use Rattle.tl_text.specs.Spelled.{line_text}
use Rattle.tl_text.specs.declared.writing.Word.TheVariants.{Decimal}
use Rattle.tl_text.specs.Numbers.{numeral}
use Rattle.tl_text.specs.Words.{◌␣◌, ended}
use Rattle.tl_beats.specs.declared.Beat.{Beat}
use Rattle.tl_beats.specs.Fragments.{Frag}
use Rattle.tl_beats.specs.Text.{beat_text, header_text, fragment_text}

pub header_parts : (f : Frag) → ended (header_text f) ≡ codes "fragment " ++ (f.link ++ (codes " " ++ line_text (Decimal f.number ∷ Decimal f.first ∷ Decimal f.last ∷ [])))
unfolding header_text
header_parts f = ap (λ (l : List ℕ). codes "fragment " ++ l) (append_assoc f.link (32 ∷ (numeral 10 f.number ␣ numeral 10 f.first ␣ numeral 10 f.last)) (10 ∷ []))

pub header_ends : (f : Frag) → ended (header_text f) ≡ ((codes "fragment " ++ f.link) ++ codes " ") ++ line_text (Decimal f.number ∷ Decimal f.first ∷ Decimal f.last ∷ [])
header_ends f = header_parts f ∙ ap (λ (l : List ℕ). codes "fragment " ++ l) (sym (append_assoc f.link (codes " ") (line_text (Decimal f.number ∷ Decimal f.first ∷ Decimal f.last ∷ []))))

pub fragment_parts : (f : Frag) → fragment_text f ≡ ended (header_text f) ++ (flat_map ended (map beat_text f.beats) ++ codes "end\n")
unfolding fragment_text
fragment_parts f = flat_map-cons ended (header_text f) (map beat_text f.beats ++ codes "end" ∷ []) ∙ ap (λ (l : List ℕ). ended (header_text f) ++ l) (flat_map-append ended (map beat_text f.beats) (codes "end" ∷ []))

abbrev pub beats_text : List Beat → List ℕ
beats_text beats = flat_map ended (map beat_text beats)

pub fragment_ends : (f : Frag) → fragment_text f ≡ (ended (header_text f) ++ beats_text f.beats) ++ codes "end\n"
fragment_ends f = fragment_parts f ∙ sym (append_assoc (ended (header_text f)) (beats_text f.beats) (codes "end\n"))

-- the lines before a beat's, its own, and those after
pub beats_parts : (i : ℕ) (beats : List Beat) (d : Beat) → i < length beats → beats_text beats ≡ beats_text (take i beats) ++ (ended (beat_text (get_or beats i d)) ++ beats_text (drop (suc i) beats))
beats_parts i [] d lt = absurd (omega arith)
beats_parts zero (b ∷ beats) d lt = flat_map-cons ended (beat_text b) (map beat_text beats)
beats_parts (suc i) (b ∷ beats) d lt =
    flat_map-cons ended (beat_text b) (map beat_text beats) ∙ ap (λ (l : List ℕ). ended (beat_text b) ++ l) (beats_parts i beats d (omega arith))
    ∙ sym (append_assoc (ended (beat_text b)) (beats_text (take i beats)) (ended (beat_text (get_or beats i d)) ++ beats_text (drop (suc i) beats)))
    ∙ ap (λ (l : List ℕ). l ++ (ended (beat_text (get_or beats i d)) ++ beats_text (drop (suc i) beats))) (sym (flat_map-cons ended (beat_text b) (map beat_text (take i beats))))
