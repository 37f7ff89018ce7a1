-- Words one after another.
use Rattle.std.proofs.Common.{◌≡◌, ℕ, zero, suc, ◌+◌, ◌<◌, List, [], ◌∷◌, ◌++◌, length, map, take, get_or, refl, sym, ap, ◌∙◌, append_assoc, arith, add-one}
use Rattle.std.proofs.Math.Seq.{take-suc}
use Rattle.std.specs.List.{join_with_byte}
use Rattle.tl_text.specs.declared.writing.Word.{Word}
use Rattle.tl_text.specs.Spelled.{word_text}

join_more : (w : Word) (words : List Word) (last : Word) → join_with_byte 32 (map word_text ((w ∷ words) ++ last ∷ [])) ≡ join_with_byte 32 (map word_text (w ∷ words)) ++ 32 ∷ word_text last
join_more w [] last = refl
join_more w (v ∷ words) last = ap (λ (l : List ℕ). word_text w ++ 32 ∷ l) (join_more v words last) ∙ sym (append_assoc (word_text w) (32 ∷ join_with_byte 32 (map word_text (v ∷ words))) (32 ∷ word_text last))

some_front : (i : ℕ) (words : List Word) → 0 < i → i < length words → (w : Word) × (front : List Word) × (take i words ≡ w ∷ front)
some_front (suc i) (w ∷ words) pos lt = (w, take i words, refl)
some_front (suc i) [] pos lt = absurd (omega arith)
some_front zero words pos lt = absurd (omega arith)

joined_from : (front : List Word) (w : Word) (ws : List Word) (last : Word) → front ≡ w ∷ ws → join_with_byte 32 (map word_text (front ++ last ∷ [])) ≡ join_with_byte 32 (map word_text front) ++ 32 ∷ word_text last
joined_from front w ws last e = rw e (join_more w ws last)

-- the first word, or one more after a space
pub joined_next : (i : ℕ) (words : List Word) (d : Word) (old new : List ℕ) → i < length words → old ≡ join_with_byte 32 (map word_text (take i words))
    → (i ≡ 0 → new ≡ old ++ word_text (get_or words i d)) → (0 < i → new ≡ old ++ 32 ∷ word_text (get_or words i d)) → new ≡ join_with_byte 32 (map word_text (take (i + 1) words))
joined_next zero [] d old new lt is first behind = absurd (omega arith)
joined_next zero (w ∷ words) d old new lt is first behind = first refl ∙ ap (λ (l : List ℕ). l ++ word_text w) is
joined_next (suc i) words d old new lt is first behind =
    let front = some_front (suc i) words (omega arith) lt in
    let one : take (suc (suc i)) words ≡ take (suc i) words ++ get_or words (suc i) d ∷ [] = take-suc words (suc i) d lt in
    behind (omega arith) ∙ ap (λ (l : List ℕ). l ++ 32 ∷ word_text (get_or words (suc i) d)) is ∙ sym (joined_from (take (suc i) words) front.0 front.1 (get_or words (suc i) d) front.2) ∙ rw (add-one, one) refl
