-- Texts that are the same by their words of eight bytes.
use Rattle.std.proofs.Common.{◌≡◌, ℕ, ◌+◌, ◌≤◌, List, ◌++◌, length, take, drop, sym, ap, ◌∙◌, arith, take-append-drop, take-take, take-add}
use Rattle.std.proofs.lemmas.List.{take_all, length-drop}
use Rattle.std.specs.Int.{w64, to_le_bytes}

-- the same word is the same bytes
pub same_word : (n m : ℕ) (a b : List ℕ) → n ≡ m → to_le_bytes w64 n ≡ a → to_le_bytes w64 m ≡ b → a ≡ b
same_word n m a b is a_is b_is = sym a_is ∙ ap (to_le_bytes w64) is ∙ b_is

-- one more word
pub same_front : (at : ℕ) (a b : List ℕ) → take at a ≡ take at b → take 8 (drop at a) ≡ take 8 (drop at b) → take (at + 8) a ≡ take (at + 8) b
same_front at a b front word = take-add at 8 a ∙ ap (λ (l : List ℕ). l ++ take 8 (drop at a)) front ∙ ap (λ (l : List ℕ). take at b ++ l) word ∙ sym (take-add at 8 b)

-- the last word, and all that stands before it
pub same_texts : (at last : ℕ) (a b : List ℕ) → last + 8 ≡ length a → length a ≡ length b → last ≤ at → take at a ≡ take at b → take 8 (drop last a) ≡ take 8 (drop last b) → a ≡ b
same_texts at last a b long as_long le front word =
    let before : take last a ≡ take last b = sym (take-take last at a le) ∙ ap (λ (l : List ℕ). take last l) front ∙ take-take last at b le in
    let all_a : take 8 (drop last a) ≡ drop last a = take_all 8 (drop last a) (omega (arith, length-drop last a, long)) in
    let all_b : take 8 (drop last b) ≡ drop last b = take_all 8 (drop last b) (omega (arith, length-drop last b, long, as_long)) in
    let behind : drop last a ≡ drop last b = sym all_a ∙ word ∙ all_b in
    sym (take-append-drop last a) ∙ ap (λ (l : List ℕ). l ++ drop last a) before ∙ ap (λ (l : List ℕ). take last b ++ l) behind ∙ take-append-drop last b
