-- A text that is put together another way, and the link of a number.
use Rattle.std.proofs.Common.{◌≡◌, ℕ, zero, suc, List, [], ◌∷◌, map, Some, None, Result, Ok, Err, refl, ◌∙◌}
use Rattle.std.specs.Prelude.{IfOk, String, string_bytes, slice_get, slice_index_or}
use Rattle.std.specs.Option.{option_map}
use Rattle.std.proofs.lemmas.Option.{same_Some}

pub in_words : {Z E : Type 0} (made : Result (String Z) E) (bytes target : List ℕ) → IfOk made (λ text. string_bytes text ≡ bytes) → bytes ≡ target → IfOk made (λ text. string_bytes text ≡ target)
in_words (Ok text) bytes target is e = is ∙ e
in_words (Err fault) bytes target is e = tt

pub block_some : (xs : List (List ℕ × ℕ)) (n e : ℕ) → option_map (λ p. p.1) (slice_get xs n) ≡ Some e → slice_index_or (map (λ p. p.1) xs) n 0 ≡ e
block_some [] n e h = cc
block_some (x ∷ xs) zero e h = same_Some _ _ h
block_some (x ∷ xs) (suc n) e h = block_some xs n e h

pub block_none : (xs : List (List ℕ × ℕ)) (n : ℕ) → option_map (λ p. p.1) (slice_get xs n) ≡ None → slice_index_or (map (λ p. p.1) xs) n 0 ≡ 0
block_none [] n h = refl
block_none (x ∷ xs) zero h = cc
block_none (x ∷ xs) (suc n) h = block_none xs n h
