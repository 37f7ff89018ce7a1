-- A text that is put together another way.
use Rattle.std.proofs.Common.{◌≡◌, ℕ, List, Result, Ok, Err, ◌∙◌}
use Rattle.std.specs.Prelude.{IfOk, String, string_bytes}

pub in_words : {Z E : Type 0} (made : Result (String Z) E) (bytes target : List ℕ) → IfOk made (λ text. string_bytes text ≡ bytes) → bytes ≡ target → IfOk made (λ text. string_bytes text ≡ target)
in_words (Ok text) bytes target is e = is ∙ e
in_words (Err fault) bytes target is e = tt
