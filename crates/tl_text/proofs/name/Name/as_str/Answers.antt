use Rattle.std.proofs.Common.{rules, refl, Result, Ok, Err, List, ℕ}
use Rattle.std.specs.Prelude.{MatchResult}
use Rattle.std.specs.Result.{IsOk}
use Rattle.std.specs.Str.{IsUtf8}
use Rattle.std.proofs.lemmas.Str.{IsUtf8-from_ascii}
use Rattle.tl_text.proofs.AsciiNames.{name_ascii}
use Rattle.tl_text.proofs.name.Name.as_str.Goals as goal

decodes : {T E : Type 0} (P : T → Type 0) (Q : E → Type 0) (bytes : List ℕ) (found : Result T E) → MatchResult found P (λ e. ¬ (IsUtf8 bytes) × Q e) → IsUtf8 bytes → IsOk found
decodes P Q bytes (Ok s) cases utf8 = refl
decodes P Q bytes (Err e) cases utf8 = absurd (cases.0 utf8)

pub unwrap-requires : goal.unwrap-requires
unwrap-requires c = decodes _ _ _ c.from_utf8.result c.from_utf8.ensures.cases (IsUtf8-from_ascii _ (name_ascii _ (search rules)))
