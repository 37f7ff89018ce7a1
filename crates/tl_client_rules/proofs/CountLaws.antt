-- Counts are the same where their entries are.
use Rattle.std.proofs.Common.{◌≡◌, ℕ, Option, Some, None, refl, ap, arith}
use Rattle.tl_client_rules.specs.Counts.{count_of}

pub entry_by_count : (one two : Option ℕ) → count_of one ≡ count_of two → one ≡ two
entry_by_count None None h = refl
entry_by_count None (Some y) h = absurd (omega arith)
entry_by_count (Some x) None h = absurd (omega arith)
entry_by_count (Some x) (Some y) h = let e : x ≡ y = omega arith in ap Some e
