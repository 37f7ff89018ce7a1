-- Two numbers are the same or not.
use Rattle.std.proofs.Common.{◌≡◌, ℕ, ◌==◌, true, false, refl, ap, ◌∙◌, arith}
use Rattle.std.proofs.lemmas.Bool.Decides.{nat_tests}
use Rattle.tl_definitions.proofs.LinkLaws.{itself}

pub same_or_not : (n k : ℕ) (P : Type 0) → (n ≡ k → P) → ((n ≡ k → ⊥) → P) → P
same_or_not n k P same other = elim (n == k) as (λ b. (n == k) ≡ b → P) [
  | true ↦ λ e. same (grind (arith, nat_tests))
  | false ↦ λ e. other (λ is. (let yes : (n == k) ≡ true = ap (λ x. x == k) is ∙ itself k in cc))
] refl
