-- Counts of the keys that pass a test.
use Rattle.std.proofs.Common.{◌≡◌, ℕ, zero, suc, ◌+◌, ◌-◌, ◌<◌, ◌≤◌, ◌==◌, Bool, true, false, refl, ap, ◌∙◌, arith}
use Rattle.std.proofs.lemmas.Bool.Decides.{nat_tests}
use Rattle.tl_definitions.specs.OpenTables.{one_if}
use Rattle.tl_midway.specs.CountedTable.{keys_passing}

same_number : (a b : ℕ) → (a == b) ≡ true → a ≡ b
same_number a b h = grind (arith, nat_tests)

below_last : (key n : ℕ) → key < suc n → (key == n) ≡ false → key < n
below_last key n below h = grind (arith, nat_tests)

not_below : (key n k : ℕ) → key ≡ n → k < n → (key == k) ≡ false
not_below key n k is less = grind (arith, nat_tests)

-- Tests that agree below the number.
pub count_alike : (test other : ℕ → Bool) (n : ℕ) → ((k : ℕ) → k < n → test k ≡ other k) → keys_passing test n ≡ keys_passing other n
unfolding keys_passing
count_alike test other zero f = refl
count_alike test other (suc n) f =
    let rest = count_alike test other n (λ k below. f k (omega arith)) in
    ap (λ b. one_if b + keys_passing test n) (f n (omega arith)) ∙ ap (λ c. one_if (other n) + c) rest

pub count_none : (test : ℕ → Bool) (n : ℕ) → ((k : ℕ) → test k ≡ false) → keys_passing test n ≡ 0
unfolding keys_passing
count_none test zero f = refl
count_none test (suc n) f = ap (λ b. one_if b + keys_passing test n) (f n) ∙ ap (λ c. 0 + c) (count_none test n f)

-- A key that passes counts.
pub count_one : (test : ℕ → Bool) (n key : ℕ) → key < n → one_if (test key) ≤ keys_passing test n
unfolding keys_passing
count_one test zero key below = absurd (omega arith)
count_one test (suc n) key below =
    elim (key == n) as (λ b. (key == n) ≡ b → one_if (test key) ≤ one_if (test n) + keys_passing test n) [
      | true ↦ λ e. (let is : key ≡ n = same_number key n e in let same : one_if (test key) ≡ one_if (test n) = ap (λ k. one_if (test k)) is in omega arith)
      | false ↦ λ e. (let less : key < n = below_last key n below e in let rest = count_one test n key less in omega arith)
    ] refl

-- One key's answer changes.
pub count_changed : (old new : ℕ → Bool) (n key : ℕ) → key < n → ((k : ℕ) → (key == k) ≡ false → new k ≡ old k)
    → keys_passing new n ≡ one_if (new key) + (keys_passing old n - one_if (old key))
unfolding keys_passing
count_changed old new zero key below f = absurd (omega arith)
count_changed old new (suc n) key below f =
    elim (key == n) as (λ b. (key == n) ≡ b → one_if (new n) + keys_passing new n ≡ one_if (new key) + (one_if (old n) + keys_passing old n - one_if (old key))) [
      | true ↦ λ e. (let is : key ≡ n = same_number key n e in
          let rest : keys_passing new n ≡ keys_passing old n = count_alike new old n (λ k less. f k (not_below key n k is less)) in
          let here : one_if (new key) ≡ one_if (new n) = ap (λ k. one_if (new k)) is in
          let was : one_if (old key) ≡ one_if (old n) = ap (λ k. one_if (old k)) is in
          omega arith)
      | false ↦ λ e. (let less : key < n = below_last key n below e in
          let rest = count_changed old new n key less f in
          let some = count_one old n key less in
          let last : one_if (new n) ≡ one_if (old n) = ap one_if (f n e) in
          omega arith)
    ] refl

-- Where there is a count, some key passes.
pub count_some : (test : ℕ → Bool) (n : ℕ) → 0 < keys_passing test n → (key : ℕ) × (test key ≡ true)
unfolding keys_passing
count_some test zero more = absurd (omega arith)
count_some test (suc n) more =
    elim (test n) as (λ b. test n ≡ b → 0 < one_if b + keys_passing test n → (key : ℕ) × (test key ≡ true)) [
      | true ↦ λ e h. (n, e)
      | false ↦ λ e h. count_some test n (omega arith)
    ] refl more
