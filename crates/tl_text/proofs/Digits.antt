-- Numbers digit by digit.
use Rattle.std.proofs.Common.{◌≡◌, ℕ, zero, suc, ◌+◌, ◌-◌, ◌*◌, ◌/◌, ◌%◌, ◌^◌, ◌<◌, ◌≤◌, false, true, cond, eqb, List, [], ◌∷◌, ◌++◌, length, refl, sym, ap, subst, ◌∙◌, arith, inl, inr}
use Rattle.std.specs.Fmt.{digits, digits_onto, digit_glyph}
use Rattle.std.proofs.lemmas.Bool.Decides.{eqb_tells as cases_eqb}
use Rattle.std.proofs.lemmas.Bool.{ne_eqb}
use native.Mathlib.Numerals.{unary_clauses}
use Rattle.std.proofs.Math.Nat.{pow-suc, div-lt_iff_lt-mul, mul-zero, mul-le-mul_right, div-add-mod, pow-le-pow_left, pow-le-pow_right}
use Rattle.tl_text.proofs.Numerals.{one_digit}
use Rattle.tl_text.specs.Numbers.{numeral}

fewer : (base k n : ℕ) → 2 ≤ base → n < base ^ suc k → n / base < base ^ k
fewer base k n two lt = (div-lt_iff_lt-mul {k = base} {x = n} {y = base ^ k} (omega arith)).1 (rw (← pow-suc) lt)

none_left : (base n : ℕ) → 2 ≤ base → n < base ^ 1 → n / base ≡ 0
none_left base n two lt =
    let few = fewer base 0 n two lt in
    let one : base ^ 0 ≡ 1 = simp unary_clauses in
    omega (arith, few, one)

-- one more digit than is used changes nothing
onto_more : (base k n : ℕ) (acc : List ℕ) → 2 ≤ base → n < base ^ suc k → digits_onto (suc (suc k)) base false n acc ≡ digits_onto (suc k) base false n acc
onto_more base zero n acc two lt = rw (none_left base n two lt) refl
onto_more base (suc k) n acc two lt = elim (cases_eqb (n / base) 0) [
  | inl small ↦ rw small.0 refl
  | inr large ↦ rw large.0 (onto_more base k (n / base) (digit_glyph false (n % base) ∷ acc) two (fewer base (suc k) n two lt))
]

onto_enough : (base k j n : ℕ) (acc : List ℕ) → 2 ≤ base → n < base ^ suc k → digits_onto (j + suc k) base false n acc ≡ digits_onto (suc k) base false n acc
onto_enough base k zero n acc two lt =
    let z : 0 + suc k ≡ suc k = omega arith in
    rw z refl
onto_enough base k (suc j) n acc two lt =
    let z : suc j + suc k ≡ suc (suc (j + k)) = omega arith in
    let y : suc (j + k) ≡ j + suc k = omega arith in
    let wide : n < base ^ suc (j + k) = omega (arith, lt, pow-le-pow_right {n = base} (omega arith) {i = suc k} {j = suc (j + k)} (omega arith)) in
    let P : ℕ → Type 0 = λ m. digits_onto m base false n acc ≡ digits_onto (suc k) base false n acc in
    subst P (sym z) (onto_more base (j + k) n acc two wide ∙ subst P (sym y) (onto_enough base k j n acc two lt))

-- what stands after the digits is put after them
onto_behind : (base k n : ℕ) (acc rest : List ℕ) → digits_onto k base false n (acc ++ rest) ≡ digits_onto k base false n acc ++ rest
onto_behind base zero n acc rest = refl
onto_behind base (suc k) n acc rest = elim (eqb (n / base) 0) as (λ t. cond t (digit_glyph false (n % base) ∷ (acc ++ rest)) (digits_onto k base false (n / base) (digit_glyph false (n % base) ∷ (acc ++ rest))) ≡ cond t (digit_glyph false (n % base) ∷ acc) (digits_onto k base false (n / base) (digit_glyph false (n % base) ∷ acc)) ++ rest) [
  | true ↦ refl
  | false ↦ onto_behind base k (n / base) (digit_glyph false (n % base) ∷ acc) rest
]

onto_short : (base k n : ℕ) (acc : List ℕ) → length (digits_onto k base false n acc) ≤ k + length acc
onto_short base zero n acc = omega arith
onto_short base (suc k) n acc = elim (eqb (n / base) 0) as (λ t. length (cond t (digit_glyph false (n % base) ∷ acc) (digits_onto k base false (n / base) (digit_glyph false (n % base) ∷ acc))) ≤ suc k + length acc) [
  | true ↦ omega arith
  | false ↦ omega (arith, onto_short base k (n / base) (digit_glyph false (n % base) ∷ acc))
]

some_left : (base n : ℕ) → 2 ≤ base → base ≤ n → eqb (n / base) 0 ≡ false
some_left base n two more = ne_eqb (n / base) 0 (λ h.
    let whole : base * (n / base) + n % base ≡ n = div-add-mod n base in
    let z : base * (n / base) ≡ 0 = rw (h, mul-zero) refl in
    let below : n % base < base = omega arith in
    absurd (omega (arith, whole, z, below, more)))

pub fewer_left : (base n : ℕ) → 2 ≤ base → base ≤ n → n / base < n
fewer_left base n two more =
    let whole : base * (n / base) + n % base ≡ n = div-add-mod n base in
    let twice : 2 * (n / base) ≤ base * (n / base) = mul-le-mul_right (n / base) two in
    omega (arith, whole, twice, more)

onto_step : (base k n : ℕ) → 2 ≤ base → base ≤ n → n < base ^ suc (suc k)
    → digits_onto (suc (suc k)) base false n [] ≡ digits_onto (suc (suc k)) base false (n / base) [] ++ digit_glyph false (n % base) ∷ []
onto_step base k n two more lt =
    let one : digits_onto (suc (suc k)) base false n [] ≡ digits_onto (suc k) base false (n / base) (digit_glyph false (n % base) ∷ []) = rw (some_left base n two more) refl in
    let same = onto_more base k (n / base) [] two (fewer base (suc k) n two lt) in
    one ∙ onto_behind base (suc k) (n / base) [] (digit_glyph false (n % base) ∷ []) ∙ ap (λ (l : List ℕ). l ++ digit_glyph false (n % base) ∷ []) (sym same)

-- the last digit after the others
pub numeral_step : (base n : ℕ) → 2 ≤ base → base ≤ n → n < 2 ^ 64 → numeral base n ≡ numeral base (n / base) ++ digit_glyph false (n % base) ∷ []
unfolding digits
numeral_step base n two more fits = onto_step base 62 n two more (omega (arith, pow-le-pow_left two 64))

pub numeral_last : (base n : ℕ) → n < base → numeral base n ≡ digit_glyph false n ∷ []
unfolding digits
numeral_last base n lt = one_digit base 63 n [] lt

pub numeral_short : (base k n : ℕ) → 2 ≤ base → k < 64 → n < base ^ suc k → length (numeral base n) ≤ suc k
unfolding digits
numeral_short base k n two few lt =
    let z : (63 - k) + suc k ≡ 64 = omega arith in
    let same : digits_onto ((63 - k) + suc k) base false n [] ≡ digits_onto (suc k) base false n [] = onto_enough base k (63 - k) n [] two lt in
    let all : numeral base n ≡ digits_onto (suc k) base false n [] = rw z at same in
    omega (arith, ap (λ (l : List ℕ). length l) all, onto_short base (suc k) n [])

pub decimal_short : (n : ℕ) → n < 2 ^ 64 → length (numeral 10 n) ≤ 20
decimal_short n fits = numeral_short 10 19 n (omega arith) (omega arith) (omega arith)

pub hexadecimal_short : (n : ℕ) → n < 2 ^ 64 → length (numeral 16 n) ≤ 20
hexadecimal_short n fits = omega (arith, numeral_short 16 15 n (omega arith) (omega arith) (omega arith))
