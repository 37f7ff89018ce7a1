-- A word spells the number whose text it is, and no other.
use Rattle.std.proofs.Common.{◌≡◌, ℕ, zero, suc, ◌+◌, ◌-◌, ◌*◌, ◌/◌, ◌%◌, ◌^◌, ◌<◌, ◌≤◌, Bool, true, false, cond, eqb, leb, not, List, [], ◌∷◌, ◌++◌, length, get_or, drop, Option, Some, None, refl, sym, ap, subst, ◌∙◌, arith, inl, inr}
use Rattle.std.specs.Prelude.{IfSome}
use Rattle.std.specs.Fmt.{digits, digits_onto, digit_glyph}
use Rattle.std.proofs.lemmas.Bool.{false≢true, cases_lt, ne_eqb, leb-true, le-leb, lt-leb, and_from}
use Rattle.std.proofs.lemmas.Bool.Decides.{nat_tests, eqb_tells as cases_eqb}
use Rattle.std.proofs.lemmas.Nat.{div-mul-add, mod-mul-add}
use Rattle.std.proofs.lemmas.Option.{none-some, same_Some, cond_some}
use Rattle.std.proofs.lemmas.List.{append-nil, drop_more, drop_all}
use Rattle.std.proofs.Math.Pow.{pow_mono}
use native.Mathlib.Numerals.{unary_clauses}
use Rattle.std.proofs.Math.Nat.{mul-le-mul_left, mul-le-mul_right, mul_assoc, mul_comm, mul-zero, pow-suc, pow-succ', div-add-mod, div-lt_iff_lt-mul, div-eq_of_lt, mod-eq_of_lt, pow-le-pow_left, one-le-pow}
use Rattle.tl_text.proofs.Cuts.{is_free}
use Rattle.tl_text.specs.Words.{◌>>=◌}
use Rattle.tl_text.specs.Numbers.{digit, value_after, is_led, number_at, numeral}

pub digit_ok : (base b d : ℕ) → digit base b ≡ Some d → (d < base) × (digit_glyph false d ≡ b)
unfolding digit
digit_ok base b d e = grind (arith, nat_tests)

pub digit_again : (base d : ℕ) → d < base → base ≤ 16 → digit base (digit_glyph false d) ≡ Some d
unfolding digit
digit_again base d lt small = grind (arith, nat_tests)

pub bind_some : {A B : Type 0} (o : Option A) (f : A → Option B) (y : B) → (o >>= f) ≡ Some y → (x : A) × (o ≡ Some x) × (f x ≡ Some y)
bind_some None f y e = absurd (none-some y e)
bind_some (Some x) f y e = (x, refl, e)

-- the digits so far only grow
pub value_grows : (base n m : ℕ) (bytes : List ℕ) → 2 ≤ base → value_after base n bytes ≡ Some m → n * 2 ^ length bytes ≤ m
unfolding value_after
value_grows base n m [] two e = omega (arith, same_Some n m e)
value_grows base n m (b ∷ bytes) two e =
    let d = bind_some (digit base b) (λ d. value_after base (n * base + d) bytes) m e in
    let more = value_grows base (n * base + d.0) m bytes two d.2 in
    let twice : n * 2 ≤ n * base + d.0 = omega (arith, mul-le-mul_left n two) in
    let step : (n * 2) * 2 ^ length bytes ≤ (n * base + d.0) * 2 ^ length bytes = mul-le-mul_right (2 ^ length bytes) twice in
    rw (pow-succ', ← mul_assoc) (omega (arith, step, more))

-- the digits of a number that bytes spell are these bytes
onto_takes : (base n m k : ℕ) (bytes acc : List ℕ) → 2 ≤ base → 0 < n → value_after base n bytes ≡ Some m → digits_onto (length bytes + k) base false m acc ≡ digits_onto k base false n (bytes ++ acc)
unfolding value_after
onto_takes base n m k [] acc two pos e = let z : 0 + k ≡ k = omega arith in rw (z, same_Some n m e) refl
onto_takes base n m k (b ∷ bytes) acc two pos e =
    let d = bind_some (digit base b) (λ d. value_after base (n * base + d) bytes) m e in
    let glyph = digit_ok base b d.0 d.1 in
    let grown : 0 < n * base + d.0 = omega (arith, mul-le-mul_left n two) in
    let z : suc (length bytes) + k ≡ length bytes + suc k = omega arith in
    let more = onto_takes base (n * base + d.0) m (suc k) bytes acc two grown d.2 in
    let front : eqb ((n * base + d.0) / base) 0 ≡ false = ne_eqb _ 0 (λ h. absurd (omega (arith, h, div-mul-add n base d.0 glyph.0))) in
    let one : digits_onto (suc k) base false (n * base + d.0) (bytes ++ acc) ≡ digits_onto k base false n (b ∷ (bytes ++ acc)) = rw (front, div-mul-add n base d.0 glyph.0, mod-mul-add n base d.0 glyph.0, glyph.1) refl in
    rw z (more ∙ one)

onto_again : (base k n : ℕ) (acc : List ℕ) → 2 ≤ base → base ≤ 16 → n < base ^ k → value_after base 0 (digits_onto k base false n acc) ≡ value_after base n acc
unfolding value_after
onto_again base zero n acc two small lt =
    let one : base ^ 0 ≡ 1 = simp unary_clauses in
    let z : n ≡ 0 = omega (arith, one) in
    rw z refl
onto_again base (suc k) n acc two small lt =
    let below : n % base < base = omega arith in
    let whole : base * (n / base) + n % base ≡ n = div-add-mod n base in
    let last : (m : ℕ) → m * base + n % base ≡ n → value_after base m (digit_glyph false (n % base) ∷ acc) ≡ value_after base n acc = λ m h. rw (digit_again base (n % base) below small, h) refl in
    let fewer : n / base < base ^ k = (div-lt_iff_lt-mul {k = base} {x = n} {y = base ^ k} (omega arith)).1 (rw (← pow-suc) lt) in
    elim (cases_eqb (n / base) 0) [
      | inl small_n ↦ rw small_n.0 (last 0 (let z : base * (n / base) ≡ 0 = rw (small_n.1, mul-zero) refl in omega (arith, whole, z)))
      | inr large_n ↦ rw large_n.0 (onto_again base k (n / base) (digit_glyph false (n % base) ∷ acc) two small fewer ∙ last (n / base) (omega (arith, whole, mul_comm base (n / base))))
    ]

short_by : (len d n : ℕ) → 0 < d → n < 2 ^ 64 → d * 2 ^ len ≤ n → len < 64
short_by len d n pos fits le =
    elim (cases_lt len 64) [
      | inl lt ↦ lt
      | inr ge ↦ absurd (omega (arith, pow_mono ge, mul-le-mul_right (2 ^ len) pos))
    ]

led_zero : (b c : ℕ) (bytes : List ℕ) → b ≡ 48 → is_led (b ∷ c ∷ bytes) ≡ true → ⊥
led_zero b c bytes e led = false≢true (rw (← led, e) refl)

-- the first of several digits is no zero
led_pos : (d b c : ℕ) (bytes : List ℕ) → digit_glyph false d ≡ b → is_led (b ∷ c ∷ bytes) ≡ true → 0 < d
led_pos zero b c bytes glyph led = absurd (led_zero b c bytes (sym glyph) led)
led_pos (suc d) b c bytes glyph led = omega arith

pub one_digit : (base k d : ℕ) (acc : List ℕ) → d < base → digits_onto (suc k) base false d acc ≡ digit_glyph false d ∷ acc
one_digit base k d acc lt = rw (div-eq_of_lt lt, mod-eq_of_lt lt) refl

led_then : (t : Bool) (o : Option ℕ) (n : ℕ) → cond t o None ≡ Some n → (t ≡ true) × (o ≡ Some n)
led_then true o n e = (refl, e)
led_then false o n e = absurd cc

spelled : (base n : ℕ) (word : List ℕ) → 2 ≤ base → n < 2 ^ 64 → is_led word ≡ true → value_after base 0 word ≡ Some n → word ≡ numeral base n
unfolding value_after digits
spelled base n [] two fits led e = absurd cc
spelled base n (b ∷ []) two fits led e =
    let d = bind_some (digit base b) (λ d. value_after base (0 * base + d) []) n e in
    let glyph = digit_ok base b d.0 d.1 in
    let same : d.0 ≡ n = omega (arith, same_Some _ _ d.2) in
    rw (← same, one_digit base 63 d.0 [] glyph.0, glyph.1) refl
spelled base n (b ∷ c ∷ bytes) two fits led e =
    let d = bind_some (digit base b) (λ d. value_after base (0 * base + d) (c ∷ bytes)) n e in
    let glyph = digit_ok base b d.0 d.1 in
    let same : 0 * base + d.0 ≡ d.0 = omega arith in
    let from_d : value_after base d.0 (c ∷ bytes) ≡ Some n = subst (λ (m : ℕ). value_after base m (c ∷ bytes) ≡ Some n) same d.2 in
    let pos : 0 < d.0 = led_pos d.0 b c bytes glyph.1 led in
    let grows = value_grows base d.0 n (c ∷ bytes) two from_d in
    let short : length (c ∷ bytes) < 64 = short_by (length (c ∷ bytes)) d.0 n pos fits grows in
    let k : length (c ∷ bytes) + suc (63 - length (c ∷ bytes)) ≡ 64 = omega arith in
    let all = onto_takes base d.0 n (suc (63 - length (c ∷ bytes))) (c ∷ bytes) [] two pos from_d in
    let front = one_digit base (63 - length (c ∷ bytes)) d.0 ((c ∷ bytes) ++ []) glyph.0 in
    let onto : digits_onto 64 base false n [] ≡ digits_onto (suc (63 - length (c ∷ bytes))) base false d.0 ((c ∷ bytes) ++ []) = subst (λ (m : ℕ). digits_onto m base false n [] ≡ digits_onto (suc (63 - length (c ∷ bytes))) base false d.0 ((c ∷ bytes) ++ [])) k all in
    let end : digit_glyph false d.0 ∷ ((c ∷ bytes) ++ []) ≡ b ∷ c ∷ bytes = rw (glyph.1, append-nil (c ∷ bytes)) refl in
    sym (onto ∙ front ∙ end)

pub number_takes : (base most : ℕ) (word : List ℕ) (n : ℕ) → 2 ≤ base → most < 2 ^ 64 → number_at base most word ≡ Some n → (word ≡ numeral base n) × (n ≤ most)
unfolding number_at
number_takes base most word n two fits e =
    let led = led_then (is_led word) _ n e in
    let v = bind_some (value_after base 0 word) (λ m. cond (leb m most) (Some m) None) n led.1 in
    let last = cond_some (leb v.0 most) v.0 n v.2 in
    let le : v.0 ≤ most = leb-true v.0 most last.0 in
    (rw (← last.1) (spelled base v.0 word two (omega arith) led.0 v.1), omega (arith, last.1))

led_glyph : (d : ℕ) (acc : List ℕ) → 0 < d → d < 16 → is_led (digit_glyph false d ∷ acc) ≡ true
led_glyph d [] pos lt = refl
led_glyph d (c ∷ acc) pos lt = grind (arith, nat_tests)

led_onto : (base k n : ℕ) (acc : List ℕ) → 2 ≤ base → base ≤ 16 → 0 < n → n < base ^ k → is_led (digits_onto k base false n acc) ≡ true
led_onto base zero n acc two small pos lt =
    let one : base ^ 0 ≡ 1 = simp unary_clauses in
    absurd (omega (arith, one))
led_onto base (suc k) n acc two small pos lt =
    let below : n % base < base = omega arith in
    let whole : base * (n / base) + n % base ≡ n = div-add-mod n base in
    let fewer : n / base < base ^ k = (div-lt_iff_lt-mul {k = base} {x = n} {y = base ^ k} (omega arith)).1 (rw (← pow-suc) lt) in
    elim (cases_eqb (n / base) 0) [
      | inl last ↦ rw last.0 (led_glyph (n % base) acc (let z : base * (n / base) ≡ 0 = rw (last.1, mul-zero) refl in omega (arith, whole, z)) (omega arith))
      | inr large_n ↦ rw large_n.0 (led_onto base k (n / base) (digit_glyph false (n % base) ∷ acc) two small (omega (arith, large_n.1)) fewer)
    ]

value_end : (base n : ℕ) → value_after base n [] ≡ Some n
unfolding value_after
value_end base n = refl

led_any : (base n : ℕ) → 2 ≤ base → base ≤ 16 → n < base ^ 64 → is_led (digits_onto 64 base false n []) ≡ true
led_any base n two small wide =
    elim (cases_eqb n 0) [
      | inl none ↦ rw (none.1, one_digit base 63 0 [] (omega arith)) refl
      | inr more ↦ led_onto base 64 n [] two small (omega (arith, more.1)) wide
    ]

pub number_again : (base most n : ℕ) → 2 ≤ base → base ≤ 16 → n ≤ most → most < 2 ^ 64 → number_at base most (numeral base n) ≡ Some n
unfolding number_at digits
number_again base most n two small le fits =
    let wide : n < base ^ 64 = omega (arith, pow-le-pow_left two 64) in
    let value : value_after base 0 (digits_onto 64 base false n []) ≡ Some n = onto_again base 64 n [] two small wide ∙ value_end base n in
    let led = led_any base n two small wide in
    rw (led, value, le-leb n most le) refl

-- ---- the loop

no_value : (base most : ℕ) (word : List ℕ) → value_after base 0 word ≡ None → number_at base most word ≡ None
unfolding number_at
no_value base most word none = elim (is_led word) as (λ t. cond t (value_after base 0 word >>= λ n. cond (leb n most) (Some n) None) None ≡ None) [
  | true ↦ rw none refl
  | false ↦ refl
]

-- a byte that is no digit
pub not_spelled : (base most v i : ℕ) (word : List ℕ) → i < length word → digit base (get_or word i 0) ≡ None → value_after base v (drop i word) ≡ value_after base 0 word → number_at base most word ≡ None
unfolding number_at value_after
not_spelled base most v i word lt h inv =
    let front : drop i word ≡ get_or word i 0 ∷ drop (i + 1) word = drop_more word i 0 lt in
    let none : value_after base 0 word ≡ None = sym inv ∙ rw (front, h) refl in
    no_value base most word none

-- one more digit
pub one_more : (base v d i : ℕ) (word : List ℕ) → i < length word → digit base (get_or word i 0) ≡ Some d → value_after base v (drop i word) ≡ value_after base 0 word → value_after base (v * base + d) (drop (i + 1) word) ≡ value_after base 0 word
unfolding value_after
one_more base v d i word lt h inv =
    let front : drop i word ≡ get_or word i 0 ∷ drop (i + 1) word = drop_more word i 0 lt in
    let one : value_after base v (get_or word i 0 ∷ drop (i + 1) word) ≡ value_after base (v * base + d) (drop (i + 1) word) = rw h refl in
    sym one ∙ ap (value_after base v) (sym front) ∙ inv

large_at : (base most m : ℕ) (word rest : List ℕ) (o : Option ℕ) → 2 ≤ base → most < m → value_after base m rest ≡ o → value_after base 0 word ≡ o → number_at base most word ≡ None
unfolding number_at
large_at base most m word rest None two lt e all = no_value base most word all
large_at base most m word rest (Some n) two lt e all =
    let grows = value_grows base m n rest two e in
    let wide : most < n = omega (arith, grows, mul-le-mul_left m (one-le-pow (length rest) 2 (omega arith))) in
    elim (is_led word) as (λ t. cond t (value_after base 0 word >>= λ x. cond (leb x most) (Some x) None) None ≡ None) [
      | true ↦ rw (all, lt-leb n most wide) refl
      | false ↦ refl
    ]

-- too large, whatever follows
pub too_large : (base most m : ℕ) (word rest : List ℕ) → 2 ≤ base → most < m → value_after base m rest ≡ value_after base 0 word → number_at base most word ≡ None
unfolding number_at
too_large base most m word rest two lt inv = large_at base most m word rest (value_after base m rest) two lt refl (sym inv)

-- the value at the end
at_end : (base v i : ℕ) (word : List ℕ) → length word ≤ i → value_after base v (drop i word) ≡ value_after base 0 word → value_after base 0 word ≡ Some v
unfolding value_after
at_end base v i word le inv = sym inv ∙ rw (drop_all i word le) refl

pub ends_at : (base most v i : ℕ) (word : List ℕ) → length word ≤ i → is_led word ≡ true → value_after base v (drop i word) ≡ value_after base 0 word
    → number_at base most word ≡ cond (leb v most) (Some v) None
unfolding number_at
ends_at base most v i word le led inv = rw (led, at_end base v i word le inv) refl

-- ---- one byte alone

digit_within : (base most : ℕ) (d : Option ℕ) → ((d >>= λ n. Some (0 * base + n)) >>= λ n. cond (leb n most) (Some n) None) ≡ (d >>= λ n. cond (leb n most) (Some n) None)
digit_within base most None = refl
digit_within base most (Some n) = let same : 0 * base + n ≡ n = omega arith in rw same refl

pub one_byte : (base most : ℕ) (word : List ℕ) → 1 ≤ length word → length word < 2 → number_at base most word ≡ (digit base (get_or word 0 0) >>= λ n. cond (leb n most) (Some n) None)
unfolding number_at value_after
one_byte base most [] some few = absurd (omega arith)
one_byte base most (b ∷ []) some few = digit_within base most (digit base b)
one_byte base most (b ∷ c ∷ bytes) some few = absurd (omega arith)

-- ---- what stands in no number

free_digit : (base b d stop : ℕ) → stop < 48 → digit base b ≡ Some d → not (eqb b stop) ≡ true
unfolding digit
free_digit base b d stop low e = grind (arith, nat_tests)

free_after : (base n m stop : ℕ) (word : List ℕ) → stop < 48 → value_after base n word ≡ Some m → is_free stop word ≡ true
unfolding value_after
free_after base n m stop [] low e = refl
free_after base n m stop (b ∷ word) low e =
    let d = bind_some (digit base b) (λ d. value_after base (n * base + d) word) m e in
    and_from _ _ (free_digit base b d.0 stop low d.1) (free_after base (n * base + d.0) m stop word low d.2)

-- no space and no end of a line
pub numeral_free : (base n stop : ℕ) → 2 ≤ base → base ≤ 16 → n < 2 ^ 64 → stop < 48 → is_free stop (numeral base n) ≡ true
unfolding digits
numeral_free base n stop two small lt low =
    free_after base 0 n stop (digits_onto 64 base false n []) low (onto_again base 64 n [] two small (omega (arith, pow-le-pow_left two 64)) ∙ value_end base n)

-- ---- the grammar of a word

pub reads_spelled : (base most : ℕ) (word : List ℕ) (read : Option ℕ) → 2 ≤ base → most < 2 ^ 64 → read ≡ number_at base most word → IfSome read (λ n. word ≡ numeral base n)
reads_spelled base most word None two fits e = tt
reads_spelled base most word (Some n) two fits e = (number_takes base most word n two fits (sym e)).0

pub reads_every : (base most : ℕ) (word : List ℕ) (read : Option ℕ) (n : ℕ) → 2 ≤ base → base ≤ 16 → most < 2 ^ 64 → read ≡ number_at base most word → n ≤ most → word ≡ numeral base n → read ≡ Some n
reads_every base most word read n two small fits e le is = e ∙ ap (number_at base most) is ∙ number_again base most n two small le fits
