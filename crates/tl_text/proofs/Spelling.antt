-- Texts word by word and line by line: what is read is spelled so, and what is spelled so is read.
use Rattle.std.proofs.Common.{◌≡◌, ℕ, ◌<◌, ◌≤◌, ◌^◌, Bool, true, false, cond, eqb, not, ◌&&◌, List, [], ◌∷◌, ◌++◌, Option, Some, None, refl, sym, ap, ◌∙◌, append_assoc, arith}
use Rattle.std.specs.List.{flat_map, list_all, join_with_byte}
use Rattle.std.proofs.lemmas.Bool.{eqb-true, and_from, and_parts}
use Rattle.std.proofs.lemmas.Bool.Decides.{nat_tests}
use Rattle.std.proofs.lemmas.Option.{none-some, same_Some}
use Rattle.std.proofs.lemmas.List.Splits.{join_with_byte-slice_split}
use Rattle.std.proofs.lemmas.List.Folds.{list_all-append}
use Rattle.std.proofs.lemmas.List.Concat.{flat_map-cons}
use Rattle.tl_text.specs.Words.{◌>>=◌, word_at, lines_of, cut, ended}
use Rattle.tl_text.specs.Numbers.{number_at, numeral}
use Rattle.tl_text.specs.Names.{bit, bit_at, is_lower, is_name_byte, is_name}
use Rattle.tl_text.proofs.Cuts.{is_free, cut_again, lines_cut, lines_by, word_again, word_takes}
use Rattle.tl_text.proofs.Numerals.{bind_some, number_takes, numeral_free}

-- ---- bits

pub bit_again : (b : Bool) → bit_at (bit b) ≡ Some b
unfolding bit_at
bit_again false = refl
bit_again true = refl

at_bit : (s t : Bool) (x : ℕ) (b : Bool) → (s ≡ true → x ≡ 48) → (t ≡ true → x ≡ 49) → cond s (Some false) (cond t (Some true) None) ≡ Some b → x ∷ [] ≡ bit b
at_bit true t x b zero_is one_is e = rw (← same_Some _ _ e, zero_is refl) refl
at_bit false true x b zero_is one_is e = rw (← same_Some _ _ e, one_is refl) refl
at_bit false false x b zero_is one_is e = absurd (none-some b e)

pub bit_takes : (word : List ℕ) (b : Bool) → bit_at word ≡ Some b → word ≡ bit b
unfolding bit_at
bit_takes [] b e = absurd (none-some b e)
bit_takes (x ∷ y ∷ word) b e = absurd (none-some b e)
bit_takes (x ∷ []) b e = at_bit (eqb x 48) (eqb x 49) x b (λ h. eqb-true x 48 h) (λ h. eqb-true x 49 h) e

pub bit_free : (stop : ℕ) (b : Bool) → stop < 48 → is_free stop (bit b) ≡ true
bit_free stop false low = grind (arith, nat_tests)
bit_free stop true low = grind (arith, nat_tests)

-- ---- names

name_byte_free : (b stop : ℕ) → stop < 48 → is_name_byte b ≡ true → not (eqb b stop) ≡ true
name_byte_free b stop low e = grind (arith, nat_tests)

name_bytes_free : (stop : ℕ) (bytes : List ℕ) → stop < 48 → list_all is_name_byte bytes ≡ true → is_free stop bytes ≡ true
name_bytes_free stop [] low e = refl
name_bytes_free stop (b ∷ bytes) low e =
    let parts = and_parts _ _ e in
    and_from _ _ (name_byte_free b stop low parts.0) (name_bytes_free stop bytes low parts.1)

lower_free : (b stop : ℕ) → stop < 48 → is_lower b ≡ true → not (eqb b stop) ≡ true
lower_free b stop low e = grind (arith, nat_tests)

pub name_free : (stop : ℕ) (name : List ℕ) → stop < 48 → is_name name ≡ true → is_free stop name ≡ true
unfolding is_name
name_free stop [] low e = refl
name_free stop (b ∷ bytes) low e =
    let parts = and_parts _ _ e in
    let front = and_parts _ _ parts.0 in
    and_from _ _ (lower_free b stop low front.0) (name_bytes_free stop bytes low parts.1)

-- ---- one step of a reading that does not fail, handed on

pub word_step : {B : Type 0} (line : List ℕ) (f : List ℕ × List ℕ → Option B) (y : B) (P : Type 0) → (word_at line >>= f) ≡ Some y → ((word rest : List ℕ) → line ≡ word ++ 32 ∷ rest → f (word, rest) ≡ Some y → P) → P
word_step line f y P e k =
    let w = bind_some (word_at line) f y e in
    k w.0.0 w.0.1 (word_takes line w.0.0 w.0.1 w.1) w.2

pub number_step : {B : Type 0} (base most : ℕ) (word : List ℕ) (f : ℕ → Option B) (y : B) (P : Type 0) → 2 ≤ base → most < 2 ^ 64 → (number_at base most word >>= f) ≡ Some y → ((n : ℕ) → word ≡ numeral base n → n ≤ most → f n ≡ Some y → P) → P
number_step base most word f y P two fits e k =
    let n = bind_some (number_at base most word) f y e in
    let t = number_takes base most word n.0 two fits n.1 in
    k n.0 t.0 t.1 n.2

-- a number with a space after it
pub field_step : {B : Type 0} (base most : ℕ) (line : List ℕ) (f : List ℕ × List ℕ → ℕ → Option B) (y : B) (P : Type 0) → 2 ≤ base → most < 2 ^ 64
    → (word_at line >>= λ w. number_at base most w.0 >>= λ n. f w n) ≡ Some y
    → ((word rest : List ℕ) (n : ℕ) → line ≡ numeral base n ++ 32 ∷ rest → n ≤ most → f (word, rest) n ≡ Some y → P) → P
field_step base most line f y P two fits e k =
    word_step line (λ w. number_at base most w.0 >>= λ n. f w n) y P e (λ word rest joins more.
    number_step base most word (λ n. f (word, rest) n) y P two fits more (λ n is small last.
    k word rest n (joins ∙ ap (λ (l : List ℕ). l ++ 32 ∷ rest) is) small last))

pub bit_step : {B : Type 0} (word : List ℕ) (f : Bool → Option B) (y : B) (P : Type 0) → (bit_at word >>= f) ≡ Some y → ((b : Bool) → word ≡ bit b → f b ≡ Some y → P) → P
bit_step word f y P e k =
    let b = bind_some (bit_at word) f y e in
    k b.0 (bit_takes word b.0 b.1) b.2

-- a bit with a space after it
pub bit_field_step : {B : Type 0} (line : List ℕ) (f : List ℕ × List ℕ → Bool → Option B) (y : B) (P : Type 0)
    → (word_at line >>= λ w. bit_at w.0 >>= λ b. f w b) ≡ Some y
    → ((word rest : List ℕ) (b : Bool) → line ≡ bit b ++ 32 ∷ rest → f (word, rest) b ≡ Some y → P) → P
bit_field_step line f y P e k =
    word_step line (λ w. bit_at w.0 >>= λ b. f w b) y P e (λ word rest joins more.
    bit_step word (λ b. f (word, rest) b) y P more (λ b is last.
    k word rest b (joins ∙ ap (λ (l : List ℕ). l ++ 32 ∷ rest) is) last))

pub test_step : {A B : Type 0} (t : Bool) (o : Option A) (f : A → Option B) (y : B) (P : Type 0) → (cond t o None >>= f) ≡ Some y → (t ≡ true → (o >>= f) ≡ Some y → P) → P
test_step true o f y P e k = k refl e
test_step false o f y P e k = absurd (none-some y e)

-- a number is found again before a space
pub field_again : (base n : ℕ) (rest : List ℕ) → 2 ≤ base → base ≤ 16 → n < 2 ^ 64 → word_at (numeral base n ++ 32 ∷ rest) ≡ Some (numeral base n, rest)
field_again base n rest two small fits = word_again (numeral base n) rest (numeral_free base n 32 two small fits (omega arith))

-- ---- lines

pub spaced_free : (word rest : List ℕ) → is_free 10 word ≡ true → is_free 10 rest ≡ true → is_free 10 (word ++ 32 ∷ rest) ≡ true
spaced_free word rest p q = list_all-append (λ b. not (eqb b 10)) word (32 ∷ rest) ∙ and_from _ _ p q

pub number_line : (base n : ℕ) → 2 ≤ base → base ≤ 16 → n < 2 ^ 64 → is_free 10 (numeral base n) ≡ true
number_line base n two small fits = numeral_free base n 10 two small fits (omega arith)

-- no line has a newline in it
abbrev pub all_free : List (List ℕ) → Bool
all_free [] = true
all_free (line ∷ lines) = is_free 10 line && all_free lines

lines_ended : (line bytes : List ℕ) → is_free 10 line ≡ true → lines_of (line ++ 10 ∷ bytes) ≡ line ∷ lines_of bytes
lines_ended line bytes free = lines_cut (line ++ 10 ∷ bytes) ∙ ap lines_by (cut_again 10 line bytes free)

-- lines with their newlines are cut into these lines again
pub lines_again : (lines : List (List ℕ)) (bytes : List ℕ) → all_free lines ≡ true → lines_of (flat_map ended lines ++ bytes) ≡ lines ++ lines_of bytes
lines_again [] bytes free = refl
lines_again (line ∷ lines) bytes free =
    let parts = and_parts _ _ free in
    let one : flat_map ended (line ∷ lines) ++ bytes ≡ line ++ 10 ∷ (flat_map ended lines ++ bytes) = ap (λ (l : List ℕ). l ++ bytes) (flat_map-cons ended line lines) ∙ append_assoc (ended line) (flat_map ended lines) bytes ∙ append_assoc line (10 ∷ []) (flat_map ended lines ++ bytes) in
    ap lines_of one ∙ lines_ended line (flat_map ended lines ++ bytes) parts.0 ∙ ap (λ (l : List (List ℕ)). line ∷ l) (lines_again lines bytes parts.1)

-- texts of the same lines are the same
pub same_lines : (a b : List ℕ) → lines_of a ≡ lines_of b → a ≡ b
same_lines a b e = sym (join_with_byte-slice_split 10 a) ∙ ap (join_with_byte 10) e ∙ join_with_byte-slice_split 10 b

by_cut : (c : List ℕ × Option (List ℕ)) (all : List (List ℕ)) → all ≡ lines_by c → (line : List ℕ) × (lines : List (List ℕ)) × (all ≡ line ∷ lines)
by_cut (line, None) all e = (line, [], e)
by_cut (line, Some rest) all e = (line, lines_of rest, e)

-- there is a first line
pub some_line : (bytes : List ℕ) → (line : List ℕ) × (lines : List (List ℕ)) × (lines_of bytes ≡ line ∷ lines)
some_line bytes = by_cut (cut 10 bytes) (lines_of bytes) (lines_cut bytes)

-- ---- lines after one another

pub name_line : (name : List ℕ) → is_name name ≡ true → is_free 10 name ≡ true
name_line name e = name_free 10 name (omega arith) e

pub decimal_line : (n : ℕ) → n < 2 ^ 64 → is_free 10 (numeral 10 n) ≡ true
decimal_line n fits = number_line 10 n (omega arith) (omega arith) fits

ended_more : (line text rest : List ℕ) → (ended line ++ text) ++ rest ≡ line ++ 10 ∷ (text ++ rest)
ended_more line text rest = append_assoc (ended line) text rest ∙ append_assoc line (10 ∷ []) (text ++ rest)

join_ended : (lines : List (List ℕ)) (next : List ℕ) (rest : List (List ℕ)) → join_with_byte 10 (lines ++ next ∷ rest) ≡ flat_map ended lines ++ join_with_byte 10 (next ∷ rest)
join_ended [] next rest = refl
join_ended (line ∷ []) next rest = sym (ended_more line [] (join_with_byte 10 (next ∷ rest)))
join_ended (line ∷ l ∷ lines) next rest =
    ap (λ (bytes : List ℕ). line ++ 10 ∷ bytes) (join_ended (l ∷ lines) next rest) ∙ sym (ended_more line (flat_map ended (l ∷ lines)) (join_with_byte 10 (next ∷ rest)))

-- a text whose lines begin with some begins with these, each ended
pub front_lines : (bytes : List ℕ) (lines : List (List ℕ)) (next : List ℕ) (rest : List (List ℕ)) → lines_of bytes ≡ lines ++ next ∷ rest
    → bytes ≡ flat_map ended lines ++ join_with_byte 10 (next ∷ rest)
front_lines bytes lines next rest e = sym (join_with_byte-slice_split 10 bytes) ∙ ap (join_with_byte 10) e ∙ join_ended lines next rest
