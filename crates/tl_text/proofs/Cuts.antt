-- Cutting bytes at the first stop, and joining them again.
use Rattle.std.proofs.Common.{◌≡◌, ℕ, suc, ◌+◌, Bool, true, false, cond, eqb, ltb, not, List, [], ◌∷◌, ◌++◌, length, append_assoc, take, drop, Option, Some, None, refl, sym, ap, subst, ◌∙◌, arith, inl, inr}
use Rattle.std.specs.Prelude.{◌==◌, option_map, IfSome}
use Rattle.std.specs.List.{position, position_or_len, list_all, onto_first}
use Rattle.std.proofs.lemmas.Bool.{eqb-true, eq-eqb, cases_lt, lt-ltb, le-ltb, and_parts, not-true}
use Rattle.std.proofs.lemmas.List.Sums.{position_or_len_is}
use Rattle.std.proofs.lemmas.Option.{none-some, same_Some}
use Rattle.memchr.specs.Find.{IsFirstByte, is_byte}
use Rattle.tl_text.specs.Words.{cut, before_stop, word_at, lines_of, first_line, IsBehind}

-- a line and those after it
abbrev pub Line : Type 0
Line = List ℕ × List (List ℕ)

is_false : (b : Bool) → ((b ≡ true) → ⊥) → b ≡ false
is_false true h = absurd (h refl)
is_false false h = refl

pub first_is : (lines : List (List ℕ)) (line : List ℕ) (after : List (List ℕ)) (x next : List ℕ) → first_line (x ∷ next ∷ lines) ≡ Some (line, after) → ◌≡◌ {A = Line} (x, next ∷ lines) (line, after)
first_is lines line after x next e = same_Some _ _ e

-- what a search for the stop says of the cut
abbrev pub cut_by : List ℕ → Option ℕ → List ℕ × Option (List ℕ)
cut_by bytes (Some at) = (take at bytes, Some (drop (at + 1) bytes))
cut_by bytes None = (bytes, None)

-- one more byte, that is no stop, in front
abbrev onto : ℕ → List ℕ × Option (List ℕ) → List ℕ × Option (List ℕ)
onto b c = (b ∷ c.0, c.1)

one_more : (b : ℕ) (bytes : List ℕ) (n : ℕ) → cut_by (b ∷ bytes) (cond (ltb (1 + n) (suc (length bytes))) (Some (1 + n)) None) ≡ onto b (cut_by bytes (cond (ltb n (length bytes)) (Some n) None))
one_more b bytes n =
    let k : 1 + n ≡ suc n = omega arith in
    let j : suc n + 1 ≡ suc (n + 1) = omega arith in
    elim (cases_lt n (length bytes)) [
      | inl lt ↦ rw (lt-ltb n (length bytes) lt, lt-ltb (1 + n) (suc (length bytes)) (omega arith), k, j) refl
      | inr le ↦ rw (le-ltb n (length bytes) le, le-ltb (1 + n) (suc (length bytes)) (omega arith)) refl
    ]

place_at : (t : Bool) (b : ℕ) (bytes : List ℕ) (n : ℕ) (c : List ℕ × Option (List ℕ)) → c ≡ cut_by bytes (cond (ltb n (length bytes)) (Some n) None)
    → cond t ([], Some bytes) (b ∷ c.0, c.1) ≡ cut_by (b ∷ bytes) (cond (ltb (cond (not t) (1 + n) 0) (suc (length bytes))) (Some (cond (not t) (1 + n) 0)) None)
place_at true b bytes n c e = rw (lt-ltb 0 (suc (length bytes)) (omega arith)) refl
place_at false b bytes n c e = ap (onto b) e ∙ sym (one_more b bytes n)

pub cut_place : (stop : ℕ) (bytes : List ℕ) → cut stop bytes ≡ cut_by bytes (position (λ byte. byte == stop) bytes)
cut_place stop [] = refl
cut_place stop (b ∷ bytes) = place_at (eqb b stop) b bytes (position_or_len (λ byte. byte == stop) bytes) (cut stop bytes) (cut_place stop bytes)

-- the first place that a search finds
pub found_place : (stop : ℕ) (bytes : List ℕ) (found : Option ℕ) → IsFirstByte (is_byte stop) bytes found → found ≡ position (λ byte. byte == stop) bytes
found_place stop bytes None none =
    let all : position_or_len (λ byte. byte == stop) bytes ≡ length bytes = position_or_len_is (λ byte. byte == stop) bytes (length bytes) 0 (omega arith)
    (λ k lt. is_false _ (none k (omega arith) lt)) (λ lt. absurd (omega arith)) in
    rw (all, le-ltb (length bytes) (length bytes) (omega arith)) refl
found_place stop bytes (Some at) found =
    let here : position_or_len (λ byte. byte == stop) bytes ≡ at = position_or_len_is (λ byte. byte == stop) bytes at 0 (omega (arith, found.0.high))
    (λ k lt. is_false _ (found.0.before k (omega arith) lt)) (λ lt. found.1) in
    rw (here, lt-ltb at (length bytes) found.0.high) refl

-- the parts by the place that was found
pub cut_found : (stop : ℕ) (bytes : List ℕ) (place : Option ℕ) → place ≡ position (λ byte. byte == stop) bytes
    → before_stop stop bytes ≡ option_map (λ rest. ((cut_by bytes place).0, rest)) (cut_by bytes place).1
cut_found stop bytes place e = ap (λ (c : List ℕ × Option (List ℕ)). option_map (λ rest. (c.0, rest)) c.1) (cut_place stop bytes ∙ ap (cut_by bytes) (sym e))

-- ---- laws

-- the stop does not stand in a word
abbrev pub is_free : ℕ → List ℕ → Bool
is_free stop word = list_all (λ b. not (eqb b stop)) word

pub cut_again : (stop : ℕ) (word rest : List ℕ) → is_free stop word ≡ true → cut stop (word ++ stop ∷ rest) ≡ (word, Some rest)
cut_again stop [] rest free = rw (eq-eqb stop stop refl) refl
cut_again stop (b ∷ word) rest free =
    let parts = and_parts _ _ free in
    rw (not-true (eqb b stop) parts.0, cut_again stop word rest parts.1) refl

takes_at : (t : Bool) (b stop : ℕ) (bytes word rest : List ℕ) → (t ≡ true → b ≡ stop) → ((w : List ℕ) → cut stop bytes ≡ (w, Some rest) → bytes ≡ w ++ stop ∷ rest)
    → ◌≡◌ {A = List ℕ × Option (List ℕ)} (cond t ([], Some bytes) (b ∷ (cut stop bytes).0, (cut stop bytes).1)) (word, Some rest) → b ∷ bytes ≡ word ++ stop ∷ rest
takes_at true b stop bytes word rest same others e =
    let w : word ≡ [] = sym (ap (λ (p : List ℕ × Option (List ℕ)). p.0) e) in
    let r : bytes ≡ rest = same_Some _ _ (ap (λ (p : List ℕ × Option (List ℕ)). p.1) e) in
    rw (w, r, same refl) refl
takes_at false b stop bytes word rest same others e =
    let w : b ∷ (cut stop bytes).0 ≡ word = ap (λ (p : List ℕ × Option (List ℕ)). p.0) e in
    let r : (cut stop bytes).1 ≡ Some rest = ap (λ (p : List ℕ × Option (List ℕ)). p.1) e in
    let both : cut stop bytes ≡ ((cut stop bytes).0, Some rest) = ap (λ (o : Option (List ℕ)). ((cut stop bytes).0, o)) r in
    rw (← w) (ap (λ (l : List ℕ). b ∷ l) (others _ both))

pub cut_takes : (stop : ℕ) (bytes word rest : List ℕ) → cut stop bytes ≡ (word, Some rest) → bytes ≡ word ++ stop ∷ rest
cut_takes stop [] word rest e = absurd (none-some rest (ap (λ (p : List ℕ × Option (List ℕ)). p.1) e))
cut_takes stop (b ∷ bytes) word rest e = takes_at (eqb b stop) b stop bytes word rest (λ h. eqb-true b stop h) (λ w h. cut_takes stop bytes w rest h) e

-- the same of words

pub word_again : (word rest : List ℕ) → is_free 32 word ≡ true → word_at (word ++ 32 ∷ rest) ≡ Some (word, rest)
unfolding word_at
word_again word rest free = rw (cut_again 32 word rest free) refl

word_from : (before word rest : List ℕ) (after : Option (List ℕ)) → ◌≡◌ {A = Option (List ℕ × List ℕ)} (option_map (λ (r : List ℕ). (before, r)) after) (Some (word, rest)) → ◌≡◌ {A = List ℕ × Option (List ℕ)} (before, after) (word, Some rest)
word_from before word rest None e = absurd cc
word_from before word rest (Some r) e =
    let p : ◌≡◌ {A = List ℕ × List ℕ} (before, r) (word, rest) = same_Some _ _ e in
    ap (λ (q : List ℕ × List ℕ). (q.0, Some q.1)) p

pub word_takes : (line word rest : List ℕ) → word_at line ≡ Some (word, rest) → line ≡ word ++ 32 ∷ rest
unfolding word_at
word_takes line word rest e = cut_takes 32 line word rest (word_from (cut 32 line).0 word rest (cut 32 line).1 e)

-- what is found before a stop, with the stop and what follows, is the text
stop_joins : {X : Type 0} (view : X → List ℕ × List ℕ) (before : List ℕ) (after : Option (List ℕ)) (stop : ℕ) (bytes : List ℕ) (found : Option X) → cut stop bytes ≡ (before, after)
    → option_map view found ≡ option_map (λ (rest : List ℕ). (before, rest)) after → IfSome found (λ x. bytes ≡ (view x).0 ++ stop ∷ (view x).1)
stop_joins view before None stop bytes None is e = tt
stop_joins view before (Some rest) stop bytes None is e = tt
stop_joins view before None stop bytes (Some x) is e = absurd (none-some _ (sym e))
stop_joins view before (Some rest) stop bytes (Some x) is e = rw (same_Some _ _ e) (cut_takes stop bytes before rest is)

pub cut_joins : {X : Type 0} (view : X → List ℕ × List ℕ) (stop : ℕ) (bytes : List ℕ) (found : Option X) → option_map view found ≡ before_stop stop bytes → IfSome found (λ x. bytes ≡ (view x).0 ++ stop ∷ (view x).1)
cut_joins view stop bytes found e = stop_joins view (cut stop bytes).0 (cut stop bytes).1 stop bytes found refl e

-- ---- lines

-- the lines by the first cut
abbrev pub lines_by : List ℕ × Option (List ℕ) → List (List ℕ)
lines_by (line, None) = line ∷ []
lines_by (line, Some rest) = line ∷ lines_of rest

lines_at : (t : Bool) (b : ℕ) (bytes : List ℕ) (c : List ℕ × Option (List ℕ)) → lines_of bytes ≡ lines_by c → cond t ([] ∷ lines_of bytes) (onto_first b (lines_of bytes)) ≡ lines_by (cond {A = List ℕ × Option (List ℕ)} t ([], Some bytes) (b ∷ c.0, c.1))
lines_at true b bytes c e = refl
lines_at false b bytes (line, None) e = ap (onto_first b) e
lines_at false b bytes (line, Some rest) e = ap (onto_first b) e

pub lines_cut : (bytes : List ℕ) → lines_of bytes ≡ lines_by (cut 10 bytes)
lines_cut [] = refl
lines_cut (b ∷ bytes) = lines_at (eqb b 10) b bytes (cut 10 bytes) (lines_cut bytes)

-- there is a piece
abbrev pub starts : List (List ℕ) → Type 0
starts [] = ⊥
starts (line ∷ lines) = Unit {0}

cut_starts : (c : List ℕ × Option (List ℕ)) → starts (lines_by c)
cut_starts (line, None) = tt
cut_starts (line, Some rest) = tt

pub lines_start : (bytes : List ℕ) → starts (lines_of bytes)
lines_start bytes = subst starts (sym (lines_cut bytes)) (cut_starts (cut 10 bytes))

more : (line : List ℕ) (lines : List (List ℕ)) → starts lines → Some (line, lines) ≡ first_line (line ∷ lines)
more line [] h = absurd h
more line (next ∷ lines) h = refl

first_by : {X : Type 0} (view : X → List ℕ × List ℕ) (before : List ℕ) (after : Option (List ℕ)) (found : Option X)
    → option_map view found ≡ option_map (λ (rest : List ℕ). (before, rest)) after → option_map (λ x. ((view x).0, lines_of (view x).1)) found ≡ first_line (lines_by (before, after))
first_by view before None None e = refl
first_by view before (Some rest) None e = absurd (none-some _ e)
first_by view before None (Some x) e = absurd (none-some _ (sym e))
first_by view before (Some rest) (Some x) e = rw (same_Some _ _ e) (more before (lines_of rest) (lines_start rest))

pub line_first : {X : Type 0} (view : X → List ℕ × List ℕ) (bytes : List ℕ) (found : Option X) → option_map view found ≡ before_stop 10 bytes → option_map (λ x. ((view x).0, lines_of (view x).1)) found ≡ first_line (lines_of bytes)
line_first view bytes found e = rw (lines_cut bytes) (first_by view (cut 10 bytes).0 (cut 10 bytes).1 found e)

-- ---- what stands after

pub behind_all : (bytes : List ℕ) → IsBehind bytes bytes
behind_all bytes = ([], refl)

-- and after one line more
pub behind_line : (bytes rest line after : List ℕ) → IsBehind bytes rest → rest ≡ line ++ 10 ∷ after → IsBehind bytes after
behind_line bytes rest line after behind e =
    let one : bytes ≡ behind.0 ++ (line ++ 10 ∷ after) = behind.1 ∙ ap (λ (l : List ℕ). behind.0 ++ l) e in
    let two : line ++ 10 ∷ after ≡ (line ++ 10 ∷ []) ++ after = sym (append_assoc line (10 ∷ []) after) in
    (behind.0 ++ (line ++ 10 ∷ []), one ∙ ap (λ (l : List ℕ). behind.0 ++ l) two ∙ sym (append_assoc behind.0 (line ++ 10 ∷ []) after))

pub behind_on : (bytes rest last : List ℕ) → IsBehind bytes rest → IsBehind rest last → IsBehind bytes last
behind_on bytes rest last first second =
    (first.0 ++ second.0, first.1 ∙ ap (λ (l : List ℕ). first.0 ++ l) second.1 ∙ sym (append_assoc first.0 second.0 last))
