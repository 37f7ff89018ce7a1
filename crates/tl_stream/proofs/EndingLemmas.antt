-- The end of a fragment's text is found line by line.
use Rattle.std.proofs.Common.{◌≡◌, ℕ, ◌+◌, ◌-◌, ◌≤◌, suc, true, false, List, [], ◌∷◌, ◌++◌, Some, None, refl, sym, ap, ◌∙◌, length, take, drop, take_all, length-drop, length-append, drop-drop, arith}
use Rattle.std.specs.Prelude.{codes}
use Rattle.std.specs.Str.{bytes_eq}
use Rattle.std.proofs.Math.Seq.{drop-append-add}
use Rattle.std.proofs.lemmas.Option.{none-some}
use Rattle.tl_text.specs.Words.{lines_of, first_line}
use Rattle.tl_text.proofs.Cuts.{Line, first_is}
use Rattle.tl_stream.specs.Shares.{end_from}

pub no_line_left : (n at : ℕ) (lines : List (List ℕ)) → first_line lines ≡ None → end_from n at lines ≡ None
unfolding end_from
no_line_left n at [] e = refl
no_line_left n at (line ∷ []) e = refl
no_line_left n at (line ∷ next ∷ lines) e = absurd (none-some _ (sym e))

pub no_bytes_left : (n at : ℕ) → end_from n at (lines_of []) ≡ None
unfolding end_from
no_bytes_left n at = refl

pub ends : (n at : ℕ) (lines : List (List ℕ)) (line : List ℕ) (after : List (List ℕ)) → first_line lines ≡ Some (line, after) → bytes_eq line (codes "end") ≡ true → end_from n at lines ≡ Some (n + 1, at + (length line + 1))
unfolding end_from
ends n at [] line after e is = absurd (none-some _ e)
ends n at (x ∷ []) line after e is = absurd (none-some _ e)
ends n at (x ∷ next ∷ lines) line after e is =
    let p = first_is lines line after x next e in
    let here : bytes_eq x (codes "end") ≡ true = ap (λ (q : Line). bytes_eq q.0 (codes "end")) p ∙ is in
    let one : end_from n at (x ∷ next ∷ lines) ≡ Some (n + 1, at + (length x + 1)) = rw here refl in
    one ∙ ap (λ (q : Line). Some (n + 1, at + (length q.0 + 1))) p

pub goes_on : (n at : ℕ) (lines : List (List ℕ)) (line : List ℕ) (after : List (List ℕ)) → first_line lines ≡ Some (line, after) → bytes_eq line (codes "end") ≡ false
    → end_from n at lines ≡ end_from (n + 1) (at + (length line + 1)) after
unfolding end_from
goes_on n at [] line after e is = absurd (none-some _ e)
goes_on n at (x ∷ []) line after e is = absurd (none-some _ e)
goes_on n at (x ∷ next ∷ lines) line after e is =
    let p = first_is lines line after x next e in
    let here : bytes_eq x (codes "end") ≡ false = ap (λ (q : Line). bytes_eq q.0 (codes "end")) p ∙ is in
    let one : end_from n at (x ∷ next ∷ lines) ≡ end_from (n + 1) (at + (length x + 1)) (next ∷ lines) = rw here refl in
    one ∙ ap (λ (q : Line). end_from (n + 1) (at + (length q.0 + 1)) q.1) p

-- What stands after a line and its newline.
pub after_line : (bytes line rest : List ℕ) (place : ℕ) → drop place bytes ≡ line ++ 10 ∷ rest → drop (place + (length line + 1)) bytes ≡ rest
after_line bytes line rest place e = sym (drop-drop (length line + 1) place bytes) ∙ ap (λ (l : List ℕ). drop (length line + 1) l) e ∙ drop-append-add line (10 ∷ rest) 1

-- The part from a place on is what is left there.
pub part_from : (bytes : List ℕ) (place : ℕ) → take (length bytes - place) (drop place bytes) ≡ drop place bytes
part_from bytes place = take_all (length bytes - place) (drop place bytes) (let l = length-drop place bytes in omega (arith, l))

-- The line with its newline stands within the bytes.
pub line_within : (bytes line rest : List ℕ) (place : ℕ) → drop place bytes ≡ line ++ 10 ∷ rest → place + (length line + 1) ≤ length bytes
line_within bytes line rest place e =
    let left = length-drop place bytes in
    let counted : length (drop place bytes) ≡ length line + length (10 ∷ rest) = ap length e ∙ length-append line (10 ∷ rest) in
    let some : length (10 ∷ rest) ≡ suc (length rest) = refl in
    omega (arith, left, counted, some)
