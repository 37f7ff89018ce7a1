-- Beats passed, one after the other.
use Rattle.std.proofs.Common.{◌≡◌, ℕ, zero, suc, ◌+◌, ◌<◌, List, [], ◌∷◌, ◌++◌, length, take, drop, get_or, Some, sym, ap, ◌∙◌, arith}
use Rattle.std.specs.Prelude.{reverse, slice_get}
use Rattle.std.proofs.lemmas.List.{reverse-append}
use Rattle.std.proofs.lemmas.Option.{slice_get-get_or}
use Rattle.tl_rows.specs.declared.reason.Reason.TheVariants as why
use Rattle.tl_rows.proofs.ManagerLaws.{drop_more}

pub take_next : {X : Type 0} (xs : List X) (n : ℕ) (x : X) → slice_get xs n ≡ Some x → take (suc n) xs ≡ take n xs ++ x ∷ []
take_next [] n x h = cc
take_next (y ∷ xs) zero x h = cc
take_next (y ∷ xs) (suc n) x h = ap (λ ys. y ∷ ys) (take_next xs n x h)

-- One beat more is passed.
pub passed_more : {X : Type 0} (xs : List X) (n : ℕ) (d : X) → n < length xs → get_or xs n d ∷ reverse (take n xs) ≡ reverse (take (n + 1) xs)
passed_more xs n d within =
    let more : take (n + 1) xs ≡ take n xs ++ get_or xs n d ∷ [] =
    ap (λ k. take k xs) (let e : n + 1 ≡ suc n = omega arith in e) ∙ take_next xs n (get_or xs n d) (slice_get-get_or xs n d within) in
    sym (ap reverse more ∙ reverse-append (take n xs) (get_or xs n d ∷ []))

pub next_left : {X : Type 0} (xs : List X) (n : ℕ) (d : X) → n < length xs → drop n xs ≡ get_or xs n d ∷ drop (n + 1) xs
next_left xs n d within = drop_more xs n (get_or xs n d) (slice_get-get_or xs n d within)
