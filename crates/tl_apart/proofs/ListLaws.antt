-- Items of lists that are set.
use Rattle.std.proofs.Common.{◌≡◌, ℕ, zero, suc, ◌+◌, ◌<◌, ◌≤◌, true, false, List, [], ◌∷◌, ◌++◌, append-nil, append_assoc, length, set, take, drop, get_or, Some, sym, ap, subst, ◌∙◌, refl, arith}
use Rattle.std.specs.Prelude.{slice_get, nat_lt, ◌≢◌}
use Rattle.std.proofs.lemmas.Bool.Decides.{nat_tests}
use Rattle.std.proofs.lemmas.List.{length-set, get_or-set_same, get_or-set_other, take_more, take_all, drop_all}
use Rattle.std.proofs.lemmas.Option.{slice_get-get_or, slice_get_past}
use Rattle.tl_definitions.specs.Events.{Event}
use Rattle.tl_apart.specs.Apart.{total, count_in, rows_in}
use Rattle.tl_apart.specs.FeedData.{FeedData}

pub get_set : {X : Type 0} (xs : List X) (i : ℕ) (v : X) → i < length xs → slice_get (set xs i v) i ≡ Some v
get_set xs i v below = slice_get-get_or (set xs i v) i v (simp length-set below) ∙ ap Some (get_or-set_same xs i v v below)

pub get_other : {X : Type 0} (xs : List X) (i j : ℕ) (v : X) → j ≢ i → slice_get (set xs i v) j ≡ slice_get xs j
get_other xs i j v ne =
    elim (nat_lt j (length xs)) as (λ b. nat_lt j (length xs) ≡ b → slice_get (set xs i v) j ≡ slice_get xs j) [
      | true ↦ λ h. let within : j < length xs = grind (arith, nat_tests) in
          slice_get-get_or (set xs i v) j v (simp length-set (omega arith)) ∙ ap Some (get_or-set_other xs i j v v ne) ∙ sym (slice_get-get_or xs j v within)
      | false ↦ λ h. let past : length xs ≤ j = grind (arith, nat_tests) in
          slice_get_past (set xs i v) j (simp length-set (omega arith)) ∙ sym (slice_get_past xs j past)
    ] refl

pub found_at : {X : Type 0} (xs : List X) (i n : ℕ) (x : X) → true ≡ nat_lt i (length xs) → x ≡ get_or xs i x → i ≡ n → slice_get xs n ≡ Some x
found_at xs i n x test is same = let within : i < length xs = grind (arith, nat_tests) in subst (λ m. slice_get xs m ≡ Some x) same (slice_get-get_or xs i x within ∙ ap Some (sym is))

-- One event less waits.
pub total_less : (feeds : List FeedData) (i : ℕ) (feed next : FeedData) (e : Event) → slice_get feeds i ≡ Some feed → feed.waiting ≡ e ∷ next.waiting → total (set feeds i next) < total feeds
total_less [] i feed next e at is = absurd (cc)
total_less (f ∷ feeds) zero feed next e at is =
    let same : f ≡ feed = cc in
    let long : length f.waiting ≡ suc (length next.waiting) = ap (λ (x : FeedData). length x.waiting) same ∙ ap length is in
    omega (arith, long)
total_less (f ∷ feeds) (suc i) feed next e at is = let rest = total_less feeds i feed next e at is in omega (arith, rest)

pub set_same : {X : Type 0} (xs : List X) (i : ℕ) (x : X) → slice_get xs i ≡ Some x → set xs i x ≡ xs
set_same [] i x at = refl
set_same (y ∷ xs) zero x at = let same : y ≡ x = cc in ap (λ z. z ∷ xs) (sym same)
set_same (y ∷ xs) (suc i) x at = ap (λ zs. y ∷ zs) (set_same xs i x at)

pub set_twice : {X : Type 0} (xs : List X) (i : ℕ) (x y : X) → set (set xs i x) i y ≡ set xs i y
set_twice [] i x y = refl
set_twice (z ∷ xs) zero x y = refl
set_twice (z ∷ xs) (suc i) x y = ap (λ zs. z ∷ zs) (set_twice xs i x y)

-- An item between others.
pub get_between : {X : Type 0} (xs ys : List X) (x : X) → slice_get (xs ++ x ∷ ys) (length xs) ≡ Some x
get_between [] ys x = refl
get_between (y ∷ xs) ys x = get_between xs ys x

pub set_between : {X : Type 0} (xs ys : List X) (x y : X) → set (xs ++ x ∷ ys) (length xs) y ≡ xs ++ y ∷ ys
set_between [] ys x y = refl
set_between (z ∷ xs) ys x y = ap (λ zs. z ∷ zs) (set_between xs ys x y)

-- One feed of another count.
pub count_set : (feeds : List FeedData) (i : ℕ) (feed next : FeedData) → slice_get feeds i ≡ Some feed → count_in (set feeds i next) + feed.count ≡ count_in feeds + next.count
count_set [] i feed next at = absurd (cc)
count_set (f ∷ feeds) zero feed next at =
    let same : f ≡ feed = cc in
    let one : f.count ≡ feed.count = ap (λ (x : FeedData). x.count) same in
    omega (arith, one)
count_set (f ∷ feeds) (suc i) feed next at = let rest = count_set feeds i feed next at in omega (arith, rest)

-- One more at the end.
count_last : (feeds : List FeedData) (feed : FeedData) → count_in (feeds ++ feed ∷ []) ≡ count_in feeds + feed.count
count_last [] feed = omega arith
count_last (f ∷ feeds) feed = let rest = count_last feeds feed in omega (arith, rest)

rows_last : (feeds : List FeedData) (feed : FeedData) → rows_in (feeds ++ feed ∷ []) ≡ rows_in feeds ++ feed.rows
rows_last [] feed = append-nil feed.rows
rows_last (f ∷ feeds) feed = ap (λ rs. f.rows ++ rs) (rows_last feeds feed) ∙ sym (append_assoc f.rows (rows_in feeds) feed.rows)

-- One more of the first.
pub count_more : (feeds : List FeedData) (i : ℕ) (d : FeedData) → i < length feeds → count_in (take (i + 1) feeds) ≡ count_in (take i feeds) + (get_or feeds i d).count
count_more feeds i d within = ap count_in (take_more feeds i d within) ∙ count_last (take i feeds) (get_or feeds i d)

pub rows_more : (feeds : List FeedData) (i : ℕ) (d : FeedData) → i < length feeds → rows_in (take (i + 1) feeds) ≡ rows_in (take i feeds) ++ (get_or feeds i d).rows
rows_more feeds i d within = ap rows_in (take_more feeds i d within) ∙ rows_last (take i feeds) (get_or feeds i d)

-- What is written back in place of a list of the same length.
pub written_back : {X : Type 0} (olds news : List X) (n : ℕ) → n ≡ length olds → length news ≡ length olds → take n (news ++ drop (length news) olds) ≡ news
written_back olds news n all same =
    let none : drop (length news) olds ≡ [] = drop_all (length news) olds (omega (arith, same)) in
    ap (λ xs. take n (news ++ xs)) none ∙ ap (take n) (append-nil news) ∙ take_all n news (omega (arith, all, same))
