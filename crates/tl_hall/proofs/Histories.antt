-- Beginnings of one list, and the entries of one pass.
use Rattle.std.proofs.Common.{inl, inr, ⊎_elim, ◌⊎◌, ◌≡◌, ◌≢◌, ℕ, zero, suc, ◌≤◌, ◌<◌, eqb, Bool, true, false, cond, List, [], ◌∷◌, ◌++◌, length, refl, ap, sym, ◌∙◌, subst, arith, append_assoc, eq-eqb, ne_eqb}
use Rattle.std.specs.Prelude.{nat_le, leb}
use Rattle.std.proofs.Common.{true≢false}
use Rattle.std.proofs.lemmas.Bool.{leb-true}
use Rattle.std.proofs.lemmas.Bool.Decides.{leb_tells}
use mathlib.Core.Option.{some, some-injective, some-ne-none}
use lib.ListN.{get_elem?}
use Rattle.tl_hall.specs.Rule.{longer}
use mathlib.Core.List.{IsPrefix}
use Rattle.tl_desk.specs.declared.call.Call.{Call}
use Rattle.tl_hall.specs.declared.entry.Entry.{Entry}
use Rattle.tl_hall.specs.History.{entry, own, IsOfWorker, AreOfWorker, OnlyWork}

pub prefix_self : {A : Type 0} (xs : List A) → IsPrefix xs xs
prefix_self [] = ([], refl)
prefix_self (x ∷ xs) = (let r = prefix_self xs in r.0, ap (λ ys. x ∷ ys) (prefix_self xs).1)

pub prefix_trans : {A : Type 0} (xs ys zs : List A) → IsPrefix xs ys → IsPrefix ys zs → IsPrefix xs zs
prefix_trans xs ys zs p q = (p.0 ++ q.0, sym (append_assoc xs p.0 q.0) ∙ (ap (λ w. w ++ q.0) p.1 ∙ q.1))

pub prefix_push : {A : Type 0} (xs ys zs : List A) → IsPrefix xs ys → IsPrefix xs (ys ++ zs)
prefix_push xs ys zs p = (p.0 ++ zs, sym (append_assoc xs p.0 zs) ∙ ap (λ w. w ++ zs) p.1)

-- of two beginnings of one list the shorter begins the longer
pub prefix_shorter : {A : Type 0} (xs ys zs : List A) → IsPrefix xs zs → IsPrefix ys zs → length xs ≤ length ys → IsPrefix xs ys
prefix_shorter [] ys zs p q le = (ys, refl)
prefix_shorter (x ∷ xs) [] zs p q le = absurd (omega arith)
prefix_shorter (x ∷ xs) (y ∷ ys) [] p q le = absurd (cc (p.1))
prefix_shorter (x ∷ xs) (y ∷ ys) (z ∷ zs) p q le =
    let heads : x ≡ y = cc (p.1, q.1) in
    let rest = prefix_shorter xs ys zs (p.0, cc (p.1)) (q.0, cc (q.1)) (omega arith) in
    (rest.0, cc (heads, rest.1))

cond_append : (b : Bool) (e : Entry) (a r s : List Entry) → r ≡ a ++ s → cond b (e ∷ r) r ≡ cond b (e ∷ a) a ++ s
cond_append true e a r s is = ap (λ (l : List Entry). e ∷ l) is
cond_append false e a r s is = is

pub own-append : (by : ℕ) (xs ys : List Entry) → own by (xs ++ ys) ≡ own by xs ++ own by ys
own-append by [] ys = refl
own-append by (e ∷ es) ys = cond_append (eqb e.by by) e (own by es) (own by (es ++ ys)) (own by ys) (own-append by es ys)

append-nil : {A : Type 0} (xs : List A) → xs ++ [] ≡ xs
append-nil [] = refl
append-nil (x ∷ xs) = ap (λ ys. x ∷ ys) (append-nil xs)

-- an entry of another pass
pub own-other : (by : ℕ) (xs : List Entry) (e : Entry) → e.by ≢ by → own by (xs ++ e ∷ []) ≡ own by xs
own-other by xs e other =
    own-append by xs (e ∷ []) ∙ ap (λ (b : Bool). own by xs ++ cond b (e ∷ []) []) (ne_eqb e.by by other) ∙ append-nil (own by xs)

pub own-mine : (by : ℕ) (call : Call) (xs : List Entry) → own by (xs ++ entry by call ∷ []) ≡ own by xs ++ entry by call ∷ []
own-mine by call xs =
    own-append by xs (entry by call ∷ []) ∙ ap (λ (b : Bool). own by xs ++ cond b (entry by call ∷ []) []) (eq-eqb by by refl)

left_empty : {A : Type 0} (xs ys : List A) → xs ++ ys ≡ [] → xs ≡ []
left_empty [] ys e = refl
left_empty (x ∷ xs) ys e = absurd (cc (e))

-- where a list has no entry of the pass, no beginning of it has one
pub own_within : (by : ℕ) (xs ys : List Entry) → IsPrefix xs ys → own by ys ≡ [] → own by xs ≡ []
own_within by xs ys p none = left_empty (own by xs) (own by p.0) (sym (own-append by xs p.0) ∙ ap (own by) p.1 ∙ none)

-- ---- workers' calls alone

pub both_work : (xs ys : List Entry) → AreOfWorker xs → AreOfWorker ys → AreOfWorker (xs ++ ys)
both_work [] ys a b = b
both_work (x ∷ xs) ys a b = (a.0, both_work xs ys a.1 b)

part_work : (xs ys : List Entry) → AreOfWorker (xs ++ ys) → AreOfWorker xs × AreOfWorker ys
part_work [] ys a = (tt, a)
part_work (x ∷ xs) ys a = let more = part_work xs ys a.1 in ((a.0, more.0), more.1)

same_tail : {A : Type 0} (xs ys zs : List A) → xs ++ ys ≡ xs ++ zs → ys ≡ zs
same_tail [] ys zs e = e
same_tail (x ∷ xs) ys zs e = same_tail xs ys zs (cc (e))

pub only_self : (xs : List Entry) → OnlyWork xs xs
only_self xs = ([], append-nil xs, tt)

pub only_trans : (xs ys zs : List Entry) → OnlyWork xs ys → OnlyWork ys zs → OnlyWork xs zs
only_trans xs ys zs a b = (a.0 ++ b.0, sym (append_assoc xs a.0 b.0) ∙ (ap (λ w. w ++ b.0) a.1 ∙ b.1), both_work a.0 b.0 a.2 b.2)

pub only_push : (xs ys : List Entry) (e : Entry) → OnlyWork xs ys → IsOfWorker e.call → OnlyWork xs (ys ++ e ∷ [])
only_push xs ys e a is = only_trans xs ys (ys ++ e ∷ []) a (e ∷ [], refl, (is, tt))

-- the same up to each list between, and from there on
pub only_between : (xs ys zs : List Entry) → OnlyWork xs zs → IsPrefix xs ys → IsPrefix ys zs → OnlyWork xs ys × OnlyWork ys zs
only_between xs ys zs a p q =
    let whole : xs ++ (p.0 ++ q.0) ≡ xs ++ a.0 = sym (append_assoc xs p.0 q.0) ∙ (ap (λ w. w ++ q.0) p.1 ∙ (q.1 ∙ sym a.1)) in
    let parts = part_work p.0 q.0 (subst AreOfWorker (sym (same_tail xs (p.0 ++ q.0) a.0 whole)) a.2) in
    ((p.0, p.1, parts.0), (q.0, q.1, parts.1))

tail_empty : {A : Type 0} (xs ys : List A) → xs ++ ys ≡ xs → ys ≡ []
tail_empty [] ys e = e
tail_empty (x ∷ xs) ys e = tail_empty xs ys (cc (e))

-- the same entries of the pass stand in each list between
pub own_between : (by : ℕ) (xs ys zs : List Entry) → IsPrefix xs ys → IsPrefix ys zs → own by zs ≡ own by xs → own by ys ≡ own by xs
own_between by xs ys zs p q same =
    let middle : own by ys ≡ own by xs ++ own by p.0 = sym (ap (own by) p.1) ∙ own-append by xs p.0 in
    let whole : (own by xs ++ own by p.0) ++ own by q.0 ≡ own by xs =
    ap (λ l. l ++ own by q.0) (sym middle) ∙ (sym (own-append by ys q.0) ∙ (ap (own by) q.1 ∙ same)) in
    let none : own by p.0 ++ own by q.0 ≡ [] = tail_empty (own by xs) (own by p.0 ++ own by q.0) (sym (append_assoc (own by xs) (own by p.0) (own by q.0)) ∙ whole) in
    middle ∙ ap (λ l. own by xs ++ l) (left_empty (own by p.0) (own by q.0) none) ∙ append-nil (own by xs)

-- where a list with one more element has something
pub at_snoc_where : {A : Type 0} (l : List A) (a b : A) (j : ℕ) → get_elem? (l ++ a ∷ []) j ≡ some b → (get_elem? l j ≡ some b) ⊎ ((j ≡ length l) × (a ≡ b))
at_snoc_where [] a b zero e = inr (refl, some-injective a b e)
at_snoc_where [] a b (suc j) e = absurd (some-ne-none b (sym e))
at_snoc_where (x ∷ xs) a b zero e = inl e
at_snoc_where (x ∷ xs) a b (suc j) e = ⊎_elim (λ (h : get_elem? xs j ≡ some b). inl h) (λ (h : (j ≡ length xs) × (a ≡ b)). inr (omega (arith, h.0), h.1)) (at_snoc_where xs a b j e)

pub below_length : {A : Type 0} (l : List A) (b : A) (j : ℕ) → get_elem? l j ≡ some b → j < length l
below_length [] b j e = absurd (some-ne-none b (sym e))
below_length (x ∷ xs) b zero e = omega arith
below_length (x ∷ xs) b (suc j) e = omega (arith, below_length xs b j e)

below : (a b : ℕ) → nat_le a b ≡ false → b ≤ a
below a b is = ⊎_elim (λ (h : (leb a b ≡ true) × (a ≤ b)). absurd (true≢false (sym h.0 ∙ is))) (λ (h : (leb a b ≡ false) × (b < a)). omega (arith, h.1)) (leb_tells a b)

longer_cases : (b : Bool) (xs ys log : List Entry) → nat_le (length xs) (length ys) ≡ b → IsPrefix xs log → IsPrefix ys log → IsPrefix xs (cond b ys xs) × IsPrefix ys (cond b ys xs) × IsPrefix (cond b ys xs) log
longer_cases true xs ys log is p q = (prefix_shorter xs ys log p q (leb-true (length xs) (length ys) is), prefix_self ys, q)
longer_cases false xs ys log is p q = (prefix_self xs, prefix_shorter ys xs log q p (below (length xs) (length ys) is), p)

-- of two beginnings of the history the longer one begins with both
pub longer_begins : (xs ys log : List Entry) → IsPrefix xs log → IsPrefix ys log → IsPrefix xs (longer xs ys) × IsPrefix ys (longer xs ys) × IsPrefix (longer xs ys) log
longer_begins xs ys log p q = longer_cases (nat_le (length xs) (length ys)) xs ys log refl p q
