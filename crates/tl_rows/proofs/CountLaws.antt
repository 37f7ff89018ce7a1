-- What is open is counted.
use Rattle.std.proofs.Common.{◌≡◌, ℕ, zero, suc, ◌+◌, ◌<◌, ◌≤◌, List, [], ◌∷◌, length, drop, get_or, refl, sym, ap, subst, ◌∙◌, arith}
use Rattle.std.specs.Prelude.{IsSome}
use Rattle.std.specs.BTreeMap.{BTreeMap, get, keys, btree_map_len, IsOrdered}
use Rattle.std.specs.Cmp.{ranked}
use Rattle.std.specs.Ordering.{nat_cmp}
use Rattle.std.specs.declared.cmp.Ordering.TheVariants.{Equal}
use Rattle.std.proofs.lemmas.Cmp.{nat_cmp_total}
use Rattle.std.proofs.lemmas.List.{length-map}
use Rattle.std.proofs.lemmas.Map.Views.{btree_map_contains_key_iff}
use Rattle.tl_definitions.specs.OpenTables.{Table, open_at, one_if}
use Rattle.tl_beats.specs.declared.Placed.{Placed}
use Rattle.tl_definitions.specs.Messages.{Message, Links, at_head}
use Rattle.tl_rows.specs.declared.origin.Origin.{Origin}
use Rattle.tl_rows.specs.Origins.{placed}
use Rattle.tl_rows.specs.Counts.{IsCount, IsTotal, heads_after}
use Rattle.tl_rows.proofs.PassedLaws.{next_left}

-- A map has so many keys as it has entries, and these are the keys on which something is open.
pub counted : (table : Table Message) (before : List Origin) (m : BTreeMap ℕ Origin) (count : ℕ) → count ≡ btree_map_len m → IsOrdered nat_cmp m
    → ((key : ℕ) → get nat_cmp m key ≡ open_at (placed table) key before) → IsCount table before count
counted table before m count len ordered shows = (
  keys m,
  length-map m.entries _ ∙ sym len,
  ordered,
  λ key. (let found = btree_map_contains_key_iff nat_cmp_total (λ x y h. ranked x y Equal (sym h)) m key in
      (λ has. subst IsSome (shows key) (found.1 has), λ is. found.0 (subst IsSome (sym (shows key)) is))),
)

pub five : (a b c d e v w x y z : ℕ) → a ≡ v → b ≡ w → c ≡ x → d ≡ y → e ≡ z → a + b + c + d + e ≡ v + w + x + y + z
five a b c d e v w x y z p q r s t = omega (arith, p, q, r, s, t)

-- One link more is added.
pub total_next : (counts : ℕ → ℕ → Type 0) (clients : List ℕ) (n d total here sum : ℕ) → n < length clients → counts (get_or clients n d) here → sum ≡ total + here
    → ((rest : ℕ) → IsTotal counts (drop n clients) rest → IsTotal counts clients (total + rest))
    → (rest : ℕ) → IsTotal counts (drop (n + 1) clients) rest → IsTotal counts clients (sum + rest)
total_next counts clients n d total here sum within own is known rest left =
    let e : total + (here + rest) ≡ sum + rest = omega arith in
    subst (IsTotal counts clients) e
    (known (here + rest) (subst (λ xs. IsTotal counts xs (here + rest)) (sym (next_left clients n d within)) (here, rest, own, left, refl)))

none_left : {X : Type 0} (xs : List X) (n : ℕ) → length xs ≤ n → drop n xs ≡ []
none_left [] zero h = refl
none_left [] (suc n) h = refl
none_left (x ∷ xs) zero h = absurd (omega arith)
none_left (x ∷ xs) (suc n) h = none_left xs n (omega arith)

pub total_all : (counts : ℕ → ℕ → Type 0) (clients : List ℕ) (n total : ℕ) → length clients ≤ n
    → ((rest : ℕ) → IsTotal counts (drop n clients) rest → IsTotal counts clients (total + rest)) → IsTotal counts clients total
total_all counts clients n total end known =
    let e : total + 0 ≡ total = omega arith in
    subst (IsTotal counts clients) e (known 0 (subst (λ xs. IsTotal counts xs 0) (sym (none_left clients n end)) refl))

-- One beat more is counted.
pub heads_next : (links : Links) (before after : List Placed) (p : Placed) (left rest : List Placed) (heads one total : ℕ) → left ≡ p ∷ rest → p ∷ before ≡ after
    → one ≡ one_if (at_head links before p) → heads + heads_after links before left ≡ total → (heads + one) + heads_after links after rest ≡ total
heads_next links before after p left rest heads one total is passed own known =
    ap (λ bs. (heads + one) + heads_after links bs rest) (sym passed)
    ∙ ap (λ n. (heads + n) + heads_after links (p ∷ before) rest) own
    ∙ (let e : (heads + one_if (at_head links before p)) + heads_after links (p ∷ before) rest ≡ heads + (one_if (at_head links before p) + heads_after links (p ∷ before) rest) = omega arith in e)
    ∙ ap (λ bs. heads + heads_after links before bs) (sym is)
    ∙ known
