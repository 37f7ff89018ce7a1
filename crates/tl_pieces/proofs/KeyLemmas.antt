-- The order of keys.
use Rattle.std.proofs.Common.{◌≡◌, ℕ, ◌≤◌, true, false, cond, refl, ap, ◌∙◌, arith, Ordering, Less, Equal, Greater, Option, Some, None}
use Rattle.std.proofs.lemmas.Bool.Decides.{nat_tests}
use Rattle.std.specs.Ordering.{nat_cmp, is_eq, is_gt, is_lt, ordering_then, ordering_reverse}
use Rattle.std.specs.Cmp.{IsTotalOrder, then_total, on_total}
use Rattle.std.proofs.lemmas.Cmp.{nat_cmp_total}
use Rattle.std.proofs.lemmas.Map.Lookups.{exact_pairs, exact_unsigned}
use Rattle.std.specs.BTreeMap.{is_at}
use Rattle.tl_pieces.specs.declared.key.PieceKey.{PieceKey}
use Rattle.tl_pieces.specs.Keys.{key_cmp}
use Rattle.tl_pieces.specs.Tallies.{is_past, lowered}

pub key_total : IsTotalOrder key_cmp
key_total = then_total (on_total (λ (x : PieceKey). x.owner) nat_cmp_total) (on_total (λ (x : PieceKey). x.window) nat_cmp_total)

pub is_equal : (o : Ordering) → is_eq o ≡ true → o ≡ Equal
is_equal Less h = cc
is_equal Equal h = refl
is_equal Greater h = cc

pub key_exact : (k q : PieceKey) → is_at (key_cmp k) q ≡ true → k ≡ q
key_exact k q h =
    ap (λ (p : ℕ × ℕ). record { owner = p.0; window = p.1 }) (exact_pairs nat_cmp nat_cmp exact_unsigned exact_unsigned (k.owner, k.window) (q.owner, q.window) (is_equal (key_cmp k q) h))

own : (o : Ordering) → o ≡ ordering_reverse o → o ≡ Equal
own Less h = cc
own Equal h = refl
own Greater h = cc

pub key_self : (k : PieceKey) → key_cmp k k ≡ Equal
key_self k = own (key_cmp k k) (key_total.antisymm k k)

is_greater : (o : Ordering) → is_gt o ≡ true → o ≡ Greater
is_greater Less h = cc
is_greater Equal h = cc
is_greater Greater h = refl

-- an earlier key has no greater owner
pub owner_le : (x k : PieceKey) → key_cmp k x ≡ Greater → x.owner ≤ k.owner
owner_le x k h = go (nat_cmp k.owner x.owner) refl h
  where
    go : (o : Ordering) → nat_cmp k.owner x.owner ≡ o → ordering_then o (nat_cmp k.window x.window) ≡ Greater → x.owner ≤ k.owner
    go Less e g = cc
    go Equal e g = grind (arith, nat_tests)
    go Greater e g = grind (arith, nat_tests)

-- nor has a later one a lesser
pub owner_ge : (x k : PieceKey) → key_cmp k x ≡ Less → k.owner ≤ x.owner
owner_ge x k h = owner_le k x (key_total.antisymm x k ∙ ap ordering_reverse h)

-- what the lowered cursor has passed, the cursor has
pub lowered_past : (c : Option PieceKey) (k q : PieceKey) → is_past (lowered c k) q ≡ true → is_past c q ≡ true
lowered_past None k q h = refl
lowered_past (Some c) k q h = go (key_cmp c k) refl h
  where
    above : key_cmp q k ≡ Less → key_cmp k c ≡ Less → is_gt (key_cmp c q) ≡ true
    above a b = ap is_gt (key_total.antisymm c q ∙ ap ordering_reverse (key_total.trans q k c a b))

    go : (o : Ordering) → key_cmp c k ≡ o → is_past (cond (is_lt o) (Some c) (Some k)) q ≡ true → is_gt (key_cmp c q) ≡ true
    go Less e h = h
    go Equal e h = ap is_gt (key_total.congr c k q e) ∙ h
    go Greater e h = above (key_total.antisymm q k ∙ ap ordering_reverse (is_greater (key_cmp k q) h)) (key_total.antisymm k c ∙ ap ordering_reverse e)

-- and it has not passed the key
pub lowered_here : (c : Option PieceKey) (k : PieceKey) → is_past (lowered c k) k ≡ false
lowered_here None k = ap is_gt (key_self k)
lowered_here (Some c) k = go (key_cmp c k) refl
  where
    go : (o : Ordering) → key_cmp c k ≡ o → is_past (cond (is_lt o) (Some c) (Some k)) k ≡ false
    go Less e = ap is_gt e
    go Equal e = ap is_gt (key_self k)
    go Greater e = ap is_gt (key_self k)
