-- One link more.
use Rattle.std.proofs.Common.{◌≡◌, ℕ, zero, suc, ◌<◌, List, [], ◌∷◌, ◌++◌, length, get_or, arith}
use Rattle.std.specs.List.{Contains}
use Rattle.tl_advice.specs.declared.links.LinkCount.{LinkCount}

-- the one link is the only one
pub only_one : (link x : ℕ) → Contains (link ∷ []) x → link ≡ x
only_one link x (zero, below, is) = is
only_one link x (suc k, below, is) = absurd (omega (arith, below))

-- what holds of each count by its place, with one count more
pub each_more : (P : ℕ → LinkCount → Type 0) (counts : List LinkCount) (count : LinkCount) → ((k : ℕ) (d : LinkCount) → k < length counts → P k (get_or counts k d)) → P (length counts) count
    → (k : ℕ) (d : LinkCount) → k < length (counts ++ count ∷ []) → P k (get_or (counts ++ count ∷ []) k d)
each_more P [] count each own zero d below = own
each_more P [] count each own (suc k) d below = absurd (omega (arith, below))
each_more P (other ∷ counts) count each own zero d below = each zero d (omega arith)
each_more P (other ∷ counts) count each own (suc k) d below = each_more (λ n. P (suc n)) counts count (λ n e within. each (suc n) e (omega (arith, within))) own k d (omega (arith, below))
