-- Tables that answer alike have equal entries.
use Rattle.std.proofs.Common.{◌≡◌, ◌&&◌, Bool, sym, ap, ◌∙◌}
use Rattle.std.specs.Bool.{Decides}
use Rattle.std.specs.Cmp.{IsTotalOrder}
use Rattle.std.specs.Cmp.Lexicographic.{pointwise}
use Rattle.std.specs.Ordering.{is_eq}
use Rattle.std.specs.declared.cmp.Ordering.{Ordering}
use Rattle.std.specs.BTreeMap.{BTreeMap, IsOrdered, IsClone, get, is_at}
use Rattle.std.specs.Map.{lookup}
use Rattle.std.proofs.lemmas.Map.Entries.{entries_from_clone}
use Rattle.std.proofs.lemmas.Map.Lookups.{btree_map_from_get, btree_map_eq-Decides}

-- `E` is the keys' equality and `F` that of the values
pub tables_decide : {K V : Type 0} {R : K → K → Ordering} {E : K → K → Bool} {F : V → V → Bool} → IsTotalOrder R
    → ((x y : K) → E x y ≡ is_eq (R x y)) → ((x y : K) → Decides (E x y) (x ≡ y)) → ((v w : V) → Decides (F v w) (v ≡ w))
    → (m n : BTreeMap K V) → IsOrdered R m → IsOrdered R n
    → (r : Bool) → r ≡ pointwise (λ p q. E p.0 q.0 && F p.1 q.1) m.entries n.entries
    → Decides r ((key : K) → get R m key ≡ get R n key)
tables_decide {R} {E} total matches keys values m n up down r is =
    let entries = btree_map_eq-Decides keys values m n r is in (
      (λ h key. ap (λ es. lookup (is_at (R key)) es) (entries.0 h)),
      (λ h. entries.1 (btree_map_from_get total m n up down h (λ x y e. (keys x y).0 (matches x y ∙ ap is_eq e)))),
    )

-- A copy answers as its source does, where each clone is its source.
pub copied : {K V : Type 0} {C : K → K → Type 0} {D : V → V → Type 0} (R : K → K → Ordering) → ((x y : K) → C x y → y ≡ x) → ((v w : V) → D v w → w ≡ v)
    → (m n : BTreeMap K V) → IsClone C D m n → (key : K) → get R m key ≡ get R n key
copied {C} {D} R keys values m n is key = ap (λ es. lookup (is_at (R key)) es) (sym (entries_from_clone C D keys values m.entries n.entries is))
