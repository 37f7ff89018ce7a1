-- The same bounds are kept as the same trunks and branches.
use Rattle.std.proofs.Common.{◌≡◌, ℕ, Option, Some, None, IsSome, refl, ap, ◌∙◌}
use Rattle.std.specs.Ordering.{nat_cmp}
use Rattle.tl_state.specs.Map.{value_at, SameValues}
use Rattle.tl_client_rules.specs.Settled.{SettledData, perm_of, perm_at, AreApart, SamePerms}

-- Equal bounds come from the same entry among the trunks.
trunk_by_perm : (trunk branch other_trunk other_branch : Option (Unit {0})) → perm_of trunk branch ≡ perm_of other_trunk other_branch → trunk ≡ other_trunk
trunk_by_perm None branch None other_branch h = refl
trunk_by_perm None None (Some t) other_branch h = cc
trunk_by_perm None (Some b) (Some t) other_branch h = cc
trunk_by_perm (Some t) branch None None h = cc
trunk_by_perm (Some t) branch None (Some b) h = cc
trunk_by_perm (Some t) branch (Some u) other_branch h = refl

-- Equal bounds come from the same entry among the branches, where no block is among both.
branch_by_perm : (trunk branch other_trunk other_branch : Option (Unit {0})) → (IsSome trunk → branch ≡ None) → (IsSome other_trunk → other_branch ≡ None)
    → perm_of trunk branch ≡ perm_of other_trunk other_branch → branch ≡ other_branch
branch_by_perm None None None None one two h = refl
branch_by_perm None None None (Some b) one two h = cc
branch_by_perm None (Some b) None None one two h = cc
branch_by_perm None (Some b) None (Some c) one two h = refl
branch_by_perm None None (Some t) other_branch one two h = cc
branch_by_perm None (Some b) (Some t) other_branch one two h = cc
branch_by_perm (Some t) branch None None one two h = cc
branch_by_perm (Some t) branch None (Some b) one two h = cc
branch_by_perm (Some t) branch (Some u) other_branch one two h = let first = one refl in let second = two refl in cc

pub same_perms : (one two : SettledData) → SameValues nat_cmp one.trunks two.trunks → SameValues nat_cmp one.branches two.branches → SamePerms one two
same_perms one two trunks branches block = ap (λ o. perm_of o (value_at nat_cmp one.branches block)) (trunks block) ∙ ap (perm_of (value_at nat_cmp two.trunks block)) (branches block)

pub same_trunks : (one two : SettledData) → SamePerms one two → SameValues nat_cmp one.trunks two.trunks
same_trunks one two same block = trunk_by_perm (value_at nat_cmp one.trunks block) (value_at nat_cmp one.branches block) (value_at nat_cmp two.trunks block) (value_at nat_cmp two.branches block) (same block)

pub same_branches : (one two : SettledData) → AreApart one.trunks one.branches → AreApart two.trunks two.branches → SamePerms one two → SameValues nat_cmp one.branches two.branches
same_branches one two one_apart two_apart same block = branch_by_perm (value_at nat_cmp one.trunks block) (value_at nat_cmp one.branches block) (value_at nat_cmp two.trunks block)
    (value_at nat_cmp two.branches block) (one_apart block) (two_apart block) (same block)
