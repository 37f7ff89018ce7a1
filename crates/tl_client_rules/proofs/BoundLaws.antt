-- Bounds are the same where they agree on the blocks of both.
use Rattle.std.proofs.Common.{◌≡◌, ℕ, true, false, cond, List, [], ◌∷◌, Some, None, unwrap_or, IsSome, refl, sym, ap, ◌∙◌, subst}
use Rattle.std.specs.BTreeMap.{is_at}
use Rattle.std.specs.Cmp.{Equal-is}
use Rattle.std.specs.FinMap.{nat_cmp-IsAntisymmetric}
use Rattle.std.specs.List.{AllByRecursion}
use Rattle.std.specs.Map.{lookup}
use Rattle.std.specs.Ordering.{nat_cmp}
use Rattle.tl_tables.specs.declared.Perm.{Perm}
use Rattle.tl_tables.specs.declared.Perm.TheVariants.{Nothing}
use Rattle.tl_state.specs.BlockMap.{BlockData, blocks_of, is_among}
use Rattle.tl_state.specs.Map.{value_at}
use Rattle.tl_state.proofs.BlockMapLaws.{has_none, all_agree, same_on}
use Rattle.tl_client_rules.specs.Bounds.{bound_by, bound_at, settled_at, SameBounds, AgreeOn, AgreeOnBase, AgreeOnBlocks}
use Rattle.tl_client_rules.specs.Settled.{SettledData, perm_of, perm_at}
use Rattle.tl_client_rules.specs.declared.bounds.Bounds.{Bounds}

agree_at : {V : Type 0} (f g : ℕ → Perm) (entries : List (ℕ × V)) (block : ℕ) → AllByRecursion (λ e. f e.0 ≡ g e.0) entries
    → IsSome (lookup (is_at (nat_cmp block)) entries) → f block ≡ g block
agree_at f g [] block all is = cc
agree_at {V} f g (e ∷ entries) block all is =
    elim (is_at (nat_cmp block) e.0) as (λ t. is_at (nat_cmp block) e.0 ≡ t → IsSome (cond t (Some e.1) (lookup (is_at (nat_cmp block)) entries)) → f block ≡ g block) [
      | true ↦ λ here _. let same : block ≡ e.0 = nat_cmp-IsAntisymmetric block e.0 ((Equal-is (nat_cmp block e.0)).0 here) in
          ap f same ∙ all.0 ∙ sym (ap g same)
      | false ↦ λ _ there. agree_at f g entries block all.1 there
    ] refl is

pub agreeing : {V : Type 0} (one two : Bounds) (entries : List (ℕ × V)) → SameBounds one two → AgreeOn one two entries
agreeing one two [] same = tt
agreeing one two (e ∷ entries) same = (same e.0, agreeing one two entries same)

pub agreeing_blocks : (one two : Bounds) (blocks : List ℕ) → SameBounds one two → AgreeOnBlocks one two blocks
agreeing_blocks one two blocks same = all_agree (λ block. bound_at one block ≡ bound_at two block) blocks same

-- Where nothing was set, the bound is the settled one.
pub settled_first : (recent : BlockData Perm) (base : SettledData) (block : ℕ) → is_among block (blocks_of recent) ≡ false → perm_at base block ≡ bound_by recent base block
settled_first recent base block not = sym (ap (λ o. unwrap_or o (perm_at base block)) (has_none recent block not))

pub agreeing_base : (one two : Bounds) → SameBounds one two → AgreeOnBase one two
agreeing_base one two same = (agreeing one two one.base.trunks same, agreeing one two one.base.branches same)

-- A block is among the trunks, or among the branches, or has no bound.
settled_cases : (bounds : Bounds) (block : ℕ) (P : Type 0) → (IsSome (value_at nat_cmp bounds.base.trunks block) → P) → (IsSome (value_at nat_cmp bounds.base.branches block) → P)
    → (settled_at bounds block ≡ Nothing → P) → P
settled_cases bounds block P trunk branch neither = elim (value_at nat_cmp bounds.base.trunks block) as (λ o. value_at nat_cmp bounds.base.trunks block ≡ o → P) [
  | Some held ↦ λ g. trunk (subst IsSome (sym g) refl)
  | None ↦ λ g. elim (value_at nat_cmp bounds.base.branches block) as (λ o. value_at nat_cmp bounds.base.branches block ≡ o → P) [
    | Some held ↦ λ h. branch (subst IsSome (sym h) refl)
    | None ↦ λ h. neither (ap (λ o. perm_of o (value_at nat_cmp bounds.base.branches block)) g ∙ ap (perm_of None) h)
  ] refl
] refl

module _ (one two : Bounds) (here : AgreeOnBlocks one two (blocks_of one.recent)) (here_settled : AgreeOnBase one two)
    (there : AgreeOnBlocks two one (blocks_of two.recent)) (there_settled : AgreeOnBase two one) where
  settled_agree : (block : ℕ) → settled_at one block ≡ bound_at one block → settled_at two block ≡ bound_at two block → bound_at one block ≡ bound_at two block
  settled_agree block first second = settled_cases one block (bound_at one block ≡ bound_at two block)
      (agree_at (bound_at one) (bound_at two) one.base.trunks block here_settled.0)
      (agree_at (bound_at one) (bound_at two) one.base.branches block here_settled.1)
      (λ nothing. settled_cases two block (bound_at one block ≡ bound_at two block)
      (λ is. sym (agree_at (bound_at two) (bound_at one) two.base.trunks block there_settled.0 is))
      (λ is. sym (agree_at (bound_at two) (bound_at one) two.base.branches block there_settled.1 is))
      (λ nothing_there. sym first ∙ nothing ∙ sym nothing_there ∙ second))

  pub same_by_entries : SameBounds one two
  same_by_entries = same_on (bound_at one) (bound_at two) (blocks_of one.recent) (blocks_of two.recent) here there
      (λ block not_one not_two. settled_agree block (settled_first one.recent one.base block not_one) (settled_first two.recent two.base block not_two))
