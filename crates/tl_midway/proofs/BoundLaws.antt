-- Bounds after a message that sets one, or may.
use Rattle.std.proofs.Common.{◌≡◌, ℕ, ◌==◌, ◌||◌, Bool, true, false, cond, not, Some, refl, sym, ap, ◌∙◌}
use Rattle.tl_tables.specs.declared.Perm.{Perm}
use Rattle.tl_tables.specs.declared.Perm.TheVariants as perm
use Rattle.tl_definitions.specs.Known.{same_perm, set_or_joined, claimed_after, any_block_after}
use Rattle.tl_definitions.proofs.Sure.{or_second}
use Rattle.tl_midway.specs.declared.loose_bounds.LooseBounds.{LooseBounds}
use Rattle.tl_midway.specs.LooseBounds.{holds, may_be, AreBounds}

pub each_perm : (one other : Perm → Bool) → one perm.Nothing ≡ other perm.Nothing → one perm.Branch ≡ other perm.Branch → one perm.Trunk ≡ other perm.Trunk
    → (held : Perm) → one held ≡ other held
each_perm one other nothing branch trunk perm.Nothing = nothing
each_perm one other nothing branch trunk perm.Branch = branch
each_perm one other nothing branch trunk perm.Trunk = trunk

-- ---- one permission

not_not : (b : Bool) → not (not b) ≡ b
not_not true = refl
not_not false = refl

or_not : (a b : Bool) → b ≡ false → (a || b) ≡ a
or_not true b h = refl
or_not false b h = h

module _ (set held : Perm) (old : Perm → Bool) (now was : Bool) where
  set_one : (here : Bool) → old held ≡ not was → now ≡ cond here (not (same_perm set held)) was → not now ≡ cond here (set_or_joined true set old) old held
  set_one true h e = ap not e ∙ not_not (same_perm set held)
  set_one false h e = ap not e ∙ sym h

  joined_one : (here : Bool) → same_perm set held ≡ true → old held ≡ not was → now ≡ cond here false was → not now ≡ cond here (set_or_joined false set old) old held
  joined_one true s h e = ap not e ∙ sym (or_second (old held) (same_perm set held) s)
  joined_one false s h e = ap not e ∙ sym h

  joined_all : same_perm set held ≡ true → now ≡ false → not now ≡ set_or_joined false set old held
  joined_all s e = ap not e ∙ sym (or_second (old held) (same_perm set held) s)

module _ (set held : Perm) (old : Perm → Bool) where
  kept_one : (here : Bool) → same_perm set held ≡ false → old held ≡ cond here (set_or_joined false set old) old held
  kept_one true s = sym (or_not (old held) (same_perm set held) s)
  kept_one false s = refl

  kept_all : same_perm set held ≡ false → old held ≡ set_or_joined false set old held
  kept_all s = sym (or_not (old held) (same_perm set held) s)

-- ---- all three

module _ (old new : LooseBounds) where
  pub bound_set : (block : ℕ) (set : Perm)
      → ((other : ℕ) → holds new.not_nothing other ≡ cond (block == other) (not (same_perm set perm.Nothing)) (holds old.not_nothing other))
      → ((other : ℕ) → holds new.not_branch other ≡ cond (block == other) (not (same_perm set perm.Branch)) (holds old.not_branch other))
      → ((other : ℕ) → holds new.not_trunk other ≡ cond (block == other) (not (same_perm set perm.Trunk)) (holds old.not_trunk other))
      → AreBounds new (claimed_after true (Some (block, set)) (may_be old))
  bound_set block set nothing branch trunk other = each_perm (may_be new other) (claimed_after true (Some (block, set)) (may_be old) other)
      (set_one set perm.Nothing (may_be old other) (holds new.not_nothing other) (holds old.not_nothing other) (block == other) refl (nothing other))
      (set_one set perm.Branch (may_be old other) (holds new.not_branch other) (holds old.not_branch other) (block == other) refl (branch other))
      (set_one set perm.Trunk (may_be old other) (holds new.not_trunk other) (holds old.not_trunk other) (block == other) refl (trunk other))

  abbrev pub Joins : ℕ → Perm → Type 0
  Joins block set = AreBounds new (claimed_after false (Some (block, set)) (may_be old))

  abbrev pub JoinsAll : Perm → Type 0
  JoinsAll set = AreBounds new (any_block_after (Some set) (may_be old))

  pub nothing_joined : (block : ℕ) → ((other : ℕ) → holds new.not_nothing other ≡ cond (block == other) false (holds old.not_nothing other))
      → new.not_branch ≡ old.not_branch → new.not_trunk ≡ old.not_trunk → Joins block perm.Nothing
  nothing_joined block out branch trunk other = each_perm (may_be new other) (claimed_after false (Some (block, perm.Nothing)) (may_be old) other)
      (joined_one perm.Nothing perm.Nothing (may_be old other) (holds new.not_nothing other) (holds old.not_nothing other) (block == other) refl refl (out other))
      (ap (λ s. not (holds s other)) branch ∙ kept_one perm.Nothing perm.Branch (may_be old other) (block == other) refl)
      (ap (λ s. not (holds s other)) trunk ∙ kept_one perm.Nothing perm.Trunk (may_be old other) (block == other) refl)

  pub branch_joined : (block : ℕ) → ((other : ℕ) → holds new.not_branch other ≡ cond (block == other) false (holds old.not_branch other))
      → new.not_nothing ≡ old.not_nothing → new.not_trunk ≡ old.not_trunk → Joins block perm.Branch
  branch_joined block out nothing trunk other = each_perm (may_be new other) (claimed_after false (Some (block, perm.Branch)) (may_be old) other)
      (ap (λ s. not (holds s other)) nothing ∙ kept_one perm.Branch perm.Nothing (may_be old other) (block == other) refl)
      (joined_one perm.Branch perm.Branch (may_be old other) (holds new.not_branch other) (holds old.not_branch other) (block == other) refl refl (out other))
      (ap (λ s. not (holds s other)) trunk ∙ kept_one perm.Branch perm.Trunk (may_be old other) (block == other) refl)

  pub trunk_joined : (block : ℕ) → ((other : ℕ) → holds new.not_trunk other ≡ cond (block == other) false (holds old.not_trunk other))
      → new.not_nothing ≡ old.not_nothing → new.not_branch ≡ old.not_branch → Joins block perm.Trunk
  trunk_joined block out nothing branch other = each_perm (may_be new other) (claimed_after false (Some (block, perm.Trunk)) (may_be old) other)
      (ap (λ s. not (holds s other)) nothing ∙ kept_one perm.Trunk perm.Nothing (may_be old other) (block == other) refl)
      (ap (λ s. not (holds s other)) branch ∙ kept_one perm.Trunk perm.Branch (may_be old other) (block == other) refl)
      (joined_one perm.Trunk perm.Trunk (may_be old other) (holds new.not_trunk other) (holds old.not_trunk other) (block == other) refl refl (out other))

  pub all_nothing : ((block : ℕ) → holds new.not_nothing block ≡ false) → new.not_branch ≡ old.not_branch → new.not_trunk ≡ old.not_trunk → JoinsAll perm.Nothing
  all_nothing out branch trunk block = each_perm (may_be new block) (any_block_after (Some perm.Nothing) (may_be old) block)
      (joined_all perm.Nothing perm.Nothing (may_be old block) (holds new.not_nothing block) (holds old.not_nothing block) refl (out block))
      (ap (λ s. not (holds s block)) branch ∙ kept_all perm.Nothing perm.Branch (may_be old block) refl)
      (ap (λ s. not (holds s block)) trunk ∙ kept_all perm.Nothing perm.Trunk (may_be old block) refl)

  pub all_branch : ((block : ℕ) → holds new.not_branch block ≡ false) → new.not_nothing ≡ old.not_nothing → new.not_trunk ≡ old.not_trunk → JoinsAll perm.Branch
  all_branch out nothing trunk block = each_perm (may_be new block) (any_block_after (Some perm.Branch) (may_be old) block)
      (ap (λ s. not (holds s block)) nothing ∙ kept_all perm.Branch perm.Nothing (may_be old block) refl)
      (joined_all perm.Branch perm.Branch (may_be old block) (holds new.not_branch block) (holds old.not_branch block) refl (out block))
      (ap (λ s. not (holds s block)) trunk ∙ kept_all perm.Branch perm.Trunk (may_be old block) refl)

  pub all_trunk : ((block : ℕ) → holds new.not_trunk block ≡ false) → new.not_nothing ≡ old.not_nothing → new.not_branch ≡ old.not_branch → JoinsAll perm.Trunk
  all_trunk out nothing branch block = each_perm (may_be new block) (any_block_after (Some perm.Trunk) (may_be old) block)
      (ap (λ s. not (holds s block)) nothing ∙ kept_all perm.Trunk perm.Nothing (may_be old block) refl)
      (ap (λ s. not (holds s block)) branch ∙ kept_all perm.Trunk perm.Branch (may_be old block) refl)
      (joined_all perm.Trunk perm.Trunk (may_be old block) (holds new.not_trunk block) (holds old.not_trunk block) refl (out block))
