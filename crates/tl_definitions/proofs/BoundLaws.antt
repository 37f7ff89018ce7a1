-- What sets a bound.
use Rattle.std.proofs.Common.{◌≡◌, ℕ, ◌⊎◌, inl, inr, ◌==◌, ◌||◌, ◌&&◌, Bool, true, false, cond, List, [], ◌∷◌, ◌++◌, Option, Some, None, refl, sym, ap, subst, ◌∙◌, arith}
use Rattle.std.specs.Prelude.{◌↔◌}
use Rattle.std.specs.List.{AllByRecursion}
use Rattle.std.specs.Option.{option_map, option_map_or}
use Rattle.std.proofs.lemmas.Bool.Decides.{nat_tests}
use Rattle.tl_tables.specs.declared.Op.{Op}
use Rattle.tl_tables.specs.declared.Op.TheVariants as op
use Rattle.tl_tables.specs.declared.Perm.{Perm}
use Rattle.tl_tables.specs.declared.Perm.TheVariants as perm
use Rattle.tl_tables.specs.Params.{from_of, to_of, is_above}
use Rattle.tl_tables.specs.Kinds.{is_acquire, is_grant, is_probe_ack, is_release}
use Rattle.tl_definitions.specs.Messages.{Message, block_of, own_claim, grant_claim, claim, claimed_or, bound_of}
use Rattle.tl_definitions.specs.Rules.{is_wrong}
use Rattle.tl_definitions.specs.Laws.{DeniedGivesNothing, ReleaseLeaves, StrictClaimsAreTheBound, OnlyGrantsRaise, BoundsAreLastSet, sets_block}
use Rattle.tl_definitions.proofs.CoherenceLaws.{own_below}

pub denied_gives_nothing : DeniedGivesNothing
denied_gives_nothing exponent message before block grant denied = rw (grant, denied) refl

-- The claim of a ProbeAck or Release.
release_claim : (exponent : ℕ) (o : Op) (param block : ℕ) (granted : Option (ℕ × Perm)) (to : Perm) → (is_probe_ack o || is_release o) ≡ true → to_of o param ≡ Some to
    → cond (is_grant o) granted (option_map (λ set. (block, set)) (cond (is_acquire o) (from_of o param) (cond (is_probe_ack o || is_release o) (to_of o param) None))) ≡ Some (block, to)
release_claim exponent op.ProbeAck param block granted to h e = ap (option_map (λ set. (block, set))) e
release_claim exponent op.ProbeAckData param block granted to h e = ap (option_map (λ set. (block, set))) e
release_claim exponent op.Release param block granted to h e = ap (option_map (λ set. (block, set))) e
release_claim exponent op.ReleaseData param block granted to h e = ap (option_map (λ set. (block, set))) e
release_claim exponent op.PutFullData param block granted to h e = cc
release_claim exponent op.PutPartialData param block granted to h e = cc
release_claim exponent op.ArithmeticData param block granted to h e = cc
release_claim exponent op.LogicalData param block granted to h e = cc
release_claim exponent op.Get param block granted to h e = cc
release_claim exponent op.Intent param block granted to h e = cc
release_claim exponent op.AcquireBlock param block granted to h e = cc
release_claim exponent op.AcquirePerm param block granted to h e = cc
release_claim exponent op.ProbeBlock param block granted to h e = cc
release_claim exponent op.ProbePerm param block granted to h e = cc
release_claim exponent op.AccessAck param block granted to h e = cc
release_claim exponent op.AccessAckData param block granted to h e = cc
release_claim exponent op.HintAck param block granted to h e = cc
release_claim exponent op.Grant param block granted to h e = cc
release_claim exponent op.GrantData param block granted to h e = cc
release_claim exponent op.ReleaseAck param block granted to h e = cc
release_claim exponent op.GrantAck param block granted to h e = cc

pub release_leaves : ReleaseLeaves
release_leaves exponent message before to kind e =
    let is : claim exponent message ≡ Some (block_of exponent message, to) =
    release_claim exponent message.op message.beat.param (block_of exponent message) (grant_claim exponent message) to kind e in
    let same : (block_of exponent message == block_of exponent message) ≡ true = grind (arith, nat_tests) in (
      ap (λ found. claimed_or found (block_of exponent message) (bound_of exponent before (block_of exponent message))) is
          ∙ ap (λ t. cond t to (bound_of exponent before (block_of exponent message))) same,
      λ block ne. ap (λ found. claimed_or found block (bound_of exponent before block)) is ∙ ap (λ t. cond t to (bound_of exponent before block)) ne,
    )

never_above : (p : Perm) → is_above p p ≡ false
never_above perm.Nothing = refl
never_above perm.Branch = refl
never_above perm.Trunk = refl

own_lowers : (found : Option Perm) (own_block block : ℕ) (bound : ℕ → Perm) → option_map_or (λ set. is_above set (bound own_block)) found false ≡ false
    → is_above (claimed_or (option_map (λ set. (own_block, set)) found) block (bound block)) (bound block) ≡ false
own_lowers None own_block block bound clean = never_above (bound block)
own_lowers (Some set) own_block block bound clean =
    elim (own_block == block) as (λ t. (own_block == block) ≡ t → is_above (cond t set (bound block)) (bound block) ≡ false) [
      | true ↦ λ e. let same : own_block ≡ block = grind (arith, nat_tests) in subst (λ k. is_above set (bound k) ≡ false) same clean
      | false ↦ λ e. never_above (bound block)
    ] refl

pub only_grants_raise : OnlyGrantsRaise
only_grants_raise strict exponent message before block grant p1 p2 =
    ap (λ t. is_above (claimed_or (cond t (grant_claim exponent message) (option_map (λ set. (block_of exponent message, set)) (own_claim message))) block (bound_of exponent before block)) (bound_of exponent before block)) grant
    ∙ own_lowers (own_claim message) (block_of exponent message) block (bound_of exponent before) (own_below strict message.op message.beat.param (bound_of exponent before (block_of exponent message)) p1 p2)

-- ---- strict links

same_claim : (bound from : Perm) → (is_wrong true bound from ≡ false) ↔ (from ≡ bound)
same_claim perm.Nothing perm.Nothing = (λ h. refl, λ e. refl)
same_claim perm.Nothing perm.Branch = (λ h. cc, λ e. cc)
same_claim perm.Nothing perm.Trunk = (λ h. cc, λ e. cc)
same_claim perm.Branch perm.Nothing = (λ h. cc, λ e. cc)
same_claim perm.Branch perm.Branch = (λ h. refl, λ e. refl)
same_claim perm.Branch perm.Trunk = (λ h. cc, λ e. cc)
same_claim perm.Trunk perm.Nothing = (λ h. cc, λ e. cc)
same_claim perm.Trunk perm.Branch = (λ h. cc, λ e. cc)
same_claim perm.Trunk perm.Trunk = (λ h. refl, λ e. refl)

-- Of two tests that share their second part, and of which one holds in its first, both fail exactly where that fails.
one_of_both : (a b c w : Bool) → (a || b || c) ≡ true → (((a && w) ≡ false) × (((b || c) && w) ≡ false)) ↔ (w ≡ false)
one_of_both true b c false h = (λ e. refl, λ e. (refl, grind (arith, nat_tests)))
one_of_both true b c true h = (λ e. e.0, λ e. cc)
one_of_both false true c w h = (λ e. e.1, λ e. (refl, e))
one_of_both false false true w h = (λ e. e.1, λ e. (refl, e))
one_of_both false false false w h = cc

pub strict_claims_are_the_bound : StrictClaimsAreTheBound
strict_claims_are_the_bound exponent past message from kind e =
    let bound : Perm = past.bound (block_of exponent message) in
    let wrong : Bool = option_map_or (is_wrong true bound) (from_of message.op message.beat.param) false in
    let found : wrong ≡ is_wrong true bound from = ap (λ o. option_map_or (is_wrong true bound) o false) e in
    let kept = one_of_both (is_acquire message.op) (is_probe_ack message.op) (is_release message.op) wrong kind in
    let same = same_claim bound from in
    (λ both. same.0 (sym found ∙ kept.0 both), λ is. kept.1 (found ∙ same.1 is))

-- One message more, where the rest is known.
abbrev LastSet : ℕ → List Message → ℕ → Perm → Type 0
LastSet exponent before block bound =
    ((newer older : List Message) × (message : Message) × (before ≡ newer ++ message ∷ older) × (claim exponent message ≡ Some (block, bound))
    × AllByRecursion (λ m. sets_block exponent block m ≡ false) newer)
    ⊎ (AllByRecursion (λ m. sets_block exponent block m ≡ false) before × (bound ≡ perm.Nothing))

unset : (exponent : ℕ) (message : Message) (before : List Message) (block : ℕ) (bound : Perm) → sets_block exponent block message ≡ false → LastSet exponent before block bound → LastSet exponent (message ∷ before) block bound
unset exponent message before block bound h known = elim known [
  | inl r ↦ inl (message ∷ r.0, r.1, r.2, ap (λ ms. message ∷ ms) r.3, r.4, (h, r.5))
  | inr r ↦ inr ((h, r.0), r.1)
]

last_claim : (exponent : ℕ) (message : Message) (before : List Message) (block : ℕ) (bound : Perm) (found : Option (ℕ × Perm)) → claim exponent message ≡ found
    → LastSet exponent before block bound → LastSet exponent (message ∷ before) block (claimed_or found block bound)
last_claim exponent message before block bound None e known = unset exponent message before block bound (ap (λ f. option_map_or (λ set. set.0 == block) f false) e) known
last_claim exponent message before block bound (Some (b, set)) e known =
    elim (b == block) as (λ t. (b == block) ≡ t → LastSet exponent (message ∷ before) block (cond t set bound)) [
      | true ↦ λ same. let eq : b ≡ block = grind (arith, nat_tests) in inl ([], before, message, refl, e ∙ ap (λ k. Some (k, set)) eq, tt)
      | false ↦ λ ne. unset exponent message before block bound (ap (λ f. option_map_or (λ s. s.0 == block) f false) e ∙ ne) known
    ] refl

pub bounds_are_last_set : BoundsAreLastSet
bounds_are_last_set exponent [] block = inr (tt, refl)
bounds_are_last_set exponent (message ∷ before) block =
    last_claim exponent message before block (bound_of exponent before block) (claim exponent message) refl (bounds_are_last_set exponent before block)
