-- Unlawful params, and blocks that a message does not set.
use Rattle.std.proofs.Common.{◌≡◌, ℕ, ◌≤◌, ◌==◌, ◌&&◌, ◌||◌, Bool, true, false, cond, List, [], ◌∷◌, Option, Some, None, zero, suc, length, refl, ap, ◌∙◌, arith}
use Rattle.std.specs.Prelude.{nat_lt}
use Rattle.std.specs.List.{slice_get}
use Rattle.std.specs.Option.{option_map, option_map_or, option_and_then}
use Rattle.std.proofs.lemmas.Bool.Decides.{nat_tests}
use Rattle.tl_tables.specs.declared.Op.{Op}
use Rattle.tl_tables.specs.declared.Op.TheVariants as op
use Rattle.tl_tables.specs.declared.Perm.{Perm}
use Rattle.tl_tables.specs.Params.{param_count, is_lawful, caps, froms, tos, cap_of, from_of, to_of, is_above}
use Rattle.tl_tables.specs.Kinds.{is_acquire, is_grant, is_probe_ack, is_release}
use Rattle.tl_definitions.specs.Messages.{Message, block_of, granted_block, grant_claim, own_claim, claim, claimed_or, bound_of}
use Rattle.tl_definitions.specs.Past.{ClientPast}
use Rattle.tl_definitions.specs.Rules.{is_wrong}
use Rattle.tl_client_rules.specs.ClientLaws.{UnlawfulClaimsNothing, OtherBlocksStay}

other_law : (found : Option (ℕ × Perm)) (block : ℕ) (earlier : Perm) → option_map_or (λ set. set.0 == block) found false ≡ false → claimed_or found block earlier ≡ earlier
other_law None block earlier h = refl
other_law (Some (b, set)) block earlier h = ap (λ t. cond t set earlier) h

pub other_blocks_stay : OtherBlocksStay
other_blocks_stay exponent message before block none = other_law (claim exponent message) block (bound_of exponent before block) none

-- ---- unlawful params

-- Nothing stands beyond the end of a list.
beyond : (xs : List Perm) (n k : ℕ) → length xs ≤ n → nat_lt k n ≡ false → slice_get xs k ≡ None
beyond [] n k few h = refl
beyond (x ∷ xs) n zero few h = absurd (grind (arith, nat_tests))
beyond (x ∷ xs) zero (suc k) few h = absurd (omega arith)
beyond (x ∷ xs) (suc n) (suc k) few h = beyond xs n k (omega arith) (grind (arith, nat_tests))

few_caps : (o : Op) → length (caps o) ≤ param_count o
few_caps op.ProbeBlock = omega arith
few_caps op.ProbePerm = omega arith
few_caps op.Grant = omega arith
few_caps op.GrantData = omega arith
few_caps _ = omega arith

few_froms : (o : Op) → length (froms o) ≤ param_count o
few_froms op.AcquireBlock = omega arith
few_froms op.AcquirePerm = omega arith
few_froms op.ProbeAck = omega arith
few_froms op.ProbeAckData = omega arith
few_froms op.Release = omega arith
few_froms op.ReleaseData = omega arith
few_froms _ = omega arith

few_tos : (o : Op) → length (tos o) ≤ param_count o
few_tos op.AcquireBlock = omega arith
few_tos op.AcquirePerm = omega arith
few_tos op.ProbeAck = omega arith
few_tos op.ProbeAckData = omega arith
few_tos op.Release = omega arith
few_tos op.ReleaseData = omega arith
few_tos _ = omega arith

no_cap : (o : Op) (param : ℕ) → is_lawful o param ≡ false → cap_of o param ≡ None
no_cap o param h = beyond (caps o) (param_count o) param (few_caps o) h

no_from : (o : Op) (param : ℕ) → is_lawful o param ≡ false → from_of o param ≡ None
no_from o param h = beyond (froms o) (param_count o) param (few_froms o) h

no_to : (o : Op) (param : ℕ) → is_lawful o param ≡ false → to_of o param ≡ None
no_to o param h = beyond (tos o) (param_count o) param (few_tos o) h

no_grant : (denied : Bool) (granted : Option ℕ) → cond {A = Option (ℕ × Perm)} denied None (option_and_then (λ (block : ℕ). option_map (λ (cap : Perm). (block, cap)) None) granted) ≡ None
no_grant true granted = refl
no_grant false None = refl
no_grant false (Some block) = refl

no_own : (first second : Bool) → cond {A = Option Perm} first None (cond second None None) ≡ None
no_own true second = refl
no_own false true = refl
no_own false false = refl

no_claim : (exponent : ℕ) (message : Message) → is_lawful message.op message.beat.param ≡ false → claim exponent message ≡ None
no_claim exponent message h =
    let o : Op = message.op in
    let own : own_claim message ≡ None =
    ap (λ from. cond (is_acquire o) from (cond (is_probe_ack o || is_release o) (to_of o message.beat.param) None)) (no_from o message.beat.param h)
    ∙ ap (λ to. cond (is_acquire o) None (cond (is_probe_ack o || is_release o) to None)) (no_to o message.beat.param h)
    ∙ no_own (is_acquire o) (is_probe_ack o || is_release o) in
    let granted : grant_claim exponent message ≡ None =
    ap (λ found. cond message.beat.denied None (option_and_then (λ block. option_map (λ cap. (block, cap)) found) (granted_block exponent message))) (no_cap o message.beat.param h)
    ∙ no_grant message.beat.denied (granted_block exponent message) in
    ap (λ found. cond (is_grant o) found (option_map (λ set. (block_of exponent message, set)) (own_claim message))) granted
    ∙ ap (λ found. cond (is_grant o) None (option_map (λ set. (block_of exponent message, set)) found)) own
    ∙ elim (is_grant o) as (λ b. cond {A = Option (ℕ × Perm)} b None None ≡ None) [ true ↦ refl | false ↦ refl ]

pub never : (b : Bool) → (b && false) ≡ false
never true = refl
never false = refl

pub unlawful_claims_nothing : UnlawfulClaimsNothing
unlawful_claims_nothing exponent message h =
    let o : Op = message.op in
    let claims = no_from o message.beat.param h in (
      (λ before block. ap (λ found. claimed_or found block (bound_of exponent before block)) (no_claim exponent message h)),
      (λ (strict : Bool) (past : ClientPast). (
        ap (λ from. is_acquire o && option_map_or (is_wrong strict (past.bound (block_of exponent message))) from false) claims ∙ never (is_acquire o),
        ap (λ from. (is_probe_ack o || is_release o) && option_map_or (is_wrong strict (past.bound (block_of exponent message))) from false) claims ∙ never (is_probe_ack o || is_release o),
        ap (λ to. is_probe_ack o && option_map_or (λ t. option_map_or (is_above t) (option_and_then (λ cap. cap) (past.probe (block_of exponent message))) false) to false) (no_to o message.beat.param h)
            ∙ never (is_probe_ack o),
      )),
    )
