-- Messages of links without caches are of no kind that caches need.
use Rattle.std.proofs.Common.{◌≡◌, true, false, cond, Some, None, refl, subst}
use Rattle.std.specs.Prelude.{slice_get}
use Rattle.std.specs.Option.{option_and_then}
use Rattle.tl_tables.specs.declared.Chan.{Chan}
use Rattle.tl_tables.specs.declared.Chan.TheVariants as chan
use Rattle.tl_tables.specs.declared.Level.{Level}
use Rattle.tl_tables.specs.declared.Level.TheVariants as level
use Rattle.tl_tables.specs.declared.Op.{Op}
use Rattle.tl_tables.specs.declared.Op.TheVariants as op
use Rattle.tl_tables.specs.Messages.{codes, least_level, level_le, op_at}
use Rattle.tl_tables.specs.Kinds.{is_acquire, is_probe, is_probe_ack, is_release, is_grant, is_release_ack, is_grant_ack}
use Rattle.tl_topology.specs.declared.LinkDecl.{LinkDecl}
use Rattle.tl_beats.specs.declared.Beat.{Beat}
use Rattle.tl_definitions.specs.Heads.{message_of}
use Rattle.tl_midway.specs.Asked.{is_plain}

abbrev pub IsPlain : LinkDecl → Type 0
IsPlain link = level_le level.C link.level ≡ false

never_both : (l found : Level) → found ≡ level.C → level_le level.C l ≡ false → level_le found l ≡ true → ⊥
never_both l found is below reached = let also : level_le level.C l ≡ true = subst (λ k. level_le k l ≡ true) is reached in cc

of_caches : (l : Level) (c : Chan) (o : Op) → least_level c o ≡ level.C → level_le level.C l ≡ false → level_le (least_level c o) l ≡ true → is_plain o ≡ true
of_caches l c o is below reached = absurd (never_both l (least_level c o) is below reached)

plain_op : (l : Level) (c : Chan) (o : Op) → level_le level.C l ≡ false → level_le (least_level c o) l ≡ true → is_plain o ≡ true
plain_op l c op.AcquireBlock below reached = of_caches l c op.AcquireBlock (elim c as (λ c. least_level c op.AcquireBlock ≡ level.C) [ chan.A ↦ refl | chan.B ↦ refl | chan.C ↦ refl | chan.D ↦ refl | chan.E ↦ refl ]) below reached
plain_op l c op.AcquirePerm below reached = of_caches l c op.AcquirePerm (elim c as (λ c. least_level c op.AcquirePerm ≡ level.C) [ chan.A ↦ refl | chan.B ↦ refl | chan.C ↦ refl | chan.D ↦ refl | chan.E ↦ refl ]) below reached
plain_op l c op.ProbeBlock below reached = of_caches l c op.ProbeBlock (elim c as (λ c. least_level c op.ProbeBlock ≡ level.C) [ chan.A ↦ refl | chan.B ↦ refl | chan.C ↦ refl | chan.D ↦ refl | chan.E ↦ refl ]) below reached
plain_op l c op.ProbePerm below reached = of_caches l c op.ProbePerm (elim c as (λ c. least_level c op.ProbePerm ≡ level.C) [ chan.A ↦ refl | chan.B ↦ refl | chan.C ↦ refl | chan.D ↦ refl | chan.E ↦ refl ]) below reached
plain_op l c op.ProbeAck below reached = of_caches l c op.ProbeAck (elim c as (λ c. least_level c op.ProbeAck ≡ level.C) [ chan.A ↦ refl | chan.B ↦ refl | chan.C ↦ refl | chan.D ↦ refl | chan.E ↦ refl ]) below reached
plain_op l c op.ProbeAckData below reached = of_caches l c op.ProbeAckData (elim c as (λ c. least_level c op.ProbeAckData ≡ level.C) [ chan.A ↦ refl | chan.B ↦ refl | chan.C ↦ refl | chan.D ↦ refl | chan.E ↦ refl ]) below reached
plain_op l c op.Release below reached = of_caches l c op.Release (elim c as (λ c. least_level c op.Release ≡ level.C) [ chan.A ↦ refl | chan.B ↦ refl | chan.C ↦ refl | chan.D ↦ refl | chan.E ↦ refl ]) below reached
plain_op l c op.ReleaseData below reached = of_caches l c op.ReleaseData (elim c as (λ c. least_level c op.ReleaseData ≡ level.C) [ chan.A ↦ refl | chan.B ↦ refl | chan.C ↦ refl | chan.D ↦ refl | chan.E ↦ refl ]) below reached
plain_op l c op.ReleaseAck below reached = of_caches l c op.ReleaseAck (elim c as (λ c. least_level c op.ReleaseAck ≡ level.C) [ chan.A ↦ refl | chan.B ↦ refl | chan.C ↦ refl | chan.D ↦ refl | chan.E ↦ refl ]) below reached
plain_op l c op.Grant below reached = of_caches l c op.Grant (elim c as (λ c. least_level c op.Grant ≡ level.C) [ chan.A ↦ refl | chan.B ↦ refl | chan.C ↦ refl | chan.D ↦ refl | chan.E ↦ refl ]) below reached
plain_op l c op.GrantData below reached = of_caches l c op.GrantData (elim c as (λ c. least_level c op.GrantData ≡ level.C) [ chan.A ↦ refl | chan.B ↦ refl | chan.C ↦ refl | chan.D ↦ refl | chan.E ↦ refl ]) below reached
plain_op l c op.GrantAck below reached = of_caches l c op.GrantAck (elim c as (λ c. least_level c op.GrantAck ≡ level.C) [ chan.A ↦ refl | chan.B ↦ refl | chan.C ↦ refl | chan.D ↦ refl | chan.E ↦ refl ]) below reached
plain_op l c _ below reached = refl

pub plain_message : (link : LinkDecl) (beat : Beat) (o : Op) → IsPlain link → message_of link beat ≡ Some o → is_plain o ≡ true
unfolding op_at
plain_message link beat o below =
    elim (slice_get (codes beat.chan) beat.opcode) as (λ code. option_and_then (λ found. option_and_then (λ o. cond (level_le (least_level beat.chan o) link.level) (Some o) None) found) code ≡ Some o
    → is_plain o ≡ true) [
      | None ↦ λ h. cc
      | Some found ↦ elim found as (λ found. option_and_then (λ o. cond (level_le (least_level beat.chan o) link.level) (Some o) None) found ≡ Some o → is_plain o ≡ true) [
        | None ↦ λ h. cc
        | Some q ↦ elim (level_le (least_level beat.chan q) link.level) as (λ b. level_le (least_level beat.chan q) link.level ≡ b → cond b (Some q) None ≡ Some o → is_plain o ≡ true) [
          | true ↦ λ reached h. (let same : q ≡ o = cc in subst (λ x. is_plain x ≡ true) same (plain_op link.level beat.chan q below reached))
          | false ↦ λ reached h. cc
        ] refl
      ]
    ]

pub kinds : (o : Op) → is_plain o ≡ true
    → (is_acquire o ≡ false) × (is_probe o ≡ false) × (is_probe_ack o ≡ false) × (is_release o ≡ false) × (is_grant o ≡ false) × (is_release_ack o ≡ false) × (is_grant_ack o ≡ false)
kinds op.AcquireBlock h = absurd cc
kinds op.AcquirePerm h = absurd cc
kinds op.ProbeBlock h = absurd cc
kinds op.ProbePerm h = absurd cc
kinds op.ProbeAck h = absurd cc
kinds op.ProbeAckData h = absurd cc
kinds op.Release h = absurd cc
kinds op.ReleaseData h = absurd cc
kinds op.ReleaseAck h = absurd cc
kinds op.Grant h = absurd cc
kinds op.GrantData h = absurd cc
kinds op.GrantAck h = absurd cc
kinds _ h = (refl, refl, refl, refl, refl, refl, refl)
