use Rattle.std.proofs.Common.{◌≡◌, true, false, sym, ◌∙◌, arith}
use Rattle.tl_client_rules.proofs.SameLaws.{same_parts, parts_of_same}
use Rattle.tl_client_rules.proofs.client.ClientStateSame.is_same.Goals as goal
use Rattle.tl_client_rules.proofs.client.ClientStateSame.is_same.Goals.{then-self-other-via-then-self-other, then-self-other-via-else-self-other+then-not-is_same, then-not-same_bounds-via-then-not-same_bounds, then-not-same_bounds-via-else-not-same_bounds+then-not-same_blocks}

pub returns-then-self-other : goal.returns-then-self-other
returns-then-self-other c = (
  (λ h. cc),
  (λ e. let parts = parts_of_same c.args.self.now c.args.other.now e in elim c.then-self-other.branch [
    | then-self-other-via-then-self-other w ↦ absurd (omega (arith, parts.0))
    | then-self-other-via-else-self-other+then-not-is_same w ↦ (let never : true ≡ false = sym (w.is_same.ensures.1 parts.1) ∙ w.if-not-is_same.true in cc)
  ]),
)

pub returns-then-not-same_bounds : goal.returns-then-not-same_bounds
returns-then-not-same_bounds c = (
  (λ h. cc),
  (λ e. let parts = parts_of_same c.args.self.now c.args.other.now e in elim c.then-not-same_bounds.branch [
    | then-not-same_bounds-via-then-not-same_bounds w ↦ (let never : true ≡ false = sym (c.same_bounds.ensures.1 parts.2) ∙ w.if-not-same_bounds.true in cc)
    | then-not-same_bounds-via-else-not-same_bounds+then-not-same_blocks w ↦ (let never : true ≡ false = sym (w.same_blocks.ensures.1 parts.3) ∙ w.if-not-same_blocks.true in cc)
  ]),
)

pub returns-then-same_blocks : goal.returns-then-same_blocks
returns-then-same_blocks c =
    let one = c.args.self.now in
    let two = c.args.other.now in (
      (λ h. same_parts one two (omega arith) (c.is_same.ensures.0 c.if-not-is_same.false) (c.same_bounds.ensures.0 c.if-not-same_bounds.false)
          (c.same_blocks.ensures.0 c.if-not-same_blocks.false) (c.same_blocks-2.ensures.0 c.if-same_blocks.true) (c.same_blocks-then-same_blocks.ensures.0 h)),
      (λ e. c.same_blocks-then-same_blocks.ensures.1 (parts_of_same one two e).5),
    )

pub returns-else-same_blocks : goal.returns-else-same_blocks
returns-else-same_blocks c = (
  (λ h. let never : true ≡ false = sym h ∙ c.if-same_blocks.false in cc),
  (λ e. c.same_blocks-2.ensures.1 (parts_of_same c.args.self.now c.args.other.now e).4),
)
