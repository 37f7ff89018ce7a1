use Rattle.std.proofs.Common.{◌≡◌, true, false, sym, ◌∙◌}
use Rattle.tl_state.specs.BlockMap.{value_at, blocks_of}
use Rattle.tl_state.proofs.BlockMapLaws.{all_agree, same_by_blocks}
use Rattle.tl_state.proofs.block_map.BlockMap.same_values.Goals as goal

pub returns-then-agrees : goal.returns-then-agrees
returns-then-agrees g c =
    let one = c.args.self.now in
    let two = c.args.other.now in (
      (λ h. same_by_blocks one two (c.agrees.ensures.0 c.if-agrees.true) (c.agrees-then-agrees.ensures.0 h)),
      (λ same. c.agrees-then-agrees.ensures.1 (all_agree (λ b. value_at two b ≡ value_at one b) (blocks_of two) (λ b. sym (same b)))),
    )

pub returns-else-agrees : goal.returns-else-agrees
returns-else-agrees g c =
    let one = c.args.self.now in
    let two = c.args.other.now in (
      (λ h. let never : true ≡ false = sym h ∙ c.if-agrees.false in cc),
      (λ same. c.agrees.ensures.1 (all_agree (λ b. value_at one b ≡ value_at two b) (blocks_of one) same)),
    )
