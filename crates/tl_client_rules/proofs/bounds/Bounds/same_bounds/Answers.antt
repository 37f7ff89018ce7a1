use Rattle.std.proofs.Common.{◌≡◌, true, false, sym, ◌∙◌}
use Rattle.tl_state.specs.BlockMap.{blocks_of}
use Rattle.tl_client_rules.proofs.BoundLaws.{agreeing_base, agreeing_blocks, same_by_entries}
use Rattle.tl_client_rules.proofs.bounds.Bounds.same_bounds.Goals as goal

pub returns-then-agrees : goal.returns-then-agrees
returns-then-agrees c =
    let one = c.args.self.now in
    let two = c.args.other.now in
    let here = c.agrees.ensures.0 c.if-agrees.true in (
      (λ h. let there = c.agrees-then-agrees.ensures.0 h in same_by_entries one two here.0 here.1 there.0 there.1),
      (λ same. c.agrees-then-agrees.ensures.1 (agreeing_blocks two one (blocks_of two.recent) (λ block. sym (same block)), agreeing_base two one (λ block. sym (same block)))),
    )

pub returns-else-agrees : goal.returns-else-agrees
returns-else-agrees c =
    let one = c.args.self.now in
    let two = c.args.other.now in (
      (λ h. let never : true ≡ false = sym h ∙ c.if-agrees.false in cc),
      (λ same. c.agrees.ensures.1 (agreeing_blocks one two (blocks_of one.recent) same, agreeing_base one two same)),
    )
