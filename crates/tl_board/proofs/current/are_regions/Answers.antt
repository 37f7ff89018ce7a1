use Rattle.std.proofs.Common.{rules, ◌<◌, refl}
use Rattle.tl_board.proofs.CurrentLemmas.{same_regions}
use Rattle.tl_board.proofs.current.are_regions.Goals as goal

pub returns : goal.returns
returns c = (
  λ _. same_regions c.args.own.now c.args.other.now c.is_empty-none.ensures.kept c.is_empty.ensures.kept c.requires.own c.requires.other
      (λ k lt. c.loop-number.invariant k (let below : k < c.loop-number.number = search rules in below)),
  λ _. refl,
)
