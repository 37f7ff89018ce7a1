use Rattle.std.proofs.Common.{true, rules}
use Rattle.tl_midway.specs.LooseBounds.{may_be}
use Rattle.tl_midway.proofs.BoundLaws.{each_perm}
use Rattle.tl_midway.proofs.loose_bounds.LooseBounds.new.Goals as goal

pub returns : goal.returns
returns c block =
    each_perm (may_be (record { not_nothing = c.new.result; not_branch = c.new-2.result; not_trunk = c.new-3.result }) block) (λ held. true)
    (search rules) (search rules) (search rules)
