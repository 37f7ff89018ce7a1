use Rattle.std.proofs.Common.{◌==◌, not, cond, ap, ◌∙◌}
use Rattle.tl_midway.specs.LooseBounds.{holds}
use Rattle.tl_midway.proofs.BoundLaws.{bound_set}
use Rattle.tl_midway.proofs.loose_bounds.LooseBounds.set.Goals as goal

pub returns : goal.returns
returns c =
    let old = c.args.self.now in
    bound_set old (record { not_nothing = c.put.new.blocks; not_branch = c.put-2.new.blocks; not_trunk = c.put-3.new.blocks }) c.args.block c.args.perm
    (λ other. c.in_ok-put.ensures other ∙ ap (λ b. cond (c.args.block == other) (not b) (holds old.not_nothing other)) c.same_perm.ensures)
    (λ other. c.in_ok-put-2.ensures other ∙ ap (λ b. cond (c.args.block == other) (not b) (holds old.not_branch other)) c.same_perm-2.ensures)
    (λ other. c.in_ok-put-3.ensures other ∙ ap (λ b. cond (c.args.block == other) (not b) (holds old.not_trunk other)) c.same_perm-3.ensures)
