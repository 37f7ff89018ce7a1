use Rattle.std.proofs.Common.{refl, sym, subst}
use Rattle.tl_midway.specs.declared.loose_bounds.LooseBounds.{LooseBounds}
use Rattle.tl_midway.proofs.BoundLaws.{Joins, nothing_joined, branch_joined, trunk_joined}
use Rattle.tl_midway.proofs.loose_bounds.LooseBounds.join.Goals as goal

pub returns-in-Nothing : goal.returns-in-Nothing
returns-in-Nothing c =
    let old = c.args.self.now in
    let new : LooseBounds = record { not_nothing = c.take_out.new.blocks; not_branch = old.not_branch; not_trunk = old.not_trunk } in
    subst (Joins old new c.args.block) (sym c.in-Nothing.is) (nothing_joined old new c.args.block c.take_out.ensures refl refl)

pub returns-in-Branch : goal.returns-in-Branch
returns-in-Branch c =
    let old = c.args.self.now in
    let new : LooseBounds = record { not_nothing = old.not_nothing; not_branch = c.take_out-in-Branch.new.blocks; not_trunk = old.not_trunk } in
    subst (Joins old new c.args.block) (sym c.in-Branch.is) (branch_joined old new c.args.block c.take_out-in-Branch.ensures refl refl)

pub returns-in-Trunk : goal.returns-in-Trunk
returns-in-Trunk c =
    let old = c.args.self.now in
    let new : LooseBounds = record { not_nothing = old.not_nothing; not_branch = old.not_branch; not_trunk = c.take_out-in-Trunk.new.blocks } in
    subst (Joins old new c.args.block) (sym c.in-Trunk.is) (trunk_joined old new c.args.block c.take_out-in-Trunk.ensures refl refl)
