use Rattle.std.proofs.Common.{refl, sym, subst, rules}
use Rattle.tl_midway.specs.declared.loose_bounds.LooseBounds.{LooseBounds}
use Rattle.tl_midway.proofs.BoundLaws.{JoinsAll, all_nothing, all_branch, all_trunk}
use Rattle.tl_midway.proofs.loose_bounds.LooseBounds.join_all.Goals as goal

pub returns-in-Nothing : goal.returns-in-Nothing
returns-in-Nothing c =
    let old = c.args.self.now in
    let new : LooseBounds = record { not_nothing = c.clear.new.self; not_branch = old.not_branch; not_trunk = old.not_trunk } in
    subst (JoinsAll old new) (sym c.in-Nothing.is) (all_nothing old new (λ block. search rules) refl refl)

pub returns-in-Branch : goal.returns-in-Branch
returns-in-Branch c =
    let old = c.args.self.now in
    let new : LooseBounds = record { not_nothing = old.not_nothing; not_branch = c.clear-in-Branch.new.self; not_trunk = old.not_trunk } in
    subst (JoinsAll old new) (sym c.in-Branch.is) (all_branch old new (λ block. search rules) refl refl)

pub returns-in-Trunk : goal.returns-in-Trunk
returns-in-Trunk c =
    let old = c.args.self.now in
    let new : LooseBounds = record { not_nothing = old.not_nothing; not_branch = old.not_branch; not_trunk = c.clear-in-Trunk.new.self } in
    subst (JoinsAll old new) (sym c.in-Trunk.is) (all_trunk old new (λ block. search rules) refl refl)
