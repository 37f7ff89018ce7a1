use Rattle.std.proofs.Common.{rules, length}
use Rattle.tl_edits.specs.Edits.{plain}
use Rattle.tl_edits.proofs.LogLaws.{kept_with, no_cause, free_inside}
use Rattle.tl_edits.proofs.log.Log.accept.Goals as goal

pub apply-requires : goal.apply-requires
apply-requires c = no_cause (length c.self.inside.edits.items) c.self.inside.inputs (plain c.args.edit)
    (free_inside plain c.self.inside.edits.items c.self.inside.inputs c.args.self.now c.args.edit c.self.view_is c.self.invariant.1 c.requires)

pub invariant_of-self-2 : goal.invariant_of-self-2
invariant_of-self-2 c = kept_with plain c.self.inside.edits.items c.push.new.self.items c.self.inside.inputs c.apply.new.self c.args.edit c.self.invariant.0 c.self.invariant.1
    (free_inside plain c.self.inside.edits.items c.self.inside.inputs c.args.self.now c.args.edit c.self.view_is c.self.invariant.1 c.requires) (search rules) (search rules)
