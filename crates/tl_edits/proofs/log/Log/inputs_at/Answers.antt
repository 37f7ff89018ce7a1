use Rattle.std.proofs.Common.{rules, take}
use Rattle.tl_edits.specs.Edits.{plain}
use Rattle.tl_edits.proofs.LogLaws.{next_is_free, next_is_made, all_is_made, inputs_topo}
use Rattle.tl_edits.proofs.log.Log.inputs_at.Goals as goal

pub apply-requires : goal.apply-requires
apply-requires c =
    next_is_free plain c.deref.result.now c.args.self.now (search rules) c.args.count c.loop-edit.edit-index c.loop-edit.inputs c.loop-edit.invariant
    (search rules) c.edit-item.result (search rules) (search rules)

pub loop-edit-preserved : goal.loop-edit-preserved
loop-edit-preserved c =
    next_is_made plain c.deref.result.now c.args.self.now (search rules) c.args.count c.loop-edit.edit-index c.loop-edit.inputs c.loop-edit.invariant
    (search rules) c.edit-item.result (search rules) (search rules) c.apply.new.self (search rules)

pub returns-clause-exact : goal.returns-clause-exact
returns-clause-exact c =
    all_is_made plain c.deref.result.now c.args.self.now (search rules) c.args.count c.loop-edit.edit-index c.loop-edit.inputs c.loop-edit.invariant (search rules)

pub returns-clause-topo : goal.returns-clause-topo
returns-clause-topo c =
    inputs_topo c.args.self.now.topo (take c.args.count c.args.self.now.edits) c.loop-edit.inputs
    (all_is_made plain c.deref.result.now c.args.self.now (search rules) c.args.count c.loop-edit.edit-index c.loop-edit.inputs c.loop-edit.invariant (search rules))
