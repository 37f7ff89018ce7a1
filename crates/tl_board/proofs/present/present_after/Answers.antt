use Rattle.std.proofs.Common.{sym, ap, subst, ◌∙◌}
use Rattle.tl_edits.specs.Inputs.{InputData}
use Rattle.tl_capture.specs.Present.{IsPresent}
use Rattle.tl_board.proofs.present.present_after.Goals as goal

pub returns-clause-exact : goal.returns-clause-exact
returns-clause-exact c = c.kept.ensures.same ∙ c.present.ensures ∙ ap (λ (i : InputData). i.fragments) c.inputs.ensures.exact

pub returns-clause-kept : goal.returns-clause-kept
returns-clause-kept c = subst IsPresent (c.present.ensures ∙ ap (λ (i : InputData). i.fragments) c.inputs.ensures.exact) c.kept.ensures.kept

pub returns-clause-topo : goal.returns-clause-topo
returns-clause-topo c = ap (λ (i : InputData). i.topo) (sym c.inputs.ensures.exact) ∙ c.inputs.ensures.topo
