use Rattle.std.proofs.Common.{[], refl, sym, subst}
use Rattle.tl_pass.specs.Parts.{HasJudged}
use Rattle.tl_pass.proofs.JoinLaws.{none_judged}
use Rattle.tl_pass.proofs.part.Whole.new.Goals as goal

pub returns : goal.returns
returns c midway topo = record { count = refl; judged = subst (λ rs. HasJudged midway topo 0 [] rs 0) (sym c.new.ensures.items) (none_judged midway topo 0) }
