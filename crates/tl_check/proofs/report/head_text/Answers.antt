use Rattle.std.proofs.Common.{refl}
use Rattle.tl_check.specs.Output.{head_text}
use Rattle.tl_check.proofs.Texts.{in_words}
use Rattle.tl_check.proofs.report.head_text.Goals as goal

pub returns : goal.returns
unfolding head_text
returns c = in_words c.format.result _ (head_text c.args.report.now) c.format.ensures.ok (rw (← c.rows.ensures, ← c.report.view_is) refl)
