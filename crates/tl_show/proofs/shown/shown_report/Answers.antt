use Rattle.std.proofs.Common.{sym, subst, ◌∙◌}
use Rattle.tl_check.specs.Notes.{IsNoted}
use Rattle.tl_check.proofs.NoteLaws.{head_is_plain}
use Rattle.tl_show.proofs.shown.shown_report.Goals as goal

pub with_lines-requires-clause-head : goal.with_lines-requires-clause-head
with_lines-requires-clause-head c = subst (λ t. IsNoted t t) (sym (c.as_str.ensures.value ∙ c.in_ok-head.ensures)) (head_is_plain c.args.report.now)
