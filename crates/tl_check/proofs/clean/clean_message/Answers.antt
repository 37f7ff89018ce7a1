use Rattle.std.proofs.Common.{sym, ◌∙◌}
use Rattle.tl_check.proofs.PlainLaws.{one_plain}
use Rattle.tl_check.proofs.clean.clean_message.Goals as goal

pub keeps_format-requires-clause-plain : goal.keeps_format-requires-clause-plain
keeps_format-requires-clause-plain c = one_plain c.args.decl.now c.args.head.now c.in_ok-op.op c.requires.plain (sym c.op_of.ensures ∙ c.in_ok-op.was)
