use Rattle.std.proofs.Common.{Some, None, sym, append-nil, ◌∙◌}
use Rattle.tl_script.proofs.ScriptLaws.{more_attached}
use Rattle.tl_script.proofs.reading.AttachLinesVisitor.visit.Goals as goal

pub returns-in_ok-push : goal.returns-in_ok-push
returns-in_ok-push c first before was =
    more_attached first.all.items c.args.self.now.all.items _ before c.args.command.now (Some c.in-Some.monitor) (sym c.monitor.ensures ∙ c.in-Some.is) was c.in_ok-push.ensures.items

pub returns-in_default : goal.returns-in_default
returns-in_default c first before was =
    more_attached first.all.items c.args.self.now.all.items _ before c.args.command.now None (sym c.monitor.ensures ∙ c.in_default.is) was (sym (append-nil c.args.self.now.all.items))
