use Rattle.std.proofs.Common.{◌∙◌}
use Rattle.tl_script.proofs.AcceptedLaws.{when_done, more_accepted}
use Rattle.tl_script.proofs.audit.EditsVisitor.visit.Goals as goal

pub returns : goal.returns
returns c =
    when_done c.push_asked.result (λ edits first before was. (
      c.push_asked.ensures.topo ∙ was.0,
      more_accepted first.log.topo c.args.self.now.log.topo first.log.edits c.args.self.now.log.edits c.push_asked.new.log.edits before c.args.command.now was.0 was.1 edits,
    ))
    c.push_asked.ensures.edits
