use Rattle.std.proofs.Common.{ap}
use Rattle.tl_script.specs.Replies.{edit_text, refused_text}
use Rattle.tl_run.specs.Output.{text_of}
use Rattle.tl_run.proofs.LineLaws.{edit_is_plain, refused_is_plain}
use Rattle.tl_show.proofs.Noted.{line_made}
use Rattle.tl_run.proofs.showing.ShowingRunner.text.Goals as goal

pub returns-in-Edit : goal.returns-in-Edit
returns-in-Edit g c = line_made c.edit_line.result (edit_text c.in-Edit.number) _ c.edit_line.ensures (ap (text_of c.args.self.now.setting.topo) c.in-Edit.is) (edit_is_plain c.in-Edit.number)

pub returns-in-Refused : goal.returns-in-Refused
returns-in-Refused g c =
    line_made c.refusal_line.result (refused_text c.in-Refused.code c.in-Refused.number) _ c.refusal_line.ensures (ap (text_of c.args.self.now.setting.topo) c.in-Refused.is) (refused_is_plain c.in-Refused.code c.in-Refused.number)
