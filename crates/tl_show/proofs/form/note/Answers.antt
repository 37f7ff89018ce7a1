use Rattle.std.proofs.Common.{[], ◌∷◌, ◌++◌}
use Rattle.tl_check.proofs.NoteLaws.{ends_here, ends_more, note_line}
use Rattle.tl_show.proofs.Noted.{note_made}
use Rattle.tl_show.proofs.form.note.Goals as goal

pub returns : goal.returns
returns c = note_made c.format.result _ c.format.ensures.ok (note_line (c.args.text.now ++ 10 ∷ []) (ends_more c.args.text.now (10 ∷ []) c.requires ends_here))
