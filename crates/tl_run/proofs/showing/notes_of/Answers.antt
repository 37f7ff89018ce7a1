use Rattle.std.proofs.Common.{[]}
use Rattle.std.specs.Prelude.{string_bytes}
use Rattle.tl_check.proofs.NoteLaws.{noted_more}
use Rattle.tl_show.proofs.Noted.{note_made}
use Rattle.tl_run.proofs.showing.notes_of.Goals as goal

pub returns : goal.returns
returns c = note_made c.format.result _ c.format.ensures.ok (noted_more [] [] (string_bytes c.in_ok-own.own) (string_bytes c.in_ok-last.last) c.in_ok-own.ensures c.in_ok-last.ensures)
