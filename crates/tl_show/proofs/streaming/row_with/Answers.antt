use Rattle.std.proofs.Common.{◌≡◌, ◌++◌, [], sym, subst, append-nil}
use Rattle.std.specs.Prelude.{string_bytes}
use Rattle.tl_check.specs.Notes.{IsNoted}
use Rattle.tl_check.specs.Output.{row_text}
use Rattle.tl_check.proofs.NoteLaws.{noted_more, row_is_plain}
use Rattle.tl_show.proofs.Noted.{row_made}
use Rattle.tl_show.proofs.streaming.row_with.Goals as goal

pub returns : goal.returns
returns c =
    let plain = row_text c.args.topo.now c.args.row.now in
    let line = string_bytes c.in_ok-line.line in
    let notes = string_bytes c.in_ok-notes.notes in
    let is : IsNoted plain line = subst (IsNoted plain) (sym c.in_ok-line.ensures) (row_is_plain c.args.topo.now c.args.row.now c.link_count.ensures.named c.requires) in
    row_made c.format.result plain (line ++ notes) c.format.ensures.ok (subst (λ t. IsNoted t (line ++ notes)) (append-nil plain) (noted_more plain [] line notes is c.in_ok-notes.ensures))
