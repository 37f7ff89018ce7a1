use Rattle.tl_show.specs.Lines.{told_lines_of}
use Rattle.tl_show.proofs.Noted.{told_noted, note_made}
use Rattle.tl_show.proofs.streaming.told_notes.Goals as goal

pub returns : goal.returns
returns c = note_made c.told_lines.result (told_lines_of c.args.topo.now c.args.told.now) c.told_lines.ensures (told_noted c.args.topo.now c.link_count.ensures.named c.args.told.now c.requires)
