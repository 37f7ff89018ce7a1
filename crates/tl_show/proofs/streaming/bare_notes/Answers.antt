use Rattle.std.proofs.Common.{◌≡◌, ◌<◌, length, sym, subst}
use Rattle.tl_show.specs.Lines.{bare_lines_of}
use Rattle.tl_show.proofs.Noted.{bare_noted, note_made}
use Rattle.tl_show.proofs.streaming.bare_notes.Goals as goal

pub returns-in-Some : goal.returns-in-Some
returns-in-Some c =
    let stands : c.in-Some.place.link < length c.args.topo.now.links = subst (λ n. n < length c.args.topo.now.links) (sym c.in-Some.ensures.0) c.requires in
    note_made c.bare_lines.result (bare_lines_of c.args.topo.now c.in-Some.place c.args.row.now.rule) c.bare_lines.ensures (bare_noted c.args.topo.now c.link_count.ensures.named c.in-Some.place (stands, c.in-Some.ensures.1) c.args.row.now.rule)
