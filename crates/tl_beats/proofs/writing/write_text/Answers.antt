use Rattle.std.proofs.Common.{[], ◌++◌}
use Rattle.std.specs.Prelude.{codes}
use Rattle.tl_text.proofs.Writes.{nothing, more, fell, ends, writes_all}
use Rattle.tl_text.specs.Words.{ended}
use Rattle.tl_beats.specs.Text.{header_text}
use Rattle.tl_beats.proofs.TextParts.{beats_text, fragment_parts, fragment_ends}
use Rattle.tl_beats.proofs.writing.write_text.Goals as goal

pub returns-in_err-write_header : goal.returns-in_err-write_header
returns-in_err-write_header g c =
    let contents = g.O.ByteOut.contents in
    let count = g.O.ByteOut.failure_count in
    let s = c.args.out.now in
    let f = c.args.fragment.now in
    fell contents count [] (ended (header_text f)) _ _ s s c.write_header.new.out c.from_residual.result c.from_residual.ensures.0 (fragment_parts f) (nothing contents count s) c.in_err-write_header.ensures

pub returns-in_err-write_beats : goal.returns-in_err-write_beats
returns-in_err-write_beats g c =
    let contents = g.O.ByteOut.contents in
    let count = g.O.ByteOut.failure_count in
    let f = c.args.fragment.now in
    fell contents count (ended (header_text f)) (beats_text f.beats) _ _ c.args.out.now c.write_header.new.out c.write_beats.new.out c.from_residual-in_err-write_beats.result c.from_residual-in_err-write_beats.ensures.0
    (fragment_parts f) c.in_ok-write_header.ensures (rw c.beats.ensures.exact at c.in_err-write_beats.ensures)

pub returns : goal.returns
returns g c =
    let contents = g.O.ByteOut.contents in
    let count = g.O.ByteOut.failure_count in
    let f = c.args.fragment.now in
    ends contents count (ended (header_text f) ++ beats_text f.beats) (codes "end\n") _ c.args.out.now c.write_beats.new.out c.write_all.new.out c.write_all.result (fragment_ends f)
    (more contents count (ended (header_text f)) (beats_text f.beats) c.args.out.now c.write_header.new.out c.write_beats.new.out c.in_ok-write_header.ensures (rw c.beats.ensures.exact at c.in_ok-write_beats.ensures))
    (writes_all contents count (codes "end\n") c.write_beats.new.out c.write_all.new.out c.write_all.result c.write_all.ensures.ok c.write_all.ensures.err)
