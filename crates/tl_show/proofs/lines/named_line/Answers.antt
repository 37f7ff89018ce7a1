use Rattle.std.proofs.Common.{refl}
use Rattle.tl_show.specs.Lines.{named_line_of}
use Rattle.tl_show.proofs.Texts.{in_words}
use Rattle.tl_show.proofs.lines.named_line.Goals as goal

pub returns : goal.returns
unfolding named_line_of
returns c = in_words c.format.result _ (named_line_of c.args.label.now c.args.topo.now c.args.place.now) c.format.ensures.ok (rw (c.in_ok-text.ensures) refl)
