use Rattle.std.proofs.Common.{refl}
use Rattle.tl_rows.specs.Words.{numbered_text_of}
use Rattle.tl_rows.proofs.Texts.{in_words}
use Rattle.tl_rows.proofs.beat_words.numbered_text.Goals as goal

pub returns : goal.returns
unfolding numbered_text_of
returns c = in_words c.format.result _ (numbered_text_of c.args.op c.args.beat.now) c.format.ensures.ok (rw (c.chan_text-chan.ensures, c.op_text-name.ensures) refl)
