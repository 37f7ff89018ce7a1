use Rattle.std.proofs.Common.{refl}
use Rattle.tl_rows.specs.Words.{coded_text_of}
use Rattle.tl_rows.proofs.Texts.{in_words}
use Rattle.tl_rows.proofs.beat_words.coded_text.Goals as goal

pub returns : goal.returns
unfolding coded_text_of
returns c = in_words c.format.result _ (coded_text_of c.args.beat.now) c.format.ensures.ok (rw (c.chan_text-chan.ensures) refl)
