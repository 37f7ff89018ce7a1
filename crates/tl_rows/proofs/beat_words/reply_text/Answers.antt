use Rattle.std.proofs.Common.{refl}
use Rattle.tl_rows.specs.Words.{reply_text_of}
use Rattle.tl_rows.proofs.Texts.{in_words}
use Rattle.tl_rows.proofs.beat_words.reply_text.Goals as goal

pub returns : goal.returns
unfolding reply_text_of
returns c = in_words c.format.result _ (reply_text_of c.args.beat.now) c.format.ensures.ok (rw (c.in_ok-bytes.ensures) refl)
