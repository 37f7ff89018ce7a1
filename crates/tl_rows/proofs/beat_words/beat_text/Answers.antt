use Rattle.std.proofs.Common.{refl}
use Rattle.tl_rows.specs.Words.{beat_text_of}
use Rattle.tl_rows.proofs.Texts.{in_words}
use Rattle.tl_rows.proofs.beat_words.beat_text.Goals as goal

pub returns : goal.returns
unfolding beat_text_of
returns c = in_words c.format.result _ (beat_text_of c.args.found c.args.beat.now) c.format.ensures.ok (rw (c.in_ok-message.ensures, c.in_ok-fields.ensures, c.bits_text-bits.ensures) refl)
