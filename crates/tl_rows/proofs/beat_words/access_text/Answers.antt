use Rattle.std.proofs.Common.{refl}
use Rattle.tl_rows.specs.Words.{access_text_of}
use Rattle.tl_rows.proofs.Texts.{in_words}
use Rattle.tl_rows.proofs.beat_words.access_text.Goals as goal

pub returns : goal.returns
unfolding access_text_of
returns c = in_words c.format.result _ (access_text_of c.args.beat.now) c.format.ensures.ok (rw (c.in_ok-bytes.ensures, c.in_ok-address.ensures, c.in_ok-mask.ensures) refl)
