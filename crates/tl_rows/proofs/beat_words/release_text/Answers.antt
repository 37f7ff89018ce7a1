use Rattle.std.proofs.Common.{refl}
use Rattle.tl_rows.specs.Words.{release_text_of}
use Rattle.tl_rows.proofs.Texts.{in_words}
use Rattle.tl_rows.proofs.beat_words.release_text.Goals as goal

pub returns : goal.returns
unfolding release_text_of
returns c = in_words c.format.result _ (release_text_of c.args.beat.now) c.format.ensures.ok (rw (c.in_ok-bytes.ensures, c.in_ok-address.ensures) refl)
