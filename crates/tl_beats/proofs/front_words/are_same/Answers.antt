use Rattle.std.proofs.Common.{◌-◌, arith, refl, length, take, drop}
use Rattle.tl_beats.proofs.SameTexts.{same_word, same_front, same_texts}
use Rattle.tl_beats.proofs.front_words.are_same.Goals as goal

pub loop-at-init : goal.loop-at-init
loop-at-init c = record {
  same = refl;
  within = omega arith;
}

pub loop-at-preserved : goal.loop-at-preserved
loop-at-preserved c = record {
  same = same_front c.loop-at.at c.args.text.now c.args.other.now c.loop-at.invariant.same
      (same_word c.word_at-in-loop-at.result c.word_at-in-loop-at-2.result (take 8 (drop c.loop-at.at c.args.text.now)) (take 8 (drop c.loop-at.at c.args.other.now)) c.if-word_at-2.false c.word_at-in-loop-at.ensures.bytes c.word_at-in-loop-at-2.ensures.bytes);
  within = omega (arith, c.loop-at-test.true, c.requires.long);
}

pub returns : goal.returns
returns c same = same_texts c.loop-at.at (length c.args.text.now - 8) c.args.text.now c.args.other.now (omega (arith, c.requires.long)) c.requires.as_long c.loop-at-test.false c.loop-at.invariant.same
    (same_word c.word_at.result c.word_at-2.result (take 8 (drop (length c.args.text.now - 8) c.args.text.now)) (take 8 (drop (length c.args.text.now - 8) c.args.other.now)) c.if-word_at.false c.word_at.ensures.bytes c.word_at-2.ensures.bytes)
