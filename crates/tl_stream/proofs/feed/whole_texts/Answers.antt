use Rattle.std.proofs.Common.{rules, sym, ap, ◌∙◌}
use Rattle.tl_stream.specs.Parts.{joined_texts}
use Rattle.tl_stream.proofs.PartLemmas.{text_taken, begins_with}
use Rattle.tl_stream.proofs.feed.whole_texts.Goals as goal

pub loop-preserved : goal.loop-preserved
loop-preserved c = record {
  within = c.sought-found.ensures.within;
  taken = ap joined_texts c.in_ok-push.ensures.items
      ∙ text_taken c.args.bytes.now c.loop.texts.items c.in_ok-from_slice.field-0 c.loop.start c.sought-found.result.place c.loop.invariant.taken c.sought-found.ensures.after (search rules);
}

pub returns : goal.returns
returns c = begins_with c.args.bytes.now c.loop.texts.items c.loop.start c.loop.invariant.taken
