use Rattle.std.proofs.Common.{◌≡◌, ◌≤◌, ◌+◌, length, take, rules, sym, ap, ◌∙◌, arith}
use Rattle.std.proofs.lemmas.List.{take_all}
use Rattle.tl_stream.specs.Parts.{joined_texts}
use Rattle.tl_stream.proofs.PartLemmas.{text_counted, counted_within}
use Rattle.tl_stream.proofs.feed.byte_count.Goals as goal

pub overflow_add-count : goal.overflow_add-count
overflow_add-count c =
    let more = text_counted c.args.texts.now c.loop-text.text-index c.text-item.result c.loop-text-test.true (sym c.text-item.is) in
    let most = counted_within c.args.texts.now (c.loop-text.text-index + 1) in
    search rules

pub loop-text-preserved : goal.loop-text-preserved
loop-text-preserved c =
    let more = text_counted c.args.texts.now c.loop-text.text-index c.text-item.result c.loop-text-test.true (sym c.text-item.is) in
    search rules

pub returns : goal.returns
returns c =
    let past : length c.args.texts.now ≤ c.loop-text.text-index = omega arith in
    c.loop-text.invariant ∙ ap (λ ts. length (joined_texts ts)) (take_all c.loop-text.text-index c.args.texts.now past)
