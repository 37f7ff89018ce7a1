use Rattle.std.proofs.Common.{◌≡◌, ◌≤◌, ◌∷◌, ◌++◌, [], length, take, Ok, Err, None, Some, rules, sym, ap, subst, ◌∙◌, arith}
use Rattle.std.proofs.lemmas.List.{take_all}
use Rattle.tl_stream.specs.Parts.{read_texts}
use Rattle.tl_stream.proofs.PartLemmas.{outcome_of, reading_gives, text_read, text_stops}
use Rattle.tl_stream.proofs.parsers.parse_texts.Goals as goal

pub loop-text-init : goal.loop-text-init
unfolding read_texts
loop-text-init c = ap (λ fs. outcome_of fs None) (sym c.new-fragments.ensures.items)

pub returns-in-Err : goal.returns-in-Err
returns-in-Err c =
    let gives = reading_gives c.text-item.result.items c.parse_whole_fragment.result (search rules) (search rules) in
    text_stops c.args.texts.now c.loop-text.text-index c.text-item.result c.loop-text.fragments.items c.in-Err.fault c.loop-text-test.true (sym c.text-item.is) c.loop-text.invariant (search rules)

pub loop-text-preserved : goal.loop-text-preserved
loop-text-preserved c =
    let gives = reading_gives c.text-item.result.items c.parse_whole_fragment.result (search rules) (search rules) in
    text_read c.args.texts.now c.loop-text.text-index c.text-item.result c.loop-text.fragments.items (Ok c.in-Ok.fragment) c.loop-text-test.true (sym c.text-item.is) c.loop-text.invariant (search rules)
    ∙ ap (λ fs. (fs, None)) (sym c.in_ok-push-in-Ok.ensures.items)

pub returns : goal.returns
returns c =
    let past : length c.args.texts.now ≤ c.loop-text.text-index = omega arith in
    ap (λ ts. read_texts ts) (sym (take_all c.loop-text.text-index c.args.texts.now past)) ∙ c.loop-text.invariant
