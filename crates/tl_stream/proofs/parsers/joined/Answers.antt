use Rattle.std.proofs.Common.{◌≡◌, ◌≤◌, ◌∷◌, ◌++◌, [], length, take, Ok, Err, None, Some, rules, sym, ap, subst, ◌∙◌, arith}
use Rattle.std.specs.Vec.Iter.{into_iter_items, into_iter_len}
use Rattle.tl_stream.specs.Parts.{read_texts}
use Rattle.tl_stream.proofs.PartLemmas.{HasJoined, joined_none, joined_more, joined_stops, joined_all, none_is}
use Rattle.tl_stream.proofs.parsers.joined.Goals as goal

pub loop-part-init : goal.loop-part-init
loop-part-init c = record {
  next = tt;
  finite = tt;
  len = search rules;
  so_far =
      let whole : HasJoined c.args.texts.now c.args.share c.args.parts.items (into_iter_items c.into_iter-part-iterator.result) ([], None) =
      subst (λ left. HasJoined c.args.texts.now c.args.share c.args.parts.items left ([], None)) (sym c.into_iter-part-iterator.ensures.into_iter_gives.0)
      (joined_none c.args.texts.now c.args.share c.args.parts.items) in
      subst (λ fs. HasJoined c.args.texts.now c.args.share c.args.parts.items (into_iter_items c.into_iter-part-iterator.result) (fs, None)) (sym c.new-fragments.ensures.items) whole;
}

pub loop-part-preserved : goal.loop-part-preserved
loop-part-preserved c = record {
  next = tt;
  finite = tt;
  len = search rules;
  so_far =
      let more = joined_more c.args.texts.now c.args.share c.args.parts.items c.loop-part.fragments.items c.in_ok-part.part (into_iter_items c.loop-part.part-iterator) (into_iter_items c.next.new.self)
      c.loop-part.invariant.so_far (c.in-Some.ensures.steps.0 ∙ ap (λ part. part ∷ into_iter_items c.next.new.self) c.in_ok-part.was) c.requires.parsed in
      search rules;
}

pub returns-then-is_some : goal.returns-then-is_some
returns-then-is_some c =
    let more = joined_more c.args.texts.now c.args.share c.args.parts.items c.loop-part.fragments.items c.in_ok-part.part (into_iter_items c.loop-part.part-iterator) (into_iter_items c.next.new.self)
    c.loop-part.invariant.so_far (c.in-Some.ensures.steps.0 ∙ ap (λ part. part ∷ into_iter_items c.next.new.self) c.in_ok-part.was) c.requires.parsed in
    let all = joined_stops c.args.texts.now c.args.share c.args.parts.items _ (into_iter_items c.next.new.self) more (search rules) in
    search rules

pub returns : goal.returns
returns c =
    joined_all c.args.texts.now c.args.share c.args.parts.items (c.loop-part.fragments.items, None) (into_iter_items c.loop-part.part-iterator) c.loop-part.invariant.so_far
    (sym c.loop-part.invariant.len ∙ c.in-None.ensures.steps.0) c.requires.share c.requires.count
