use Rattle.std.proofs.Common.{◌≡◌, ◌<◌, ◌+◌, ◌++◌, length, take, drop, sym, ap, ◌∙◌, arith, option_to_list}
use Rattle.tl_state.proofs.LeafLemmas.{put_split}
use Rattle.tl_state.proofs.leaves.put_in.Goals as goal

pub returns-in-Some-clause-ok : goal.returns-in-Some-clause-ok
returns-in-Some-clause-ok g c =
    let xs = c.args.entries.now.items in
    let inside : c.args.start < length xs = omega (arith, c.if-start-end.true, c.requires.end) in
    let next : c.args.start + 1 ≡ c.args.end = omega (arith, c.if-start-end.true, c.requires.near) in
    put_split xs c.args.start c.args.end c.in-Some.entry inside next
    ∙ ap (λ o. take c.args.start xs ++ (option_to_list o ++ drop c.args.end xs)) (sym c.in-Some.is)
