use Rattle.std.proofs.Common.{◌≡◌, ◌++◌, [], drop, sym, ap, subst, ◌∙◌, arith}
use Rattle.std.proofs.Math.ListN.{drop_of_length-le}
use Rattle.std.proofs.lemmas.List.{append-nil}
use Rattle.tl_board.specs.Windows.{AreKeysOf}
use Rattle.tl_board.proofs.WindowLemmas.{keys_with, are_keys}
use Rattle.tl_board.proofs.windows.keys_of.Goals as goal

pub returns : goal.returns
returns c =
    let none : drop c.loop-owner.owner-index c.args.owners.now ≡ [] = drop_of_length-le c.args.owners.now (omega (arith, c.loop-owner-test.false)) in
    let all : c.loop-owner.keys.items ≡ keys_with c.args.owners.now c.args.windows.now =
    sym (append-nil c.loop-owner.keys.items) ∙ ap (λ os. c.loop-owner.keys.items ++ keys_with os c.args.windows.now) (sym none) ∙ c.loop-owner.invariant in
    subst (AreKeysOf c.args.owners.now c.args.windows.now) (sym all) (are_keys c.args.owners.now c.args.windows.now)
