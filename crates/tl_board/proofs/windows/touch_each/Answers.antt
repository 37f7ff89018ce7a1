use Rattle.std.proofs.Common.{◌≡◌, ◌+◌, ℕ, suc, List, [], ◌∷◌, drop, get_or, sym, ap, subst, ◌∙◌, arith}
use Rattle.std.proofs.Math.ListN.{drop_of_length-le}
use Rattle.std.proofs.Math.Seq.{drop-cons}
use Rattle.tl_pieces.specs.declared.key.PieceKey.{PieceKey}
use Rattle.tl_board.specs.Windows.{key_of, AreBlank}
use Rattle.tl_board.proofs.WindowLemmas.{blank_none, blank_one, blank_absent}
use Rattle.tl_board.proofs.windows.touch_each.Goals.{then-contains, else-contains}
use Rattle.tl_board.proofs.windows.touch_each.Goals as goal

pub loop-key-preserved : goal.loop-key-preserved
loop-key-preserved g c final rest =
    let keys : List PieceKey = c.args.keys.now in
    let index : ℕ = c.loop-key.key-index in
    let key : PieceKey = get_or keys index (key_of 0 0) in
    let mid = c.loop-key.pieces in
    let next : suc index ≡ index + 1 = omega arith in
    let left : drop index keys ≡ key ∷ drop (index + 1) keys = drop-cons keys index (key_of 0 0) c.loop-key-test.true ∙ ap (λ n. key ∷ drop n keys) next in
    c.loop-key.invariant final (subst (λ ks. AreBlank ks mid final) (sym left) (elim c.if-contains.branch [
      | then-contains w ↦ blank_one key (drop (index + 1) keys) mid c.if-contains.pieces final (w.pieces-is ∙ w.touch.ensures) rest
      | else-contains w ↦ blank_absent key (drop (index + 1) keys) mid final (sym w.if-contains.ensures) (subst (λ p. AreBlank (drop (index + 1) keys) p final) w.pieces-is rest)
    ]))

pub returns : goal.returns
returns g c =
    let none : drop c.loop-key.key-index c.args.keys.now ≡ [] = drop_of_length-le c.args.keys.now (omega (arith, c.loop-key-test.false)) in
    c.loop-key.invariant c.loop-key.pieces (subst (λ ks. AreBlank ks c.loop-key.pieces c.loop-key.pieces) (sym none) (blank_none c.loop-key.pieces))
