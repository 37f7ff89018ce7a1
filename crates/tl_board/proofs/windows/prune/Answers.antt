use Rattle.std.proofs.Common.{◌≡◌, ◌+◌, ℕ, suc, true, false, refl, List, [], ◌∷◌, drop, get_or, sym, ap, subst, ◌∙◌, arith}
use Rattle.std.proofs.Math.ListN.{drop_of_length-le}
use Rattle.std.proofs.Math.Seq.{drop-cons}
use Rattle.tl_definitions.specs.Positions.{beats_of_all}
use Rattle.tl_pieces.specs.declared.key.PieceKey.{PieceKey}
use Rattle.tl_capture.specs.Windows.{HasBeat}
use Rattle.tl_board.specs.Windows.{IsPruned, IsTaken, key_of}
use Rattle.tl_board.proofs.WindowLemmas.{pruned_none, pruned_kept, pruned_gone}
use Rattle.tl_board.proofs.windows.prune.Goals.{then-not-has_beat, else-not-has_beat}
use Rattle.tl_board.proofs.windows.prune.Goals as goal

pub loop-key-preserved : goal.loop-key-preserved
loop-key-preserved g c final rest =
    let keys : List PieceKey = c.args.keys.now in
    let index : ℕ = c.loop-key.key-index in
    let key : PieceKey = get_or keys index (key_of 0 0) in
    let mid = c.loop-key.pieces in
    let holds = HasBeat (beats_of_all c.args.links.now c.args.present.now) in
    let next : suc index ≡ index + 1 = omega arith in
    let left : drop index keys ≡ key ∷ drop (index + 1) keys = drop-cons keys index (key_of 0 0) c.loop-key-test.true ∙ ap (λ n. key ∷ drop n keys) next in
    c.loop-key.invariant final (subst (λ ks. IsPruned holds ks mid final) (sym left) (elim c.if-not-has_beat.branch [
      | then-not-has_beat w ↦ pruned_gone holds key (drop (index + 1) keys) mid c.if-not-has_beat.pieces final rest (λ p. let never : false ≡ true = w.if-not-has_beat.ensures.1 p in cc)
          (subst (IsTaken key mid) (sym w.pieces-is) w.take_out.ensures)
      | else-not-has_beat w ↦ pruned_kept holds key (drop (index + 1) keys) mid c.if-not-has_beat.pieces final rest (w.if-not-has_beat.ensures.0 refl) w.pieces-is
    ]))

pub returns-clause-pruned : goal.returns-clause-pruned
returns-clause-pruned g c =
    let none : drop c.loop-key.key-index c.args.keys.now ≡ [] = drop_of_length-le c.args.keys.now (omega (arith, c.loop-key-test.false)) in
    let holds = HasBeat (beats_of_all c.args.links.now c.args.present.now) in
    c.loop-key.invariant c.loop-key.pieces (subst (λ ks. IsPruned holds ks c.loop-key.pieces c.loop-key.pieces) (sym none) (pruned_none holds c.loop-key.pieces))
