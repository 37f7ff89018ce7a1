use Rattle.std.proofs.Common.{◌≡◌, ◌+◌, ℕ, suc, List, [], ◌∷◌, drop, get_or, sym, ap, subst, ◌∙◌, arith}
use Rattle.std.specs.Prelude.{is_some}
use Rattle.std.proofs.Math.ListN.{drop_of_length-le}
use Rattle.std.proofs.Math.Seq.{drop-cons}
use Rattle.std.proofs.lemmas.List.Elements.{Contains-get_or}
use Rattle.tl_pieces.specs.declared.key.PieceKey.{PieceKey}
use Rattle.tl_pieces.specs.Pieces.{opening_of}
use Rattle.tl_board.specs.Windows.{key_of, IsGrown}
use Rattle.tl_board.proofs.WindowLemmas.{grown_one, still_all, put_there, one_there, all_there, none_of, AreThereOr}
use Rattle.tl_board.proofs.windows.grow.Goals.{then-not-contains+in_ok-insert, else-not-contains}
use Rattle.tl_board.proofs.windows.grow.Goals as goal

pub insert-requires-clause-owner : goal.insert-requires-clause-owner
insert-requires-clause-owner g c =
    let keys : List PieceKey = c.args.keys.now in
    let key : PieceKey = get_or keys c.loop-key.key-index (key_of 0 0) in
    ap (λ os. is_some (opening_of key.owner os)) c.loop-key.invariant.0.openings ∙ c.requires key (Contains-get_or keys c.loop-key.key-index (key_of 0 0) c.loop-key-test.true)

pub loop-key-preserved : goal.loop-key-preserved
loop-key-preserved g c =
    let keys : List PieceKey = c.args.keys.now in
    let index : ℕ = c.loop-key.key-index in
    let key : PieceKey = get_or keys index (key_of 0 0) in
    let rest : List PieceKey = drop (index + 1) keys in
    let old = c.args.pieces.now in
    let mid = c.loop-key.pieces in
    let next : suc index ≡ index + 1 = omega arith in
    let left : drop index keys ≡ key ∷ rest = drop-cons keys index (key_of 0 0) c.loop-key-test.true ∙ ap (λ n. key ∷ drop n keys) next in
    let are : AreThereOr keys (key ∷ rest) mid = subst (λ ks. AreThereOr keys ks mid) left c.loop-key.invariant.1 in
    elim c.if-not-contains.branch [
      | then-not-contains+in_ok-insert w ↦
          subst (λ p. IsGrown keys old p × AreThereOr keys rest p) (sym w.pieces-is) (
            grown_one keys old mid w.insert.new.self key c.loop-key.invariant.0 (Contains-get_or keys index (key_of 0 0) c.loop-key-test.true) (none_of _ (sym w.if-not-contains.ensures)) w.in_ok-insert.ensures.ok,
            one_there keys rest key mid w.insert.new.self are (λ q. still_all mid w.insert.new.self key q w.in_ok-insert.ensures.ok) (put_there mid w.insert.new.self key w.in_ok-insert.ensures.ok),
          )
      | else-not-contains w ↦
          subst (λ p. IsGrown keys old p × AreThereOr keys rest p) (sym w.pieces-is) (c.loop-key.invariant.0, one_there keys rest key mid mid are (λ q there. there) (sym w.if-not-contains.ensures))
    ]

pub returns-clause-all : goal.returns-clause-all
returns-clause-all g c =
    let none : drop c.loop-key.key-index c.args.keys.now ≡ [] = drop_of_length-le c.args.keys.now (omega (arith, c.loop-key-test.false)) in
    all_there c.args.keys.now c.loop-key.pieces (subst (λ ks. AreThereOr c.args.keys.now ks c.loop-key.pieces) none c.loop-key.invariant.1)
