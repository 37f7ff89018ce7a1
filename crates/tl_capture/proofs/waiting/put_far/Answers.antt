use Rattle.std.proofs.Common.{◌≡◌, ◌∷◌, List, cond, sym, ap, subst, ◌∙◌, rules}
use Rattle.std.specs.Prelude.{insert, is_ok, IsOk, Result, Ok, Err, refl}
use Rattle.std.specs.List.Sorted.{IsPermutation}
use Rattle.std.proofs.lemmas.List.Sorted.{IsPartitionPoint-from_clause, IsPermutation-insert}
use Rattle.tl_capture.specs.declared.cursor.Cursor.{Cursor}
use Rattle.tl_definitions.specs.Positions.{lies_before}
use Rattle.tl_capture.specs.Cursors.{here}
use Rattle.tl_capture.specs.Waiting.{AreStacked, AreUntied}
use Rattle.tl_capture.proofs.StackLemmas.{stack_is_parted, put_stacked}
use Rattle.tl_capture.proofs.waiting.put_far.Goals as goal

when_ok : {X Y Z : Type 0} (r : Result X Y) (xs ys : List Z) → IsOk r → cond (is_ok r) xs ys ≡ xs
when_ok (Ok x) xs ys h = refl
when_ok (Err y) xs ys h = cc

-- There is room.
entered : (c : goal.After-insert) → c.insert.new.self.items ≡ insert c.args.cursors.now.items c.partition_point-place.result c.args.cursor
entered c = c.insert.ensures.items ∙ when_ok c.insert.result (insert c.args.cursors.now.items c.partition_point-place.result c.args.cursor) c.args.cursors.now.items (c.insert.ensures.succeeds c.requires.room)

pub returns-clause-moves : goal.returns-clause-moves
returns-clause-moves c = subst (IsPermutation (c.args.cursor ∷ c.args.cursors.now.items)) (sym (entered c)) (IsPermutation-insert c.args.cursors.now.items c.partition_point-place.result c.args.cursor)

pub returns-clause-stacked : goal.returns-clause-stacked
returns-clause-stacked c =
    let cs : List Cursor = c.deref.result.now in
    let same = c.deref.ensures.value in
    let stacked : AreStacked cs = subst AreStacked (sym same) c.requires.stacked in
    let point = IsPartitionPoint-from_clause (λ (d : Cursor). lies_before (here c.args.cursor) (here d)) _ _ c.partition_point-place.ensures.partitioned (stack_is_parted c.args.cursor cs stacked) (λ a r q k. search rules) in
    let untied : AreUntied c.args.cursor cs = subst (AreUntied c.args.cursor) (sym same) c.requires.untied in
    let put : AreStacked (insert cs c.partition_point-place.result c.args.cursor) = put_stacked c.args.cursor cs c.partition_point-place.result stacked untied point in
    subst AreStacked (ap (λ xs. insert xs c.partition_point-place.result c.args.cursor) same ∙ sym (entered c)) put
