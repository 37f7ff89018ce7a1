use Rattle.std.proofs.Common.{◌≡◌, ◌≤◌, [], ◌++◌, length, refl, sym, ap, subst, ◌∙◌, arith}
use Rattle.std.proofs.lemmas.List.{take_all}
use Rattle.tl_check.specs.Beside.{rows_of_part, AreJoined}
use Rattle.tl_check.proofs.Chunks.{joined_more}
use Rattle.tl_check.proofs.beside.joined.Goals as goal

pub loop-part-init : goal.loop-part-init
loop-part-init c = ([], refl, c.new-rows.ensures.items)

pub loop-part-preserved : goal.loop-part-preserved
loop-part-preserved c =
    joined_more c.args.parts.now c.loop-part.part-index c.part-item.result c.loop-part.rows.items c.in-Ok.own.items c.extend_from_slice.new.self.items c.loop-part-test.true
    (sym c.part-item.is) (ap rows_of_part c.in-Ok.is) c.loop-part.invariant
    (c.in_ok-extend_from_slice-in-Ok.ensures.items ∙ ap (λ own. c.loop-part.rows.items ++ own) c.deref.ensures.value)

pub returns : goal.returns
returns c = subst (λ parts. AreJoined parts c.loop-part.rows.items) (take_all c.loop-part.part-index c.args.parts.now c.loop-part-test.false) c.loop-part.invariant
