use Rattle.std.proofs.Common.{◌≡◌, ◌==◌, ◌≤◌, false, length, take_all, subst, arith}
use Rattle.std.proofs.lemmas.List.Elements.{All-more}
use Rattle.std.proofs.lemmas.Bool.Decides.{nat_tests}
use Rattle.tl_capture.specs.declared.cursor.Cursor.{Cursor}
use Rattle.tl_capture.specs.Runs.{AreOthers}
use Rattle.tl_capture.proofs.runs.are_others.Goals as goal

pub loop-cursor-preserved : goal.loop-cursor-preserved
loop-cursor-preserved c =
    let other : Cursor = c.cursor-item.result in
    let apart : (other.link == c.args.link) ≡ false = grind (arith, nat_tests) in
    All-more (λ (d : Cursor). (d.link == c.args.link) ≡ false) c.args.cursors.now c.loop-cursor.cursor-index other c.loop-cursor-test.true c.loop-cursor.invariant
    (subst (λ (d : Cursor). (d.link == c.args.link) ≡ false) c.cursor-item.is apart)

pub returns : goal.returns
returns c e =
    let past : length c.args.cursors.now ≤ c.loop-cursor.cursor-index = omega arith in
    subst (AreOthers c.args.link) (take_all c.loop-cursor.cursor-index c.args.cursors.now past) c.loop-cursor.invariant
