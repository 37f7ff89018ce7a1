use Rattle.std.proofs.Common.{◌∷◌, [], length, sym, ap, subst, ◌∙◌, arith, length-append}
use Rattle.std.specs.Prelude.{slice_get}
use Rattle.tl_stream.specs.Courses.{IsNewCourse}
use Rattle.tl_stream.proofs.EndLemmas.{each_more}
use Rattle.tl_stream.proofs.stream.new_courses.Goals as goal

pub loop-manager-preserved : goal.loop-manager-preserved
loop-manager-preserved c =
    let old = c.loop-manager.courses.items in
    let one = c.in_ok-new.field-0 in
    let grown = c.in_ok-push.ensures.items in
    let many = length-append old (one ∷ []) in
    let count = c.loop-manager.invariant.count in
    let all = ap length grown in
    record {
      count = omega (arith, many, count, all);
      each = λ k course at. each_more (IsNewCourse c.args.midway c.args.topo.now) old one c.loop-manager.invariant.each
          (subst (λ n. IsNewCourse c.args.midway c.args.topo.now n one) (sym count) c.in_ok-new.ensures) k course (ap (λ xs. slice_get xs k) (sym grown) ∙ at);
    }
