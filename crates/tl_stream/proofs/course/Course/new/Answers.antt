use Rattle.std.proofs.Common.{◌≡◌, cond, Some, None, refl, sym, ap, subst, ◌∙◌}
use Rattle.std.specs.Prelude.{◌==◌, nat_lt, [], vec_len}
use Rattle.tl_definitions.specs.Managers.{manager_at}
use Rattle.tl_stream.specs.Courses.{next_from}
use Rattle.tl_stream.specs.Pasts.{StandsFor}
use Rattle.tl_stream.specs.declared.past.Past.{Past}
use Rattle.tl_stream.proofs.CourseLemmas.{first_cycle}
use Rattle.tl_stream.proofs.course.Course.new.Goals as goal
use Rattle.tl_stream.proofs.course.Course.new.Goals.{then-is_empty, else-is_empty}

some_is : (one two : Past) → Some one ≡ Some two → one ≡ two
some_is one two e = cc

pub returns : goal.returns
returns c =
    let next : c.if-is_empty.next ≡ cond (vec_len c.in_ok-links.links == 0) None (Some 0) = elim c.if-is_empty.branch [
      | then-is_empty w ↦ w.next-is ∙ ap (λ t. cond t None (Some 0)) (sym w.if-is_empty.true ∙ c.is_empty.ensures)
      | else-is_empty w ↦ w.next-is ∙ ap (λ t. cond t None (Some 0)) (sym w.if-is_empty.false ∙ c.is_empty.ensures)
    ] in record {
      owner = refl;
      law = refl;
      links = c.in_ok-links.ensures;
      stands = λ areas state at. subst (λ s. StandsFor c.args.midway (manager_at c.args.topo.now c.args.manager areas) s []) (some_is c.in_ok-new.field-0 state at) (c.in_ok-new.ensures areas);
      next = λ cycle few. first_cycle c.in_ok-links.links.items cycle few ∙ ap (λ n. nat_lt cycle (next_from (cond (n == 0) None (Some 0)))) (sym c.in_ok-links.links.ok.0) ∙ ap (λ o. nat_lt cycle (next_from o)) (sym next);
    }
