use Rattle.std.proofs.Common.{◌≡◌, ◌≤◌, ◌∷◌, [], length, refl, sym, ap, subst, ◌∙◌, arith, length-append}
use Rattle.std.specs.Prelude.{Option, None, slice_get}
use Rattle.std.specs.Arc.{arc_value}
use Rattle.tl_topology.specs.Topology.{Topology}
use Rattle.tl_stream.specs.Courses.{AreNewCourses}
use Rattle.tl_stream.specs.declared.front.Front.{Front}
use Rattle.tl_stream.proofs.EndLemmas.{each_more, none_accepted}
use Rattle.tl_stream.proofs.stream.Stream.new.Goals as goal

pub loop-preserved : goal.loop-preserved
loop-preserved c =
    let old = c.loop.fronts.items in
    let grown = c.in_ok-push.ensures.items in
    let many = length-append old (None ∷ []) in
    let count = c.loop.invariant.count in
    let all = ap length grown in
    record {
      count = omega (arith, many, count, all);
      none = λ link front at. each_more (λ k (o : Option Front). o ≡ None) old None c.loop.invariant.none refl link front (ap (λ xs. slice_get xs link) (sym grown) ∙ at);
    }

pub invariant_of-result : goal.invariant_of-result
invariant_of-result c =
    let count = c.loop.invariant.count in
    let end : c.link_count-end.result ≤ c.loop.counter = c.loop-test.false in
    let most : c.loop.counter ≤ c.link_count-end.result = c.loop.auto.counter-end in
    let links = c.link_count-end.ensures.count ∙ ap (λ (t : Topology). length t.links) c.deref.ensures in (
      [],
      none_accepted c.args.midway (arc_value c.args.topo) c.args.regions.items c.loop.fronts.items c.new.result c.in_ok-courses.courses.items (omega (arith, count, end, most, links)) c.loop.invariant.none c.new.ensures
          (subst (λ t. AreNewCourses c.args.midway t c.in_ok-courses.courses.items) c.deref-2.ensures c.in_ok-courses.ensures),
    )

pub returns-clause-none : goal.returns-clause-none
returns-clause-none c =
    let count = c.loop.invariant.count in
    let end : c.link_count-end.result ≤ c.loop.counter = c.loop-test.false in
    let most : c.loop.counter ≤ c.link_count-end.result = c.loop.auto.counter-end in
    let links = c.link_count-end.ensures.count ∙ ap (λ (t : Topology). length t.links) c.deref.ensures in
    none_accepted c.args.midway (arc_value c.args.topo) c.args.regions.items c.loop.fronts.items c.new.result c.in_ok-courses.courses.items (omega (arith, count, end, most, links)) c.loop.invariant.none c.new.ensures
    (subst (λ t. AreNewCourses c.args.midway t c.in_ok-courses.courses.items) c.deref-2.ensures c.in_ok-courses.ensures)
