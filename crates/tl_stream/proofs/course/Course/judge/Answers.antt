use Rattle.std.proofs.Common.{◌≡◌, ℕ, ◌+◌, ◌<◌, ◌≤◌, ◌^◌, Some, None, Option, refl, sym, ap, subst, ◌∙◌, arith}
use Rattle.std.specs.List.{All, Contains}
use Rattle.std.specs.List.Sorted.{IsStrictlySortedBy}
use Rattle.std.specs.Option.{SomeIff}
use Rattle.std.specs.Ordering.{nat_cmp}
use Rattle.tl_topology.specs.Regions.{areas_of}
use Rattle.tl_beats.specs.declared.Placed.{Placed}
use Rattle.tl_definitions.specs.Managers.{manager_at}
use Rattle.tl_definitions.specs.Positions.{beats_of_all}
use Rattle.tl_capture.specs.Windows.{beats_within}
use Rattle.tl_stream.specs.Courses.{next_from}
use Rattle.tl_stream.specs.Pasts.{GoesOn}
use Rattle.tl_stream.proofs.BeatLemmas.{links_rise}
use Rattle.tl_stream.proofs.course.Course.judge.Goals as goal

next_is : (o : Option ℕ) (to : ℕ) → to < 2 ^ 64 → SomeIff o (to + 1 < 18446744073709551616) (to + 1) → next_from o ≡ to + 1
next_is None to few none = last to few none
  where
    last : (to : ℕ) → to < 2 ^ 64 → (to + 1 < 18446744073709551616 → ⊥) → 18446744073709551616 ≡ to + 1
    last to few none = grind arith
next_is (Some next) to few some = some.1

pub walk_between-requires-clause-links : goal.walk_between-requires-clause-links
walk_between-requires-clause-links c =
    subst (IsStrictlySortedBy nat_cmp) (sym (c.deref.ensures.value ∙ c.requires.running.links)) (links_rise (manager_at c.args.topo.now c.args.self.now.manager (areas_of c.args.regions.now))
    c.in-Some-take.state (c.requires.running.formed c.in-Some-take.state (sym c.take.ensures.value ∙ c.in-Some-take.is)))

pub go_on-requires-clause-linked : goal.go_on-requires-clause-linked
go_on-requires-clause-linked c = subst (λ ls. All (λ (p : Placed). Contains ls p.link) c.in_ok-walk.walk) (c.deref.ensures.value ∙ c.requires.running.links) c.in_ok-walk.ensures.kept.linked

pub returns-clause-ok : goal.returns-clause-ok
returns-clause-ok c =
    let next : next_from c.args.self.now.next ≡ c.in-Some.from = ap next_from c.in-Some.is in
    let order : c.in-Some.from ≤ c.args.to = c.if-to-from.false in
    record {
      manager = refl;
      midway = refl;
      links = refl;
      done = λ done. absurd (never c.args.to c.in-Some.from (next_from c.args.self.now.next) order next done);
      gone = λ from. record {
        before = c.in-Some-take.state;
        after = c.go_on.new.self;
        had = sym c.take.ensures.value ∙ c.in-Some-take.is;
        has = refl;
        judged = subst (λ ps. GoesOn (manager_at c.args.topo.now c.args.self.now.manager (areas_of c.args.regions.now)) c.in-Some-take.state ps c.go_on.new.self c.in_ok-rows.rows.items)
            (c.in_ok-walk.ensures.exact ∙ ap (λ ls. beats_within c.in-Some.from c.args.to (beats_of_all ls c.args.waiting.now)) c.deref.ensures.value
            ∙ ap (λ n. beats_within n c.args.to (beats_of_all c.args.self.now.links.items c.args.waiting.now)) (sym next))
            c.in_ok-rows.ensures;
        next = next_is c.checked_add-self.result c.args.to c.ranges.to.fits c.checked_add-self.ensures;
      };
    }
  where
    never : (to from next : ℕ) → from ≤ to → next ≡ from → to < next → ⊥
    never to from next order same done = omega arith
