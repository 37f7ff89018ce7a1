use Rattle.std.proofs.Common.{◌≡◌, ◌≢◌, ℕ, ◌+◌, ◌<◌, ◌≤◌, ◌++◌, length, get_or, Some, refl, sym, ap, subst, ◌∙◌, arith, length-set}
use Rattle.std.specs.Prelude.{slice_get}
use Rattle.std.specs.Io.Iter.{u64_saturate}
use Rattle.std.proofs.lemmas.Option.{slice_get-get_or}
use Rattle.tl_topology.specs.Regions.{areas_of}
use Rattle.tl_check.specs.Captured.{areas_at}
use Rattle.tl_check.proofs.ScratchLaws.{own_areas}
use Rattle.tl_midway.specs.Counts.{managers_counted}
use Rattle.tl_midway.specs.LeadIns.{leads_in}
use Rattle.tl_stream.specs.Courses.{IsRunning, Judged}
use Rattle.tl_stream.specs.Told.{untold_of}
use Rattle.tl_stream.specs.declared.course.Course.{Course}
use Rattle.tl_stream.proofs.AcceptLemmas.{get_other, has_state}
use Rattle.tl_stream.proofs.EndCounts.{lead_ins_more}
use Rattle.tl_stream.proofs.EndLemmas.{one_more}
use Rattle.tl_stream.proofs.stream.ended.Goals as goal

pub judge-requires : goal.judge-requires
judge-requires c =
    let own : areas_of c.unwrap_or-own.result.now ≡ areas_at c.args.regions.now c.loop-manager.manager =
    own_areas c.args.regions.now c.loop-manager.manager c.get.result _ c.unwrap_or-own.result c.unwrap_or-own.ensures c.new-none.ensures c.get.ensures.lookup.0 c.get.ensures.lookup.1 in
    let below : c.loop-manager.manager < length c.loop-manager.courses = (let less : c.loop-manager.manager < length c.args.courses.now = c.loop-manager-test.true in let many = c.loop-manager.invariant.many in omega (arith, less, many)) in
    let course : Course = get_or c.loop-manager.courses c.loop-manager.manager c.index-courses-manager.result in
    let at : slice_get c.args.courses.now c.loop-manager.manager ≡ Some course = sym (c.loop-manager.invariant.rest c.loop-manager.manager (omega arith)) ∙ slice_get-get_or c.loop-manager.courses c.loop-manager.manager c.index-courses-manager.result below in
    record { running = subst (λ areas. IsRunning c.args.topo.now areas course) (sym own) (c.requires.2.are_courses.each c.loop-manager.manager course at).running }

pub loop-manager-preserved : goal.loop-manager-preserved
loop-manager-preserved c =
    let own : areas_of c.unwrap_or-own.result.now ≡ areas_at c.args.regions.now c.loop-manager.manager =
    own_areas c.args.regions.now c.loop-manager.manager c.get.result _ c.unwrap_or-own.result c.unwrap_or-own.ensures c.new-none.ensures c.get.ensures.lookup.0 c.get.ensures.lookup.1 in
    let below : c.loop-manager.manager < length c.loop-manager.courses = (let less : c.loop-manager.manager < length c.args.courses.now = c.loop-manager-test.true in let many = c.loop-manager.invariant.many in omega (arith, less, many)) in
    let course : Course = get_or c.loop-manager.courses c.loop-manager.manager c.index-courses-manager.result in
    let at : slice_get c.args.courses.now c.loop-manager.manager ≡ Some course = sym (c.loop-manager.invariant.rest c.loop-manager.manager (omega arith)) ∙ slice_get-get_or c.loop-manager.courses c.loop-manager.manager c.index-courses-manager.result below in
    let state = has_state course.state (sym c.is_lost.ensures ∙ c.if-is_lost.false) in
    record {
      many = length-set c.loop-manager.courses c.loop-manager.manager c.judge.new.self ∙ c.loop-manager.invariant.many;
      rest = λ k later.
          let other : k ≢ c.loop-manager.manager = λ same. never k c.loop-manager.manager later same in
          get_other c.loop-manager.courses c.loop-manager.manager k c.judge.new.self other ∙ c.loop-manager.invariant.rest k (omega arith);
      told = λ midway fs has. one_more midway c.args.topo.now (areas_at c.args.regions.now) fs c.args.waiting.now c.args.courses.now c.loop-manager.manager course c.judge.new.self c.loop-manager.rows.items c.in_ok-found.found.items
          c.extend_from_slice.new.self.items state.0 has at state.1
          (subst (λ xs. Judged c.args.topo.now xs c.args.waiting.now 18446744073709551615 course c.judge.new.self c.in_ok-found.found.items) own c.in_ok-found.ensures.ok)
          (c.loop-manager.invariant.told midway fs has) (c.in_ok-extend_from_slice.ensures.items ∙ ap (λ found. c.loop-manager.rows.items ++ found) c.deref.ensures.value);
      lead_ins = λ law fs has. c.saturating_add-lead_ins.ensures ∙ lead_ins_more law c.args.topo.now (areas_at c.args.regions.now) fs c.args.waiting.now c.args.courses.now c.loop-manager.manager course c.judge.new.self
          c.in_ok-found.found.items state.0 c.loop-manager.lead_ins c.lead_ins.result has at state.1
          (subst (λ xs. Judged c.args.topo.now xs c.args.waiting.now 18446744073709551615 course c.judge.new.self c.in_ok-found.found.items) own c.in_ok-found.ensures.ok)
          (λ after is m before stands. c.lead_ins.ensures law m before after is stands) (c.loop-manager.invariant.lead_ins law fs has);
    }
  where
    never : (k manager : ℕ) → manager + 1 ≤ k → k ≡ manager → ⊥
    never k manager later same = omega arith

-- All managers were passed.
all_passed : (count managers manager courses : ℕ) → courses ≡ count → manager ≤ count → courses ≤ manager → count ≡ managers → manager ≡ managers
all_passed count managers manager courses many most end same = omega (arith, many, most, end, same)

pub returns-clause-rows : goal.returns-clause-rows
returns-clause-rows c midway fs has =
    c.loop-manager.invariant.told midway fs has ∙ ap (untold_of midway c.args.topo.now (areas_at c.args.regions.now) fs)
    (all_passed (length c.args.courses.now) (length c.args.topo.now.managers) c.loop-manager.manager (length c.args.courses.now) refl c.loop-manager.auto.manager-end c.loop-manager-test.false has.are_courses.count)

pub returns-clause-lead_ins : goal.returns-clause-lead_ins
returns-clause-lead_ins c law fs has =
    c.loop-manager.invariant.lead_ins law fs has ∙ ap (λ n. u64_saturate (managers_counted leads_in law c.args.topo.now (areas_at c.args.regions.now) fs n))
    (all_passed (length c.args.courses.now) (length c.args.topo.now.managers) c.loop-manager.manager (length c.args.courses.now) refl c.loop-manager.auto.manager-end c.loop-manager-test.false has.are_courses.count)
