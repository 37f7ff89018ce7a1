use Rattle.std.proofs.Common.{◌≡◌, ◌+◌, ◌++◌, ℕ, length, ap, subst, ◌∙◌, arith}
use Rattle.tl_topology.specs.Regions.{areas_of}
use Rattle.tl_check.specs.Captured.{areas_at}
use Rattle.tl_check.proofs.ScratchLaws.{own_areas}
use Rattle.tl_midway.specs.Counts.{managers_counted}
use Rattle.tl_midway.specs.Counted.{HasCounts, asked_of}
use Rattle.tl_midway.specs.Judged.{AreRowsOf}
use Rattle.tl_midway.specs.Report.{ArePrinted}
use Rattle.tl_midway.proofs.CountsLaws.{manager_added}
use Rattle.tl_midway.proofs.MidwayReportLaws.{manager_more}
use Rattle.tl_midway.proofs.counting.counted_managers.Goals as goal

pub loop-manager-preserved : goal.loop-manager-preserved
loop-manager-preserved c =
    let topo = c.args.topo.now in
    let fs = c.args.present.now in
    let law = c.args.counts.now.law in
    let k : ℕ = c.loop-manager.manager in
    let same = c.loop-manager.invariant.law in
    let own : areas_of c.unwrap_or-own.result.now ≡ areas_at c.args.regions.now k =
    own_areas c.args.regions.now k c.get.result _ c.unwrap_or-own.result c.unwrap_or-own.ensures c.new-none.ensures c.get.ensures.lookup.0 c.get.ensures.lookup.1 in
    record {
      rows = manager_more law topo (areas_at c.args.regions.now) fs k c.loop-manager.rows.items c.in_ok-found.found.items c.extend_from_slice.new.self.items c.loop-manager.invariant.rows
          (subst (λ areas. AreRowsOf law topo areas fs k c.in_ok-found.found.items) own (subst (λ l. AreRowsOf l topo (areas_of c.unwrap_or-own.result.now) fs k c.in_ok-found.found.items) same c.in_ok-found.ensures.rows))
          (c.in_ok-extend_from_slice.ensures.items ∙ ap (λ found. c.loop-manager.rows.items ++ found) c.deref.ensures.value);
      counts = λ n has. manager_added law topo (areas_at c.args.regions.now) fs n k (areas_of c.unwrap_or-own.result.now) c.loop-manager.counts c.counted_manager.new.counts own same
          c.in_ok-found.ensures.counts (c.loop-manager.invariant.counts n has);
      law = c.in_ok-found.ensures.law ∙ same;
      by_rule = c.in_ok-found.ensures.by_rule ∙ c.loop-manager.invariant.by_rule;
    }

pub returns-clause-rows : goal.returns-clause-rows
returns-clause-rows c =
    let past = c.loop-manager-test.false in
    let most = c.loop-manager.auto.manager-end in
    let count = c.manager_count-manager-end.ensures.count in
    let all : c.loop-manager.manager ≡ length c.args.topo.now.managers = omega (arith, past, most, count) in
    subst (λ n. ArePrinted c.args.counts.now.law c.args.topo.now (areas_at c.args.regions.now) c.args.present.now n c.loop-manager.rows.items) all c.loop-manager.invariant.rows

pub returns-clause-counts : goal.returns-clause-counts
returns-clause-counts c n has =
    let past = c.loop-manager-test.false in
    let most = c.loop-manager.auto.manager-end in
    let count = c.manager_count-manager-end.ensures.count in
    let all : c.loop-manager.manager ≡ length c.args.topo.now.managers = omega (arith, past, most, count) in
    subst (λ k. HasCounts c.loop-manager.counts (λ asked. n asked + managers_counted (asked_of asked) c.args.counts.now.law c.args.topo.now (areas_at c.args.regions.now) c.args.present.now k)) all
    (c.loop-manager.invariant.counts n has)
