use Rattle.std.proofs.Common.{◌≡◌, ℕ, ◌<◌, ◌≤◌, ◌++◌, length, ap, subst, ◌∙◌}
use Rattle.tl_topology.specs.Topology.{Topology}
use Rattle.tl_apart.specs.Apart.{rows_in}
use Rattle.tl_apart.proofs.GoesLaws.{one_ended, all_ended}
use Rattle.tl_apart.proofs.apart.Apart.rows.Goals as goal

pub loop-manager-preserved : goal.loop-manager-preserved
loop-manager-preserved c topo fs had =
    let ended = c.loop-manager.invariant topo fs had in
    let k : ℕ = c.loop-manager.manager in
    let many : c.manager_count-count.result ≡ length topo.managers = c.manager_count-count.ensures.count ∙ ap (λ (t : Topology). length t.managers) (c.deref.ensures ∙ had.is.on) in
    let low : k < length topo.managers = subst (λ n. k < n) many c.loop-manager-test.true in
    one_ended topo fs k c.loop-manager.apart c.judge_to.new.self ended low (c.in_ok-judge_to.ensures.on topo fs ended.judged ended.is low)

pub returns : goal.returns
returns c topo fs had =
    let k : ℕ = c.loop-manager.manager in
    let many : c.manager_count-count.result ≡ length topo.managers = c.manager_count-count.ensures.count ∙ ap (λ (t : Topology). length t.managers) (c.deref.ensures ∙ had.is.on) in
    all_ended topo fs k c.loop-manager.apart (c.loop-manager.invariant topo fs had) (subst (λ n. n ≤ k) many c.loop-manager-test.false) c.in_ok-rows.rows.items
    (c.in_ok-rows.ensures ∙ ap (λ fs. c.loop-manager.apart.rows.items ++ rows_in fs) c.deref-2.ensures.value)
