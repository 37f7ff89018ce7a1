use Rattle.std.proofs.Common.{rules, ◌≡◌, Err, subst}
use Rattle.std.specs.Prelude.{IfErr}
use Rattle.tl_desk.specs.declared.fault.PublishFault.TheVariants as fault
use Rattle.tl_hall.specs.Passes.{Looked, IsUnready}
use Rattle.tl_workers.proofs.Knowing.{on_then, on_looked}
use Rattle.tl_workers.proofs.crew.published.Goals as goal

pub returns-in-Err-VersionFull-clause-err : goal.returns-in-Err-VersionFull-clause-err
returns-in-Err-VersionFull-clause-err g c =
    let q = c.publish-next.result.0 in
    let is : c.publish-next.result.1 ≡ Err fault.VersionFull = search rules in
    (c.loop.pass, c.loop.invariant.2, subst (λ x. IfErr x (λ f. Looked c.loop.pass (IsUnready f) q)) is c.publish-next.ensures.err)

pub returns-in-Err-Memory-clause-err : goal.returns-in-Err-Memory-clause-err
returns-in-Err-Memory-clause-err g c =
    let q = c.publish-next.result.0 in
    let is : c.publish-next.result.1 ≡ Err fault.Memory = search rules in
    on_then c.args.pass c.loop.pass q c.loop.invariant.2 (on_looked c.loop.pass q (IsUnready fault.Memory) (subst (λ x. IfErr x (λ f. Looked c.loop.pass (IsUnready f) q)) is c.publish-next.ensures.err))

pub returns-then-not-is_enough-clause-err : goal.returns-then-not-is_enough-clause-err
returns-then-not-is_enough-clause-err g c =
    let mid = c.publish-next.result.0 in
    let q = c.check_wanted-next.result.0 in
    let is : c.publish-next.result.1 ≡ Err fault.NotReady = search rules in
    let look = on_looked c.loop.pass mid (IsUnready fault.NotReady) (subst (λ x. IfErr x (λ f. Looked c.loop.pass (IsUnready f) mid)) is c.publish-next.ensures.err) in
    on_then c.args.pass c.loop.pass q c.loop.invariant.2 (on_then c.loop.pass mid q look c.check_wanted-next.ensures)

pub loop-preserved : goal.loop-preserved
loop-preserved g c =
    let mid = c.publish-next.result.0 in
    let q = c.check_wanted-next.result.0 in
    let is : c.publish-next.result.1 ≡ Err fault.NotReady = search rules in
    let look = on_looked c.loop.pass mid (IsUnready fault.NotReady) (subst (λ x. IfErr x (λ f. Looked c.loop.pass (IsUnready f) mid)) is c.publish-next.ensures.err) in
    (tt, tt, on_then c.args.pass c.loop.pass q c.loop.invariant.2 (on_then c.loop.pass mid q look c.check_wanted-next.ensures))
