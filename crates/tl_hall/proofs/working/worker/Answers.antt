use Rattle.std.proofs.Common.{subst, sym, arith}
use Rattle.tl_hall.specs.Working.{Worked, nothing_done, counted_with}
use Rattle.tl_hall.proofs.Rounds.{worked_start, worked_then, worked_round}
use Rattle.tl_hall.proofs.working.worker.Goals as goal

pub loop-init : goal.loop-init
loop-init g c = (tt, tt, worked_start c.args.pass)

pub loop-preserved : goal.loop-preserved
loop-preserved g c =
    let p = c.loop.pass in
    let q = c.work_once-next.result.0 in
    let came = c.work_once-next.result.1 in
    let one = worked_round p q c.loop.count (omega arith, omega arith, omega arith) came c.work_once-next.ensures in
    let more = subst (λ n. Worked 0 p c.loop.count q n) (sym c.with-count.ensures) one in
    (tt, tt, worked_then c.args.pass p q nothing_done c.loop.count c.with-count.result c.loop.invariant.2 more)
