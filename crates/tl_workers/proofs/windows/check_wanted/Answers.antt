use Rattle.tl_workers.proofs.Knowing.{on_then, on_worked}
use Rattle.tl_workers.proofs.windows.check_wanted.Goals as goal

pub returns-in-NoWindow : goal.returns-in-NoWindow
returns-in-NoWindow g c =
    on_then c.args.pass c.loop.pass c.work_once-next.result.0 c.loop.invariant.2 (on_worked c.loop.pass c.work_once-next.result.0 c.work_once-next.result.1 c.work_once-next.ensures)

pub returns-in-Refused : goal.returns-in-Refused
returns-in-Refused g c =
    on_then c.args.pass c.loop.pass c.work_once-next.result.0 c.loop.invariant.2 (on_worked c.loop.pass c.work_once-next.result.0 c.work_once-next.result.1 c.work_once-next.ensures)

pub loop-preserved-then-is_in_doubt : goal.loop-preserved-then-is_in_doubt
loop-preserved-then-is_in_doubt g c =
    (tt, tt, on_then c.args.pass c.loop.pass c.work_once-next.result.0 c.loop.invariant.2 (on_worked c.loop.pass c.work_once-next.result.0 c.work_once-next.result.1 c.work_once-next.ensures))

pub loop-preserved : goal.loop-preserved
loop-preserved g c =
    (tt, tt, on_then c.args.pass c.loop.pass c.work_once-next.result.0 c.loop.invariant.2 (on_worked c.loop.pass c.work_once-next.result.0 c.work_once-next.result.1 c.work_once-next.ensures))
