use Rattle.std.proofs.Common.{true}
use Rattle.tl_run.proofs.LineLaws.{ok_map}
use Rattle.tl_workers.proofs.run.show_with.Goals as goal

pub returns-in_default-clause-written : goal.returns-in_default-clause-written
returns-in_default-clause-written g c =
    let boxes = c.args.script.boxes in
    ok_map _ _ c.run_nothing.result (λ outcome written. written true c.args.script.setting c.args.script.text boxes) c.run_nothing.ensures.written
