use Rattle.std.proofs.Common.{false}
use Rattle.tl_run.specs.Output.{whole}
use Rattle.tl_run.proofs.LineLaws.{ok_map, when_failed}
use Rattle.tl_run.proofs.RunLaws.{plain_written, plain_cut}
use Rattle.tl_script.specs.Scripts.{commands_of}
use Rattle.tl_run.specs.Boxes.{watches_in}
use Rattle.tl_run.proofs.run.run_script.Goals as goal

pub returns-in_default-clause-written : goal.returns-in_default-clause-written
returns-in_default-clause-written g c =
    let boxes = watches_in g.M.Monitor.held c.args.boxes.items in
    ok_map _ _ c.run_nothing.result (λ outcome written. plain_written (whole c.args.topo.now) c.args.script.now boxes outcome _ _ (written false (whole c.args.topo.now) c.args.script.now boxes)) c.run_nothing.ensures.written

pub returns-in_default-clause-failed : goal.returns-in_default-clause-failed
returns-in_default-clause-failed g c =
    let boxes = watches_in g.M.Monitor.held c.args.boxes.items in
    when_failed c.run_nothing.result (λ failed. (failed.0, plain_cut (whole c.args.topo.now) (commands_of c.args.script.now) boxes _ _ (failed.1 false (whole c.args.topo.now) c.args.script.now boxes))) c.run_nothing.ensures.failed
