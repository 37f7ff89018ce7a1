use Rattle.std.proofs.Common.{true}
use Rattle.tl_run.proofs.LineLaws.{ok_map, when_failed}
use Rattle.tl_workers.proofs.run.show_alone.Goals as goal

pub returns-in_default : goal.returns-in_default
returns-in_default g c =
    let setting = c.args.script.setting in
    let text = c.args.script.text in
    let boxes = c.args.script.boxes in
    record {
      written = ok_map _ _ c.run_nothing.result (λ outcome written. written true setting text boxes) c.run_nothing.ensures.written;
      quiet = c.run_nothing.ensures.quiet;
      cut = when_failed c.run_nothing.result (λ failed. (failed.0, failed.1 true setting text boxes)) c.run_nothing.ensures.failed;
    }
