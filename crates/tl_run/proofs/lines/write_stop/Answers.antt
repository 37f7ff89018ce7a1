use Rattle.std.proofs.Common.{rules}
use Rattle.tl_run.proofs.LineLaws.{writes_more}
use Rattle.tl_run.specs.Stops.{stop_front}
use Rattle.tl_run.proofs.lines.write_stop.Goals as goal

pub returns : goal.returns
returns g c =
    writes_more _ _ _ (stop_front c.args.stop.cause) _ _ _ _ c.write_words.result (search rules) (search rules) c.write_words.ensures
