use Rattle.std.proofs.Common.{rules}
use Rattle.std.specs.Prelude.{string_bytes}
use Rattle.tl_run.proofs.LineLaws.{all_written, front_written, at_error}
use Rattle.tl_run.proofs.lines.write_gathered.Goals as goal

pub returns-in_err-write_all-clause-failed : goal.returns-in_err-write_all-clause-failed
returns-in_err-write_all-clause-failed g c =
    at_error c.from_residual.result (search rules, λ old lines said. front_written old _ _ (string_bytes c.args.gathered.now) lines said (search rules))

pub returns-clause-said : goal.returns-clause-said
returns-clause-said g c old lines said =
    let it = all_written old _ _ (string_bytes c.args.gathered.now) lines said (search rules) in
    (it.0, it.1, search rules)
