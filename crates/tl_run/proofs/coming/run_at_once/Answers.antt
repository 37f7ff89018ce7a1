use Rattle.std.proofs.Common.{rules, true, ◌≡◌, ◌+◌, ◌++◌, ℕ, List, Option, ap, ◌∙◌, subst}
use Rattle.std.specs.Prelude.{string_bytes}
use Rattle.tl_script.specs.Asked.{asked}
use Rattle.tl_run.specs.Output.{RunData, supplied, Advances, LacksBox}
use Rattle.tl_run.specs.Stops.{AreSaid}
use Rattle.tl_run.proofs.LineLaws.{said_out, said_cut}
use Rattle.tl_run.proofs.ComingLaws.{never_lacks}
use Rattle.tl_run.proofs.coming.run_at_once.Goals as goal

pub returns-in_err-run_command-clause-boxes : goal.returns-in_err-run_command-clause-boxes
returns-in_err-run_command-clause-boxes g c h =
    let old = g.S.Runner.so_far c.args.runner.now in
    let asking = asked c.args.command.now in
    let made : g.S.Runner.so_far c.supply.new.self ≡ supplied true asking old = c.in_ok-supply.ensures.ok ∙ ap (λ b. supplied b asking old) c.requires.supplies in
    let lacks = c.run_command.ensures.lacks (search rules) in
    never_lacks asking old.boxes c.requires.none (subst (λ (r : RunData). LacksBox r.boxes asking) made lacks.0)

pub returns-in_err-write_gathered-clause-failed : goal.returns-in_err-write_gathered-clause-failed
returns-in_err-write_gathered-clause-failed g c h =
    let old = g.S.Runner.so_far c.args.runner.now in
    let asking = asked c.args.command.now in
    let made : g.S.Runner.so_far c.supply.new.self ≡ supplied true asking old = c.in_ok-supply.ensures.ok ∙ ap (λ b. supplied b asking old) c.requires.supplies in
    let went =
    subst
    (λ (r : RunData).
    Advances r c.args.command.now (g.S.Runner.so_far c.run_command.new.runner)
    (λ line. (first : Option (List ℕ)) (before : List ℕ) → AreSaid g.S.Runner.noted first (g.O.ByteOut.contents c.args.out.now) (string_bytes c.args.gathered.now) before
    → AreSaid g.S.Runner.noted first (g.O.ByteOut.contents c.run_command.new.out) (string_bytes c.run_command.new.gathered) (before ++ line)))
    made c.in_ok-run_command.ensures.step in
    let failed = c.in_err-write_gathered.ensures.failed in (
      failed.0 ∙ ap (λ n. n + 1) c.in_ok-run_command.ensures.quiet,
      (
        went.0,
        went.1,
        went.2,
        λ first before has. said_cut g.S.Runner.noted first (g.O.ByteOut.contents c.run_command.new.out) (g.O.ByteOut.contents c.write_gathered.new.out) (string_bytes c.run_command.new.gathered) (before ++ went.0) (went.3 first before has) (failed.1 first),
      ),
    )

pub returns-clause-step : goal.returns-clause-step
returns-clause-step g c =
    let old = g.S.Runner.so_far c.args.runner.now in
    let asking = asked c.args.command.now in
    let made : g.S.Runner.so_far c.supply.new.self ≡ supplied true asking old = c.in_ok-supply.ensures.ok ∙ ap (λ b. supplied b asking old) c.requires.supplies in
    let went =
    subst
    (λ (r : RunData).
    Advances r c.args.command.now (g.S.Runner.so_far c.run_command.new.runner)
    (λ line. (first : Option (List ℕ)) (before : List ℕ) → AreSaid g.S.Runner.noted first (g.O.ByteOut.contents c.args.out.now) (string_bytes c.args.gathered.now) before
    → AreSaid g.S.Runner.noted first (g.O.ByteOut.contents c.run_command.new.out) (string_bytes c.run_command.new.gathered) (before ++ line)))
    made c.in_ok-run_command.ensures.step in (
      went.0,
      went.1,
      went.2,
      λ first before has.
          said_out g.S.Runner.noted first (g.O.ByteOut.contents c.run_command.new.out) (g.O.ByteOut.contents c.write_gathered.new.out) (string_bytes c.run_command.new.gathered) (string_bytes c.write_gathered.new.gathered) (before ++ went.0)
          (went.3 first before has) (c.in_ok-write_gathered.ensures.said first),
    )
