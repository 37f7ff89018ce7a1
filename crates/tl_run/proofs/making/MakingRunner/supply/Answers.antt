use Rattle.std.proofs.Common.{rules, true, ◌≡◌, subst}
use Rattle.tl_script.specs.Asked.{asked}
use Rattle.tl_run.specs.Output.{RunData, supplied}
use Rattle.tl_script.proofs.AcceptedLaws.{when_done}
use Rattle.tl_run.proofs.MakingLaws.{none_made, one_made}
use Rattle.tl_run.proofs.making.MakingRunner.supply.Goals as goal

pub returns-in_default-clause-ok : goal.returns-in_default-clause-ok
returns-in_default-clause-ok g c = none_made c.args.self.now c.args.command.now (search rules)

pub returns-clause-ok : goal.returns-clause-ok
returns-clause-ok g c =
    let same : c.self.inside.session ≡ c.args.self.now = search rules in
    when_done c.lend.result
    (λ boxes.
    subst (λ (run : RunData). c.lend.new.self ≡ supplied true (asked c.args.command.now) run) same
    (one_made c.self.inside.session c.lend.new.self c.args.command.now c.in-Some.number c.in-Some.watch _ (search rules) c.in_ok-monitor.ensures (search rules) (search rules) boxes))
    c.lend.ensures.ok
