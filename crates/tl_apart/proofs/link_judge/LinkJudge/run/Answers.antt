use Rattle.std.proofs.Common.{length-take-le, take, refl}
use Rattle.tl_apart.proofs.RunLaws.{run_formed, run_has}
use Rattle.tl_apart.proofs.link_judge.LinkJudge.run.Goals as goal

pub returns-clause-formed : goal.returns-clause-formed
returns-clause-formed c = run_formed c.args.self.now (record { bursts = c.run.new.self; flow = c.args.self.now.flow; client = c.args.self.now.client; granted = c.args.self.now.granted }) c.args.chan c.run.result c.run.ensures.next c.requires

pub returns-clause-run : goal.returns-clause-run
returns-clause-run c m s exponent number fragment line shows =
    run_has c.args.self.now _ c.args.chan c.run.result c.run.ensures.next m s exponent number fragment line (take c.run.result c.args.beats.now) shows c.run.ensures.quiet
    (length-take-le c.run.result c.args.beats.now c.run.ensures.within) refl refl refl
