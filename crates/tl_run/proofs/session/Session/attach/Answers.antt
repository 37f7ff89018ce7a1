use Rattle.tl_edits.specs.Edits.{attach}
use Rattle.tl_desk.proofs.HereLemmas.{here_attached}
use Rattle.tl_run.proofs.SessionLaws.{stays_linked, topo_edited}
use Rattle.tl_run.proofs.session.Session.attach.Goals as goal

pub invariant_of-self-in-Ok : goal.invariant_of-self-in-Ok
invariant_of-self-in-Ok g c =
    let step = c.in-Ok.ensures.step in
    let old = c.self.inside.desk in
    let new = c.attach.new.self in
    record {
      here = here_attached c.args.number step.1.0 old.boxes new.boxes step.1.2 c.self.invariant.here;
      linked = stays_linked c.self.inside.own old new (topo_edited old new (attach c.args.number (g.M.Monitor.held c.in-Some.monitor).watch) c.in-Ok.edit step.0) c.self.invariant.linked;
    }
