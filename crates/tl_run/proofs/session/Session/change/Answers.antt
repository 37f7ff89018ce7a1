use Rattle.tl_desk.proofs.HereLemmas.{here_after_edit}
use Rattle.tl_run.proofs.SessionLaws.{here_behind_edit, stays_linked, topo_behind_edit}
use Rattle.tl_run.proofs.session.Session.change.Goals as goal

pub invariant_of-self : goal.invariant_of-self
invariant_of-self g c =
    let old = c.self.inside.desk in
    let new = c.edit.new.self in
    record {
      here = here_behind_edit old new c.args.change c.edit.result (λ boxes number step. here_after_edit old c.args.change number new boxes step) c.edit.ensures.boxes c.edit.ensures.step c.edit.ensures.err c.self.invariant.here;
      linked = stays_linked c.self.inside.own old new (topo_behind_edit old new c.args.change c.edit.result c.edit.ensures.step c.edit.ensures.err) c.self.invariant.linked;
    }
