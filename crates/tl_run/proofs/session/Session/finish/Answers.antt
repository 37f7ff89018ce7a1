use Rattle.tl_desk.proofs.HereLemmas.{here_first}
use Rattle.tl_run.proofs.session.Session.finish.Goals as goal

pub unreachable-requires : goal.unreachable-requires
unreachable-requires g c = here_first c.self.inside.desk.boxes _ c.finish.ensures.boxes c.self.invariant.here c.in-Err.ensures.out
