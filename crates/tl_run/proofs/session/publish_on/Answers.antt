use Rattle.tl_desk.proofs.HereLemmas.{here_refused}
use Rattle.tl_run.proofs.session.publish_on.Goals as goal

pub unreachable-requires : goal.unreachable-requires
unreachable-requires g c =
    here_refused c.args.desk.now c.in-Err-BoxOut.field-0-0 c.recheck_now.new.self (rw c.in-Err-BoxOut.field-0-is at c.in-Err-BoxOut.ensures.out) c.requires
