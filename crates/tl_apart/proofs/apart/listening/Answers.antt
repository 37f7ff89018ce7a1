use Rattle.tl_apart.proofs.OpeningLaws.{listening_more}
use Rattle.tl_apart.proofs.apart.listening.Goals as goal

pub loop-manager-preserved : goal.loop-manager-preserved
loop-manager-preserved c =
    listening_more c.args.topo.now c.loop-manager.manager c.loop-manager.listeners.items c.push.new.self.items c.in_ok-listener_of.field-0 c.loop-manager.invariant c.in_ok-push.ensures.items c.in_ok-listener_of.ensures
