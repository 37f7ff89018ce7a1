use Rattle.tl_apart.specs.Apart.{AreOpened}
use Rattle.tl_apart.proofs.apart.opened.Given as goal

abbrev pub invariant-loop-link : goal.invariant-loop-link
invariant-loop-link l = AreOpened l.topo l.link l.feeds.items
