use Rattle.std.proofs.Common.{take}
use Rattle.tl_apart.specs.Apart.{HaveComeTo}
use Rattle.tl_apart.proofs.apart.front_of.Given as goal

abbrev pub invariant-loop-client : goal.invariant-loop-client
invariant-loop-client l = HaveComeTo l.topo l.feeds (take l.client-index l.clients) l.front
