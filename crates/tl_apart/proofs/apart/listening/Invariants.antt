use Rattle.tl_apart.specs.Apart.{AreListening}
use Rattle.tl_apart.proofs.apart.listening.Given as goal

abbrev pub invariant-loop-manager : goal.invariant-loop-manager
invariant-loop-manager l = AreListening l.topo l.manager l.listeners.items
