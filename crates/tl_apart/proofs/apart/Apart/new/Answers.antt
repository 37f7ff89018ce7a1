use Rattle.std.proofs.Common.{length, refl, subst}
use Rattle.std.specs.Arc.{arc_value}
use Rattle.tl_topology.specs.Topology.{Topology}
use Rattle.tl_apart.specs.Apart.{AreOpened, AreListening}
use Rattle.tl_apart.proofs.OpeningLaws.{opening}
use Rattle.tl_apart.proofs.apart.Apart.new.Goals as goal

pub returns : goal.returns
returns c =
    let topo : Topology = arc_value c.args.topo in
    let feeds = subst (λ (t : Topology). AreOpened t (length t.links) c.in_ok-feeds.feeds.items) c.deref.ensures c.in_ok-feeds.ensures in
    let listeners = subst (λ (t : Topology). AreListening t (length t.managers) c.in_ok-listeners.listeners.items) c.deref-2.ensures c.in_ok-listeners.ensures in
    opening topo _ refl feeds listeners c.new.ensures.items
