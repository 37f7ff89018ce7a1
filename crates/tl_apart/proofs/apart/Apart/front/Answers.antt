use Rattle.std.proofs.Common.{◌≡◌, Some, subst, ◌∙◌}
use Rattle.std.specs.Prelude.{slice_get, IfSome}
use Rattle.tl_topology.specs.Topology.{Topology}
use Rattle.tl_apart.specs.Apart.{HaveComeTo}
use Rattle.tl_apart.specs.declared.listener.Listener.{Listener}
use Rattle.tl_apart.proofs.FrontLaws.{all_reached}
use Rattle.tl_apart.proofs.ListLaws.{found_at}
use Rattle.tl_apart.proofs.apart.Apart.front.Goals as goal

pub returns : goal.returns
returns c topo fs judged is =
    let listener : Listener = c.in_ok-listener.listener.now in
    let at : slice_get c.args.self.now.listeners.items c.args.manager ≡ Some listener = subst (λ ls. slice_get ls c.args.manager ≡ Some listener) c.deref.ensures.value
    (found_at c.deref.result.now c.from.result c.args.manager listener c.in_ok-listener.ensures.lookup.0 c.in_ok-listener.ensures.lookup.1 c.from.ensures) in
    let come = subst (λ (t : Topology). IfSome c.front_of.result (HaveComeTo t c.deref-3.result.now c.deref-4.result.now)) (c.deref-2.ensures ∙ is.on) c.front_of.ensures in
    all_reached topo fs judged c.args.self.now c.args.manager listener at is c.front_of.result
    (subst (λ fs. IfSome c.front_of.result (HaveComeTo topo fs listener.clients.items)) c.deref-3.ensures.value
    (subst (λ cs. IfSome c.front_of.result (HaveComeTo topo c.deref-3.result.now cs)) c.deref-4.ensures.value come))
