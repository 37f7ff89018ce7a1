use Rattle.std.proofs.Common.{[], ◌∷◌, length, sym, ap, subst, ◌∙◌}
use Rattle.std.specs.Arc.{arc_value}
use Rattle.std.specs.List.{All}
use Rattle.std.proofs.lemmas.List.{length-append}
use Rattle.std.proofs.lemmas.List.Elements.{All-append, All-cons, All-nil}
use Rattle.tl_topology.specs.Topology.{Topology}
use Rattle.tl_beats.specs.Fragments.{Frag}
use Rattle.tl_pass.specs.Parts.{IsWithin}
use Rattle.tl_pass.specs.Reports.{standing, with_next}
use Rattle.tl_pass.proofs.StandingLaws.{one_added}
use Rattle.tl_pass.proofs.supply.take_next.Goals as goal

pub returns-in_ok-accept-in-Some-clause-counted : goal.returns-in_ok-accept-in-Some-clause-counted
returns-in_ok-accept-in-Some-clause-counted g c fs = ap (λ next. length (with_next fs next)) c.in-Some.is ∙ length-append fs (arc_value c.in-Some.fragment ∷ [])

pub returns-in_ok-accept-in-Some-clause-came : goal.returns-in_ok-accept-in-Some-clause-came
returns-in_ok-accept-in-Some-clause-came g c midway fs had =
    let topo : Topology = c.args.topo.now in
    let f : Frag = arc_value c.in-Some.fragment in
    let came = c.in_ok-accept-in-Some.ensures midway topo (standing topo fs) had in
    subst (λ next. g.P.Pass.has_come midway topo (standing topo (with_next fs next)) c.accept.new.self) (sym c.in-Some.is)
    (subst (λ hs. g.P.Pass.has_come midway topo hs c.accept.new.self) (sym (one_added topo fs f came.0 came.1)) came.2)

pub returns-in_ok-accept-in-Some-clause-within : goal.returns-in_ok-accept-in-Some-clause-within
returns-in_ok-accept-in-Some-clause-within g c fs are =
    let topo : Topology = c.args.topo.now in
    let f : Frag = arc_value c.in-Some.fragment in
    let one : IsWithin topo c.args.links.first c.args.links.next f = subst (IsWithin topo c.args.links.first c.args.links.next) c.deref.ensures (c.is_within.ensures c.if-not-is_within.false) in
    subst (λ next. All (IsWithin topo c.args.links.first c.args.links.next) (with_next fs next)) (sym c.in-Some.is)
    (All-append (IsWithin topo c.args.links.first c.args.links.next) fs (f ∷ []) are
    (All-cons (IsWithin topo c.args.links.first c.args.links.next) f [] one (All-nil (IsWithin topo c.args.links.first c.args.links.next))))

pub returns-in-None-clause-within : goal.returns-in-None-clause-within
returns-in-None-clause-within g c fs are = subst (λ next. All (IsWithin c.args.topo.now c.args.links.first c.args.links.next) (with_next fs next)) (sym c.in-None.is) are
