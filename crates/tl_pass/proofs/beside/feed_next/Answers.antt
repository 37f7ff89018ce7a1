use Rattle.std.proofs.Common.{sym, subst}
use Rattle.std.specs.Arc.{arc_value}
use Rattle.tl_beats.specs.Fragments.{Frag}
use Rattle.tl_apart.specs.Beside.{Follows, Takes}
use Rattle.tl_apart.proofs.BesideLaws.{follows_more}
use Rattle.tl_pass.specs.Reports.{with_next}
use Rattle.tl_pass.proofs.beside.feed_next.Goals as goal

pub returns-in_ok-accept-in-Some : goal.returns-in_ok-accept-in-Some
returns-in_ok-accept-in-Some c fs first had =
    let f : Frag = arc_value c.in-Some.fragment in
    subst (λ next. Follows c.args.topo.now c.args.link (with_next fs next) first c.accept.new.self) (sym c.in-Some.is)
    (follows_more c.args.topo.now c.args.link fs f first c.args.feed.now c.accept.new.self had
    (subst (λ g. Takes c.args.topo.now c.args.link g c.args.feed.now c.accept.new.self) c.deref.ensures c.in_ok-accept-in-Some.ensures))
