use Rattle.std.proofs.Common.{sym, subst}
use Rattle.std.specs.Arc.{arc_value}
use Rattle.tl_beats.specs.Fragments.{Frag}
use Rattle.tl_definitions.specs.LinkPasses.{LinkSnapshot, link_judging}
use Rattle.tl_definitions.specs.Positions.{placed_beats}
use Rattle.tl_capture.specs.Present.{recorded}
use Rattle.tl_check.specs.Apart.{Shows}
use Rattle.tl_pass.specs.Solo.{lone, AreJudged, Leaves}
use Rattle.tl_pass.specs.declared.solo.Left.TheVariants as left
use Rattle.tl_pass.proofs.JoinLaws.{manager_is}
use Rattle.tl_pass.proofs.solo.Left.judge.Goals as goal

pub returns-in_ok-rows-in-Link : goal.returns-in_ok-rows-in-Link
returns-in_ok-rows-in-Link c =
    let topo = c.args.topo.now in
    let k = c.args.manager in
    let link = c.args.link in
    let rows = c.in_ok-rows-in-Link.rows.items in
    let new = c.judge_link.new.state in
    subst (λ old. Leaves topo k link (placed_beats (recorded link (arc_value c.args.piece))) old (left.Link new) rows) (sym c.in-Link.is) (
      c.in_ok-rows-in-Link.ensures.formed,
      λ s was. subst (λ (f : Frag). (t : LinkSnapshot) × Shows new t × AreJudged (link_judging (lone topo k link)) s (placed_beats (recorded link f)) t rows) c.deref.ensures
          (c.in_ok-rows-in-Link.ensures.found s k (manager_is topo k link c.requires.client) was),
    )
