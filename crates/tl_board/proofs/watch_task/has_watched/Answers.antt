use Rattle.std.proofs.Common.{◌≡◌, ◌∷◌, [], Some, sym, ap, subst, ◌∙◌}
use Rattle.std.specs.Bool.{Decides}
use Rattle.tl_topology.specs.Topology.{number_of_name}
use Rattle.tl_beats.specs.Watches.{link_of}
use Rattle.tl_definitions.specs.Positions.{beats_of_all}
use Rattle.tl_capture.specs.Windows.{beats_in}
use Rattle.tl_board.proofs.WatchTaskLemmas.{one_rises, link_watched}
use Rattle.tl_board.proofs.watch_task.has_watched.Goals as goal

pub has_beats-requires : goal.has_beats-requires
has_beats-requires c = one_rises c.in-Some.link

pub returns-in-Some : goal.returns-in-Some
returns-in-Some c =
    let at : number_of_name c.args.topo.now.links (link_of c.args.watch.now) ≡ Some c.in-Some.link = ap (number_of_name c.args.topo.now.links) (sym c.link.ensures) ∙ sym c.link_of.ensures.exact ∙ c.in-Some.is in
    subst (λ ps. Decides c.has_beats.result (c.args.beats.now ≡ beats_in c.args.window ps)) (link_watched c.args.topo.now c.args.present.now c.args.watch.now c.in-Some.link c.kept.ensures.kept at)
    (subst (λ fs. Decides c.has_beats.result (c.args.beats.now ≡ beats_in c.args.window (beats_of_all (c.in-Some.link ∷ []) fs))) c.kept.ensures.same c.has_beats.ensures)
