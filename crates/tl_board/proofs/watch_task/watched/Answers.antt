use Rattle.std.proofs.Common.{◌≡◌, ◌∷◌, [], Some, None, sym, ap, ◌∙◌}
use Rattle.tl_topology.specs.Topology.{number_of_name}
use Rattle.tl_beats.specs.Watches.{link_of}
use Rattle.tl_definitions.specs.Positions.{beats_of_all}
use Rattle.tl_capture.specs.Windows.{beats_in}
use Rattle.tl_board.proofs.WatchTaskLemmas.{one_rises, none_rises, link_watched, none_watched, link_kept, none_kept}
use Rattle.tl_board.proofs.watch_task.watched.Goals as goal

pub window_beats-requires : goal.window_beats-requires
window_beats-requires c = none_rises

pub returns-in_default-clause-exact : goal.returns-in_default-clause-exact
returns-in_default-clause-exact c =
    let none : number_of_name c.args.topo.now.links (link_of c.args.watch.now) ≡ None = ap (number_of_name c.args.topo.now.links) (sym c.link.ensures) ∙ sym c.link_of.ensures.exact ∙ c.in_default.is in
    c.in_ok-beats.ensures.exact ∙ ap (beats_in c.args.window) (none_watched c.args.topo.now c.args.present.now c.args.watch.now none)

pub returns-in_default-clause-kept : goal.returns-in_default-clause-kept
returns-in_default-clause-kept c = none_kept c.args.window c.args.present.now c.in_ok-beats.beats c.in_ok-beats.ensures.exact c.in_ok-beats.ensures.kept

pub window_beats-requires-2 : goal.window_beats-requires-2
window_beats-requires-2 c = one_rises c.in-Some.link

pub returns-clause-exact : goal.returns-clause-exact
returns-clause-exact c =
    let at : number_of_name c.args.topo.now.links (link_of c.args.watch.now) ≡ Some c.in-Some.link = ap (number_of_name c.args.topo.now.links) (sym c.link.ensures) ∙ sym c.link_of.ensures.exact ∙ c.in-Some.is in
    (c.in_ok-beats-2.ensures.exact ∙ ap (λ fs. beats_in c.args.window (beats_of_all (c.in-Some.link ∷ []) fs)) c.kept.ensures.same) ∙ ap (beats_in c.args.window) (link_watched c.args.topo.now c.args.present.now c.args.watch.now c.in-Some.link c.kept.ensures.kept at)

pub returns-clause-kept : goal.returns-clause-kept
returns-clause-kept c = link_kept c.args.window c.in-Some.link c.args.present.now c.in_ok-beats-2.beats c.kept.ensures.kept (c.in_ok-beats-2.ensures.exact ∙ ap (λ fs. beats_in c.args.window (beats_of_all (c.in-Some.link ∷ []) fs)) c.kept.ensures.same) c.in_ok-beats-2.ensures.kept
