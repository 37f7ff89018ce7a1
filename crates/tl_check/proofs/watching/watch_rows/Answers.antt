use Rattle.std.proofs.Common.{◌≡◌, List, [], ◌∷◌, Some, None, sym, ap, subst, ◌∙◌}
use Rattle.std.specs.Prelude.{IfOk}
use Rattle.std.specs.Option.{option_map_or}
use Rattle.std.specs.List.Sorted.{IsStrictlySortedBy}
use Rattle.tl_beats.specs.Watches.{link_of}
use Rattle.tl_beats.specs.declared.Placed.{Placed}
use Rattle.tl_beats.specs.declared.Row.{Row}
use Rattle.tl_definitions.specs.Positions.{beats_of, position_order}
use Rattle.tl_definitions.specs.Report.{of_monitor, IsReport}
use Rattle.tl_definitions.specs.Tallies.{AreOfOneLink}
use Rattle.tl_topology.specs.Topology.{number_of_name}
use Rattle.tl_check.specs.Captured.{watched_beats}
use Rattle.tl_check.proofs.CaptureLaws.{link_beats_rise, of_one_link}
use Rattle.tl_check.proofs.MonitorLaws.{none_flagged}
use Rattle.tl_check.proofs.watching.watch_rows.Goals as goal

pub returns-in_default : goal.returns-in_default
returns-in_default c =
    let fs = c.args.present.now in
    let none : number_of_name c.args.topo.now.links (link_of c.args.watch.now) ≡ None = sym (ap (number_of_name c.args.topo.now.links) c.link.ensures) ∙ sym c.link_of.ensures.exact ∙ c.in_default.is in
    let no_beats : watched_beats c.args.topo.now fs c.args.watch.now ≡ [] = ap (λ found. option_map_or (λ link. beats_of link fs) found []) none in
    subst (λ (rows : List Row). IsReport (of_monitor c.args.number c.args.watch.now (watched_beats c.args.topo.now fs c.args.watch.now) ∷ []) rows) (sym c.new.ensures.items)
    (subst (λ (beats : List Placed). IsReport (of_monitor c.args.number c.args.watch.now beats ∷ []) []) (sym no_beats) (none_flagged c.args.number c.args.watch.now))

pub flagged_rows-requires-clause-link : goal.flagged_rows-requires-clause-link
flagged_rows-requires-clause-link c = subst AreOfOneLink (sym (c.deref.ensures.value ∙ c.in_ok-beats.ensures)) (of_one_link c.in-Some.link c.args.present.now)

pub flagged_rows-requires-clause-rises : goal.flagged_rows-requires-clause-rises
flagged_rows-requires-clause-rises c = subst (IsStrictlySortedBy position_order) (sym (c.deref.ensures.value ∙ c.in_ok-beats.ensures)) (link_beats_rise c.in-Some.link c.args.present.now c.is_empty.ensures.kept)

pub returns : goal.returns
returns c =
    let fs = c.args.present.now in
    let some : number_of_name c.args.topo.now.links (link_of c.args.watch.now) ≡ Some c.in-Some.link = sym (ap (number_of_name c.args.topo.now.links) c.link.ensures) ∙ sym c.link_of.ensures.exact ∙ c.in-Some.is in
    let own : c.deref.result.now ≡ watched_beats c.args.topo.now fs c.args.watch.now =
    c.deref.ensures.value ∙ c.in_ok-beats.ensures ∙ sym (ap (λ found. option_map_or (λ link. beats_of link fs) found []) some) in
    subst (λ (beats : List Placed). IfOk c.flagged_rows.result (λ rows. IsReport (of_monitor c.args.number c.args.watch.now beats ∷ []) rows.items)) own c.flagged_rows.ensures
