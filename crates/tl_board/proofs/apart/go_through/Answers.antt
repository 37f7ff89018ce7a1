use Rattle.std.proofs.Common.{◌++◌, ◌+◌, ℕ, List, Some, take, sym, ap, subst, ◌∙◌}
use Rattle.std.specs.List.{All, Contains}
use Rattle.std.proofs.lemmas.Option.{slice_get-get_or}
use Rattle.tl_topology.specs.Regions.{areas_of}
use Rattle.tl_beats.specs.declared.Placed.{Placed}
use Rattle.tl_definitions.specs.Managers.{declared_links, manager_at}
use Rattle.tl_definitions.specs.Positions.{clients_of}
use Rattle.tl_check.proofs.ListLaws.{take_more}
use Rattle.tl_check.specs.LinkByLink.{one_after_other}
use Rattle.tl_check.proofs.LinkByLink.{turn_more}
use Rattle.tl_board.proofs.ApartLemmas.{goes_further}
use Rattle.tl_board.proofs.apart.go_through.Goals as goal

pub go_on-requires-clause-linked : goal.go_on-requires-clause-linked
go_on-requires-clause-linked c =
    subst (All (λ (p : Placed). Contains (clients_of c.args.manager (declared_links c.args.topo.now)) p.link)) (sym (c.in_ok-walk.ensures ∙ c.beats-item.is))
    (c.requires.each c.loop-beats.beats-index c.beats-item.result c.loop-beats-test.true).linked

pub loop-beats-preserved : goal.loop-beats-preserved
loop-beats-preserved c =
    let lists : List (List Placed) = c.args.lists.now in
    let k : ℕ = c.loop-beats.beats-index in
    let item : List Placed = c.beats-item.result in
    goes_further (manager_at c.args.topo.now c.args.manager (areas_of c.args.regions.now)) c.args.state.now c.loop-beats.state c.go_on.new.state (one_after_other (take k lists)) c.in_ok-walk.walk (one_after_other (take (k + 1) lists))
    c.loop-beats.rows.items c.in_ok-found.found.items c.extend_from_slice.new.self.items c.loop-beats.invariant c.in_ok-found.ensures
    (ap one_after_other (take_more lists k item (slice_get-get_or lists k item c.loop-beats-test.true ∙ ap Some (sym c.beats-item.is))) ∙ turn_more (take k lists) item ∙ ap (λ ps. one_after_other (take k lists) ++ ps) (sym c.in_ok-walk.ensures))
    (c.in_ok-extend_from_slice.ensures.items ∙ ap (λ rs. c.loop-beats.rows.items ++ rs) c.deref.ensures.value)
