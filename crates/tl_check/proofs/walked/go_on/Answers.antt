use Rattle.std.proofs.Common.{◌≡◌, sym, subst, ◌∙◌}
use Rattle.std.specs.List.{All, Contains}
use Rattle.tl_topology.specs.Regions.{areas_of}
use Rattle.tl_topology.specs.Topology.{IsSound}
use Rattle.tl_beats.specs.declared.Placed.{Placed}
use Rattle.tl_definitions.specs.Managers.{manager_at}
use Rattle.tl_definitions.specs.Rules.{Manager}
use Rattle.tl_check.specs.Jobs.{GoesOn, manager_from}
use Rattle.tl_check.specs.States.{IsOf}
use Rattle.tl_check.proofs.WalkedLaws.{served, linked_within}
use Rattle.tl_check.proofs.walked.go_on.Goals as goal

are : (c : goal.After-walk_on-arg-1) → manager_from c.deref.result.now c.unwrap-exponent.result (areas_of c.args.regions.now) c.args.state.now ≡ manager_at c.args.topo.now c.args.manager (areas_of c.args.regions.now)
are c = served c.args.topo.now c.args.manager c.unwrap-exponent.result c.deref.result.now (areas_of c.args.regions.now) c.args.state.now
    (c.deref.ensures.value ∙ c.in_ok-links.ensures.exact) (sym c.unwrap-exponent.ensures ∙ c.block.ensures) c.requires.state

pub walk_on-requires-clause-links : goal.walk_on-requires-clause-links
walk_on-requires-clause-links c = subst (All IsSound) (sym c.deref.ensures.value) c.in_ok-links.ensures.sound

pub walk_on-requires-clause-within : goal.walk_on-requires-clause-within
walk_on-requires-clause-within c = linked_within c.args.topo.now c.args.manager c.deref.result.now c.args.walk (c.deref.ensures.value ∙ c.in_ok-links.ensures.exact) c.requires.linked

pub walk_on-requires-clause-linked : goal.walk_on-requires-clause-linked
walk_on-requires-clause-linked c = subst (λ (m : Manager). All (λ (p : Placed). Contains m.clients p.link) c.args.walk) (sym (are c)) c.requires.linked

pub walk_on-requires-clause-state : goal.walk_on-requires-clause-state
walk_on-requires-clause-state c = subst (λ (m : Manager). IsOf m c.args.state.now) (sym (are c)) c.requires.state

pub returns : goal.returns
returns c = subst (λ (m : Manager). GoesOn m c.args.state.now c.args.walk c.walk_on.new.state c.in_ok-rows.rows.items)
    (served c.args.topo.now c.args.manager c.unwrap-exponent.result c.deref.result.now (areas_of c.args.regions.now) c.args.state.now
    (c.deref.ensures.value ∙ c.in_ok-links.ensures.exact) (sym c.unwrap-exponent.ensures ∙ c.block.ensures) c.requires.state)
    c.in_ok-rows.ensures
