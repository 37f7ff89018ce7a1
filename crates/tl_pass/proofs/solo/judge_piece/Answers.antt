use Rattle.std.proofs.Common.{◌≡◌, inl, inr, [], ◌∷◌, get_or, subst, ap, ◌∙◌}
use Rattle.std.specs.Arc.{arc_value}
use Rattle.std.specs.List.{Contains}
use Rattle.std.specs.List.Sorted.{IsStrictlySortedBy}
use Rattle.tl_topology.specs.Regions.{areas_of}
use Rattle.tl_definitions.specs.Managers.{manager_at}
use Rattle.tl_definitions.specs.Positions.{Recorded, beats_of_all}
use Rattle.tl_definitions.proofs.Lists.{contains_none, contains_cases}
use Rattle.tl_capture.specs.Present.{recorded, put_in, IsPresent}
use Rattle.tl_check.specs.Jobs.{GoesOn}
use Rattle.tl_apart.specs.Told.{bare, clients}
use Rattle.tl_pass.proofs.SoloLaws.{all_of_one}
use Rattle.tl_pass.proofs.solo.judge_piece.Goals as goal

pub walk-requires : goal.walk-requires
unfolding IsStrictlySortedBy
walk-requires c = (tt, tt)

pub go_on-requires-clause-linked : goal.go_on-requires-clause-linked
go_on-requires-clause-linked c k d below =
    elim (contains_cases c.args.link [] (get_or c.in_ok-walk.walk k d).link (c.in_ok-walk.ensures.kept.linked k d below)) [
      | inl is ↦ subst (Contains (clients c.args.topo.now c.args.manager)) is c.requires.client
      | inr none ↦ absurd (contains_none (get_or c.in_ok-walk.walk k d).link none)
    ]

pub returns : goal.returns
returns c =
    let f : Recorded = recorded c.args.link (arc_value c.args.piece) in
    let there : c.put.new.self ≡ f ∷ [] = c.in_ok-put.ensures.ok ∙ ap (put_in f) c.new-present.ensures in
    let walk = c.in_ok-walk.ensures.exact ∙ ap (beats_of_all (c.args.link ∷ [])) there ∙ all_of_one f (subst IsPresent there c.is_empty.ensures.kept) in
    subst (λ beats. GoesOn (bare c.args.topo.now c.args.manager) c.args.state.now beats c.go_on.new.state c.in_ok-rows.rows.items) walk
    (subst (λ regions. GoesOn (manager_at c.args.topo.now c.args.manager (areas_of regions)) c.args.state.now c.in_ok-walk.walk c.go_on.new.state c.in_ok-rows.rows.items) c.new-none.ensures c.in_ok-rows.ensures)
