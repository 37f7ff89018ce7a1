use Rattle.std.proofs.Common.{◌≡◌, ◌+◌, ◌/◌, ◌%◌, min, ℕ, List, [], length, refl, rules, subst}
use Rattle.tl_beats.specs.declared.Row.{Row}
use Rattle.tl_check.specs.Beside.{AreJoined}
use Rattle.tl_check.specs.Managers.{HasManagers}
use Rattle.tl_check.proofs.Chunks.{none_found, both_have, parts_make_all, AreParts}
use Rattle.tl_check.proofs.beside.Judges.rows_of_managers.Goals as goal

pub returns : goal.returns
returns g c =
    let topo = c.args.topo.now in
    let regions = c.args.regions.now in
    let fs = c.args.present.now in
    let managers : List ℕ = c.args.managers.now in
    let share : ℕ = c.share-share.result in
    let parts = c.in_ok-parts.parts.items in
    let count : length parts ≡ length managers / share + min 1 (length managers % share) = search rules in
    let none : HasManagers topo regions fs [] [] = record { found = none_found } in
    let both = λ (xs ys : List ℕ) (one two : List Row) (a : HasManagers topo regions fs xs one) (b : HasManagers topo regions fs ys two).
    both_have topo regions fs xs ys one two a b in
    let are : AreParts (HasManagers topo regions fs) none both share managers parts = search rules in
    parts_make_all (HasManagers topo regions fs) none both share managers parts c.in_ok-rows.rows.items c.share-share.ensures count are
    (subst (λ ps. AreJoined ps c.in_ok-rows.rows.items) c.deref.ensures.value c.in_ok-rows.ensures)
