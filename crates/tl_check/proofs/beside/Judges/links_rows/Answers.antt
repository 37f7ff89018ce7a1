use Rattle.std.proofs.Common.{◌≡◌, ◌+◌, ◌/◌, ◌%◌, min, ℕ, List, ◌++◌, length, refl, rules, sym, ap, subst, ◌∙◌}
use Rattle.tl_topology.specs.Regions.{areas_of}
use Rattle.tl_beats.specs.declared.Row.{Row}
use Rattle.tl_definitions.specs.Managers.{manager_at}
use Rattle.tl_check.specs.Apart.{rows_of_links}
use Rattle.tl_check.specs.Beside.{AreJoined}
use Rattle.tl_check.proofs.Chunks.{links_on, parts_make_all, AreParts}
use Rattle.tl_check.proofs.beside.Judges.links_rows.Goals as goal

pub returns : goal.returns
returns g c =
    let m = manager_at c.args.topo.now c.args.manager (areas_of c.args.regions.now) in
    let fs = c.args.present.now in
    let links : List ℕ = c.args.links.now in
    let share : ℕ = c.share-share.result in
    let parts = c.in_ok-parts.parts.items in
    let count : length parts ≡ length links / share + min 1 (length links % share) = search rules in
    let is = λ (ls : List ℕ) (rows : List Row). rows ≡ rows_of_links m fs ls in
    let both = λ (xs ys : List ℕ) (one two : List Row) (a : is xs one) (b : is ys two).
    ap (λ (rs : List Row). rs ++ two) a ∙ ap (λ (rs : List Row). rows_of_links m fs xs ++ rs) b ∙ sym (links_on m fs xs ys) in
    let are : AreParts is refl both share links parts = search rules in
    parts_make_all is refl both share links parts c.in_ok-rows.rows.items c.share-share.ensures count are
    (subst (λ ps. AreJoined ps c.in_ok-rows.rows.items) c.deref.ensures.value c.in_ok-rows.ensures)
