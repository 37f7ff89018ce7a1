use Rattle.std.proofs.Common.{◌++◌, ap, subst, ◌∙◌}
use Rattle.tl_topology.specs.Regions.{areas_of}
use Rattle.tl_definitions.specs.Managers.{manager_at}
use Rattle.tl_definitions.specs.Positions.{beats_of_all}
use Rattle.tl_check.specs.Managers.{cached_links, AreMerged}
use Rattle.tl_check.proofs.PassLaws.{links_are_found}
use Rattle.tl_check.proofs.managers.with_caches.Goals as goal

pub merged_rows-requires-clause-links : goal.merged_rows-requires-clause-links
merged_rows-requires-clause-links c =
    c.deref-2.ensures.value ∙ c.in_ok-cached.ensures ∙ ap (cached_links c.args.topo.now) (c.deref.ensures.value ∙ c.in_ok-clients.ensures)

pub returns : goal.returns
returns c =
    let topo = c.args.topo.now in
    let fs = c.args.present.now in
    let m = manager_at topo c.args.manager (areas_of c.args.regions.now) in
    let one = c.args.plain.items in
    let two = c.in_ok-merged.merged.items in
    let cached = c.deref-2.ensures.value ∙ c.in_ok-cached.ensures ∙ ap (cached_links topo) (c.deref.ensures.value ∙ c.in_ok-clients.ensures) in
    links_are_found topo fs c.is_empty.ensures.kept c.args.manager (areas_of c.args.regions.now) one two c.extend_from_slice.new.self.items
    c.requires.plain (subst (λ links. AreMerged m (beats_of_all links fs) two) cached c.in_ok-merged.ensures)
    (c.in_ok-extend_from_slice.ensures.items ∙ ap (λ found. one ++ found) c.deref-3.ensures.value)
