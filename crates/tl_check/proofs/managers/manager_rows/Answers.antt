use Rattle.std.proofs.Common.{ap, ◌∙◌}
use Rattle.tl_topology.specs.Regions.{areas_of}
use Rattle.tl_definitions.specs.Managers.{manager_at}
use Rattle.tl_check.specs.Apart.{rows_of_links}
use Rattle.tl_check.proofs.managers.manager_rows.Goals as goal

pub with_caches-requires-clause-plain : goal.with_caches-requires-clause-plain
with_caches-requires-clause-plain c =
    c.in_ok-plain.ensures ∙ ap (rows_of_links (manager_at c.args.topo.now c.args.manager (areas_of c.args.regions.now)) c.args.present.now) (c.deref.ensures.value ∙ c.in_ok-links.ensures.exact)
