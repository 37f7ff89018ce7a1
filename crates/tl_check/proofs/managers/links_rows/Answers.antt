use Rattle.std.proofs.Common.{◌≡◌, ℕ, false, List, get_or, sym, ap, subst, ◌∙◌}
use Rattle.std.specs.List.Sorted.{IsStrictlySortedBy}
use Rattle.std.specs.Option.{option_copied}
use Rattle.std.proofs.lemmas.Option.{slice_get-get_or}
use Rattle.tl_tables.specs.Messages.{level_le}
use Rattle.tl_tables.specs.declared.Level.TheVariants as level
use Rattle.tl_topology.specs.Regions.{areas_of}
use Rattle.tl_topology.specs.declared.LinkDecl.{LinkDecl}
use Rattle.tl_check.proofs.PassLaws.{declared, block_is, one_link_more}
use Rattle.tl_check.proofs.managers.links_rows.Goals as goal

pub walk-requires : goal.walk-requires
unfolding IsStrictlySortedBy
walk-requires c = (tt, tt)

pub add_link-requires-clause-plain : goal.add_link-requires-clause-plain
add_link-requires-clause-plain c =
    let link : ℕ = get_or c.args.links.now c.loop-link.link-index 0 in
    let known = declared c.args.topo.now link c.unwrap-decl.result.now (sym (ap option_copied c.unwrap-decl.ensures) ∙ c.link.ensures.exact) in
    subst (λ (d : LinkDecl). level_le level.C d.level ≡ false) (sym known) (c.requires.plain c.loop-link.link-index 0 c.loop-link-test.true)

pub loop-link-preserved : goal.loop-link-preserved
loop-link-preserved c =
    let topo = c.args.topo.now in
    let k : ℕ = c.loop-link.link-index in
    let links : List ℕ = c.args.links.now in
    let link : ℕ = get_or links k 0 in
    one_link_more topo c.args.present.now c.is_empty.ensures.kept c.args.manager (areas_of c.args.regions.now) c.unwrap-decl.result.now c.unwrap-exponent.result links link k
    c.in_ok-walk.walk c.loop-link.rows.items c.add_link.new.rows.items
    (declared topo link c.unwrap-decl.result.now (sym (ap option_copied c.unwrap-decl.ensures) ∙ c.link.ensures.exact))
    (block_is topo c.args.manager c.unwrap-exponent.result (sym c.unwrap-exponent.ensures ∙ c.block.ensures))
    c.in_ok-walk.ensures.exact (slice_get-get_or links k 0 c.loop-link-test.true) c.loop-link.invariant c.in_ok-add_link.ensures
