use Rattle.std.proofs.Common.{◌≡◌, ◌++◌, ℕ, false, List, [], get_or, take, take_all, refl, sym, ap, subst, ◌∙◌}
use Rattle.std.specs.List.{All, Contains}
use Rattle.std.specs.List.Sorted.{IsStrictlySortedBy}
use Rattle.std.specs.Option.{option_copied}
use Rattle.std.proofs.lemmas.List.Elements.{Contains-get_or}
use Rattle.std.proofs.lemmas.Option.{slice_get-get_or}
use Rattle.tl_tables.specs.Messages.{level_le}
use Rattle.tl_tables.specs.declared.Level.TheVariants as level
use Rattle.tl_topology.specs.Regions.{areas_of}
use Rattle.tl_topology.specs.declared.LinkDecl.{LinkDecl}
use Rattle.tl_beats.specs.declared.Placed.{Placed}
use Rattle.tl_definitions.specs.Captures.{manager_beats}
use Rattle.tl_definitions.specs.LinkPasses.{on_link}
use Rattle.tl_definitions.specs.Managers.{declared_links, manager_at}
use Rattle.tl_definitions.specs.Positions.{clients_of}
use Rattle.tl_definitions.specs.Printed.{printed_after}
use Rattle.tl_check.specs.Managers.{IsPlain}
use Rattle.tl_midway.specs.Midway.{beginning_of}
use Rattle.tl_midway.proofs.PlaceLaws.{block_is, declared}
use Rattle.tl_midway.proofs.WalkLaws.{below}
use Rattle.tl_midway.specs.Named.{Serves}
use Rattle.tl_midway.proofs.JudgedLaws.{own_beats}
use Rattle.tl_midway.proofs.NamedRows.{printed_each, each_more, rows_are, of_one}
use Rattle.tl_midway.proofs.plain_links.named_links.Goals as goal

pub unwrap-link-requires : goal.unwrap-link-requires
unwrap-link-requires c =
    let number : ℕ = get_or c.args.links.now c.loop-number.number-index 0 in
    c.link.ensures.found.1
    (below c.args.topo.now c.args.manager number (subst (λ ls. Contains ls number) c.requires.links (Contains-get_or c.args.links.now c.loop-number.number-index 0 c.loop-number-test.true)))

pub walk-requires : goal.walk-requires
unfolding IsStrictlySortedBy
walk-requires c = (tt, tt)

pub named_walk-requires-clause-plain : goal.named_walk-requires-clause-plain
named_walk-requires-clause-plain c =
    let number : ℕ = get_or c.args.links.now c.loop-number.number-index 0 in
    let known = declared c.args.topo.now number c.unwrap-link.result.now (sym (ap option_copied c.unwrap-link.ensures) ∙ c.link.ensures.exact) in
    subst (λ (d : LinkDecl). level_le level.C d.level ≡ false) (sym known) (c.requires.plain c.loop-number.number-index 0 c.loop-number-test.true)

pub loop-number-preserved : goal.loop-number-preserved
loop-number-preserved c law heads =
    let topo = c.args.topo.now in
    let fs = c.args.present.now in
    let areas = areas_of c.args.regions.now in
    let manager : ℕ = c.args.manager in
    let m = manager_at topo manager areas in
    let start = beginning_of law m in
    let links : List ℕ = c.args.links.now in
    let beats : List Placed = manager_beats topo fs manager in
    let k : ℕ = c.loop-number.number-index in
    let number : ℕ = get_or links k 0 in
    let has : Contains (clients_of manager (declared_links topo)) number = subst (λ ls. Contains ls number) c.requires.links (Contains-get_or links k 0 c.loop-number-test.true) in
    let known = declared topo number c.unwrap-link.result.now (sym (ap option_copied c.unwrap-link.ensures) ∙ c.link.ensures.exact) in
    let power : c.unwrap_or-exponent.result ≡ m.exponent = block_is topo manager c.unwrap_or-exponent.result c.block.result c.block.ensures c.unwrap_or-exponent.ensures in
    let serves : Serves m number c.unwrap-link.result.now c.unwrap_or-exponent.result areas = record { declared = sym known; power = sym power; regions = refl } in
    let own : c.in_ok-walk.walk ≡ on_link number beats = c.in_ok-walk.ensures.exact ∙ own_beats (clients_of manager (declared_links topo)) fs number c.is_empty.ensures.kept has in
    c.in_ok-named_walk.ensures m start number serves (of_one number c.in_ok-walk.walk c.in_ok-walk.ensures.kept.linked) (heads k 0 c.loop-number-test.true)
    ∙ ap (λ rows. rows ++ printed_after m start [] c.in_ok-walk.walk) (c.loop-number.invariant law heads)
    ∙ ap (λ ps. printed_each m start (take k links) beats ++ printed_after m start [] ps) own
    ∙ sym (each_more m start links k number beats (slice_get-get_or links k 0 c.loop-number-test.true))

pub returns : goal.returns
returns c law heads =
    let topo = c.args.topo.now in
    let areas = areas_of c.args.regions.now in
    let m = manager_at topo c.args.manager areas in
    rows_are topo areas c.args.present.now c.args.manager law c.loop-number.rows.items c.is_empty.ensures.kept (subst (All (IsPlain topo)) c.requires.links c.requires.plain)
    (c.loop-number.invariant law heads
    ∙ ap (λ ls. printed_each m (beginning_of law m) ls (manager_beats topo c.args.present.now c.args.manager)) (take_all c.loop-number.number-index c.args.links.now c.loop-number-test.false ∙ c.requires.links))
