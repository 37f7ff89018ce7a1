use Rattle.std.proofs.Common.{◌++◌, map, sym, ap, subst, ◌∙◌}
use Rattle.std.specs.Prelude.{not, filter}
use Rattle.tl_topology.specs.Regions.{areas_of}
use Rattle.tl_beats.specs.declared.Row.{Row}
use Rattle.tl_definitions.specs.Breaks.{row_of}
use Rattle.tl_definitions.specs.LinkPasses.{link_rules, link_next}
use Rattle.tl_check.specs.Apart.{Shows, AreFormed, one_link}
use Rattle.tl_midway.specs.Named.{is_flow}
use Rattle.tl_midway.proofs.NamedLaws.{unnamed_rows, unnamed_next}
use Rattle.tl_midway.proofs.named.NamedLink.step_unnamed.Goals as goal

pub returns-clause-rows : goal.returns-clause-rows
returns-clause-rows c m start before stands served =
    let p = c.args.at.now in
    let rules = link_rules (one_link c.args.link.now c.args.exponent (areas_of c.args.regions.now)) stands.snapshot p in
    unnamed_rows m start before p c.args.self.now c.args.link.now c.args.exponent (areas_of c.args.regions.now) stands served c.requires.plain c.args.rows.now.items c.step.new.rows.items c.add_others.new.rows.items
    c.requires.unnamed
    (c.in_ok-step.ensures.rows stands.snapshot stands.shows ∙ ap (λ rows. rows ++ map (row_of p) rules) c.new-found.ensures.items)
    (c.in_ok-add_others.ensures ∙ ap (λ found. c.args.rows.now.items ++ filter (λ (row : Row). not (is_flow row.rule)) found) c.deref.ensures.value)

pub returns-clause-next : goal.returns-clause-next
returns-clause-next c m start before stands served =
    let p = c.args.at.now in
    let next = link_next (one_link c.args.link.now c.args.exponent (areas_of c.args.regions.now)) stands.snapshot p in
    unnamed_next m start before p c.args.self.now c.args.link.now c.args.exponent (areas_of c.args.regions.now) stands served c.requires.plain c.name.new.self c.begins-begins.result
    (c.begins-begins.ensures stands.snapshot stands.shows) (subst (λ state. Shows state next) (sym c.name.ensures.state) (c.in_ok-step.ensures.next stands.snapshot stands.shows)) c.in_ok-name.ensures.named

pub returns-clause-formed : goal.returns-clause-formed
returns-clause-formed c = subst AreFormed (sym c.name.ensures.state) c.in_ok-step.ensures.formed
