use Rattle.std.proofs.Common.{◌∷◌, Some, refl, sym, ap, subst, ◌∙◌}
use Rattle.std.specs.Option.{option_copied}
use Rattle.std.proofs.lemmas.Option.{slice_get-get_or}
use Rattle.tl_definitions.specs.Managers.{declared_links}
use Rattle.tl_definitions.specs.Positions.{links_of}
use Rattle.tl_rows.specs.Links.{IsAt}
use Rattle.tl_rows.specs.States.{manager_with}
use Rattle.tl_rows.proofs.LinkLaws.{on_ok}
use Rattle.tl_rows.proofs.ManagerLaws.{stepped, at_link, declared}
use Rattle.tl_rows.proofs.manager.ManagerOrigins.step.Goals as goal

pub returns-clause-stands : goal.returns-clause-stands
returns-clause-stands c exponent clients before stands =
    let p = c.args.place.now in
    let old = c.args.self.now in
    let links = links_of (declared_links c.args.topo.now) in
    let link = c.index_mut.result.now in
    let at = slice_get-get_or old.links.items p.link link c.requires.link ∙ ap Some (sym c.index_mut.ensures.value) in
    let is = declared c.args.topo.now p.link c.unwrap-decl.result.now (sym (ap option_copied c.unwrap-decl.ensures) ∙ c.link.ensures.exact) in
    let own = at_link exponent links old.links.items before p.link link at stands.each in
    on_ok c.step.result
    (λ next. stepped (manager_with c.args.topo.now exponent clients) old _ p before c.step.new.self c.requires.link refl refl stands (subst (λ e. IsAt e links p.link c.step.new.self (p ∷ before)) stands.exponent next))
    (c.step.ensures links before is (subst (λ e. IsAt e links p.link link before) (sym stands.exponent) own))
