use Rattle.std.proofs.Common.{Some, sym, ap, ◌∙◌}
use Rattle.std.specs.Option.{option_copied}
use Rattle.std.proofs.lemmas.Option.{slice_get-get_or}
use Rattle.tl_definitions.specs.Managers.{declared_links}
use Rattle.tl_definitions.specs.Positions.{links_of}
use Rattle.tl_rows.proofs.ManagerLaws.{at_link, declared}
use Rattle.tl_rows.proofs.manager.ManagerOrigins.open_at.Goals as goal

pub returns : goal.returns
returns c exponent clients before stands =
    let links = links_of (declared_links c.args.topo.now) in
    let link = c.index.result.now in
    let decl = c.unwrap-decl.result.now in
    let at = slice_get-get_or c.args.self.now.links.items c.args.client link c.requires.link ∙ ap Some (sym c.index.ensures) in
    let is = declared c.args.topo.now c.args.client decl (sym (ap option_copied c.unwrap-decl.ensures) ∙ c.link.ensures.exact) in
    let own = at_link exponent links c.args.self.now.links.items before c.args.client link at stands.each in
    c.open_count.ensures exponent links before is own
