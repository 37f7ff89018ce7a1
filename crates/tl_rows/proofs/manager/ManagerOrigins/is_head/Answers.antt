use Rattle.std.proofs.Common.{Some, sym, ap, ◌∙◌}
use Rattle.std.specs.Option.{option_copied}
use Rattle.std.proofs.lemmas.Option.{slice_get-get_or}
use Rattle.tl_definitions.specs.Managers.{declared_links}
use Rattle.tl_definitions.specs.Positions.{links_of}
use Rattle.tl_definitions.specs.Heads.{before_on, is_head}
use Rattle.tl_rows.proofs.ManagerLaws.{at_link, declared}
use Rattle.tl_rows.proofs.manager.ManagerOrigins.is_head.Goals as goal

pub returns : goal.returns
returns c exponent clients before stands =
    let p = c.args.place.now in
    let links = links_of (declared_links c.args.topo.now) in
    let link = c.index.result.now in
    let decl = c.unwrap-decl.result.now in
    let at = slice_get-get_or c.args.self.now.links.items p.link link c.requires.link ∙ ap Some (sym c.index.ensures) in
    let is = declared c.args.topo.now p.link decl (sym (ap option_copied c.unwrap-decl.ensures) ∙ c.link.ensures.exact) in
    let own = at_link exponent links c.args.self.now.links.items before p.link link at stands.each in
    c.is_head.ensures exponent links before is own ∙ ap (λ d. is_head d (before_on p.link p.beat.chan before)) (sym is)
