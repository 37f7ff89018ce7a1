use Rattle.std.proofs.Common.{true, false, Some, None, sym, ap, ◌∙◌}
use Rattle.std.specs.Option.{option_copied}
use Rattle.std.proofs.lemmas.Option.{slice_get-get_or}
use Rattle.tl_definitions.specs.Heads.{message_of}
use Rattle.tl_definitions.specs.Managers.{declared_links}
use Rattle.tl_definitions.specs.Positions.{links_of}
use Rattle.tl_rows.specs.Reasons.{head_reason}
use Rattle.tl_rows.specs.States.{trail_at, manager_with}
use Rattle.tl_rows.proofs.LinkLaws.{here}
use Rattle.tl_rows.proofs.ManagerLaws.{at_link, declared, shown_trails, later_law, head_law}
use Rattle.tl_rows.proofs.manager.ManagerOrigins.reason.Goals as goal

pub returns-then-not-is_head : goal.returns-then-not-is_head
returns-then-not-is_head c exponent before stands =
    let p = c.args.place.now in
    let links = links_of (declared_links c.args.topo.now) in
    let link = c.index-link.result.now in
    let decl = c.unwrap-decl.result.now in
    let at = slice_get-get_or c.args.self.now.links.items p.link link c.requires.link ∙ ap Some (sym c.index-link.ensures) in
    let is = declared c.args.topo.now p.link decl (sym (ap option_copied c.unwrap-decl.ensures) ∙ c.link.ensures.exact) in
    let own = at_link exponent links c.args.self.now.links.items before p.link link at stands.each in
    let later = here links decl p before is false (sym (c.is_head.ensures exponent links before is own) ∙ c.if-not-is_head.true) in
    c.of_later.ensures
    ∙ later_law (manager_with c.args.topo.now exponent c.args.clients.now) before p c.args.rule c.head.result later (c.head.ensures ∙ own.heads p.beat.chan)

pub returns-in-Some : goal.returns-in-Some
returns-in-Some c exponent before stands =
    let p = c.args.place.now in
    let links = links_of (declared_links c.args.topo.now) in
    let link = c.index-link.result.now in
    let decl = c.unwrap-decl.result.now in
    let m = manager_with c.args.topo.now exponent c.args.clients.now in
    let at = slice_get-get_or c.args.self.now.links.items p.link link c.requires.link ∙ ap Some (sym c.index-link.ensures) in
    let is = declared c.args.topo.now p.link decl (sym (ap option_copied c.unwrap-decl.ensures) ∙ c.link.ensures.exact) in
    let own = at_link exponent links c.args.self.now.links.items before p.link link at stands.each in
    let head = here links decl p before is true (sym (c.is_head.ensures exponent links before is own) ∙ c.if-not-is_head.false) in
    c.head_reason.ensures
    ∙ ap (λ e. head_reason c.args.clients.now e (trail_at c.args.self.now) p c.in-Some.op c.args.rule) stands.exponent
    ∙ ap (λ t. head_reason c.args.clients.now exponent t p c.in-Some.op c.args.rule) (shown_trails m c.args.self.now before stands)
    ∙ head_law m before p c.args.rule (Some c.in-Some.op) head (ap (λ d. message_of d p.beat) is ∙ sym c.op_of.ensures ∙ c.in-Some.is)

pub returns-in-None : goal.returns-in-None
returns-in-None c exponent before stands =
    let p = c.args.place.now in
    let links = links_of (declared_links c.args.topo.now) in
    let link = c.index-link.result.now in
    let decl = c.unwrap-decl.result.now in
    let m = manager_with c.args.topo.now exponent c.args.clients.now in
    let at = slice_get-get_or c.args.self.now.links.items p.link link c.requires.link ∙ ap Some (sym c.index-link.ensures) in
    let is = declared c.args.topo.now p.link decl (sym (ap option_copied c.unwrap-decl.ensures) ∙ c.link.ensures.exact) in
    let own = at_link exponent links c.args.self.now.links.items before p.link link at stands.each in
    let head = here links decl p before is true (sym (c.is_head.ensures exponent links before is own) ∙ c.if-not-is_head.false) in
    head_law m before p c.args.rule None head (ap (λ d. message_of d p.beat) is ∙ sym c.op_of.ensures ∙ c.in-None.is)
