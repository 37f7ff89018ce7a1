use Rattle.std.proofs.Common.{◌≡◌, [], Some, sym, ap, ◌∙◌}
use Rattle.std.specs.Option.{option_map_or}
use Rattle.std.specs.Prelude.{slice_get}
use Rattle.std.proofs.lemmas.Option.{slice_get-get_or}
use Rattle.tl_rows.specs.declared.link.LinkOrigins.{LinkOrigins}
use Rattle.tl_rows.specs.declared.manager.Sought.TheVariants as sought
use Rattle.tl_rows.specs.declared.reason.Reason.TheVariants as why
use Rattle.tl_rows.specs.Openers as openers
use Rattle.tl_rows.specs.Reasons.{Trail, trail_of, named, first_some, link_reason, head_reason}
use Rattle.tl_rows.specs.States.{trail_at, sought_at}
use Rattle.tl_rows.proofs.ManagerLaws.{own_rule}
use Rattle.tl_rows.proofs.manager.ManagerOrigins.head_reason.Goals as goal

pub returns-in-M3 : goal.returns-in-M3
returns-in-M3 c =
    let state = c.args.self.now in
    let trails = trail_at state in
    c.of_grant.ensures
    ∙ ap (named why.Grant) (c.first-in-M3.ensures ∙ ap (λ b. first_some (sought_at state.exponent trails (sought.Grant b)) c.args.clients.now) c.block_of-block.ensures)
    ∙ sym (ap (head_reason c.args.clients.now state.exponent trails c.args.place.now c.args.op) c.in-M3.is)

pub returns-in_default : goal.returns-in_default
returns-in_default c =
    let state = c.args.self.now in
    let p = c.args.place.now in
    let at : slice_get state.links.items p.link ≡ Some c.index.result.now = slice_get-get_or state.links.items p.link c.index.result.now c.requires ∙ ap Some (sym c.index.ensures) in
    c.reason.ensures
    ∙ ap (λ (t : Trail). link_reason state.exponent t p.beat c.args.rule) (sym (ap (λ found. option_map_or (λ (s : LinkOrigins). openers.shown state.exponent s.openers) found (trail_of state.exponent [])) at))
    ∙ own_rule c.args.clients.now state.exponent (trail_at state) p c.args.op c.args.rule c.in_default.not-M1 c.in_default.not-M2 c.in_default.not-M3
