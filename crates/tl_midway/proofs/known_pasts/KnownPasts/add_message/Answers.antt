use Rattle.std.proofs.Common.{◌++◌, [], map, append-nil, sym, ap, ◌∙◌}
use Rattle.std.specs.Prelude.{filter}
use Rattle.tl_definitions.specs.Breaks.{row_of}
use Rattle.tl_definitions.specs.Rules.{flow_order}
use Rattle.tl_definitions.specs.Known.{bare}
use Rattle.tl_definitions.specs.Printed.{breaks_flow_surely}
use Rattle.tl_midway.specs.Known.{known_of}
use Rattle.tl_midway.specs.KnownLink.{shown}
use Rattle.tl_midway.proofs.StandLaws.{permissions_stand}
use Rattle.tl_midway.proofs.HeadRowLaws.{found_stands, rules_are}
use Rattle.tl_midway.proofs.known_pasts.KnownPasts.add_message.Goals as goal

-- A head that is seen to break no rule has no rows.
pub returns-then-keeps_managers : goal.returns-then-keeps_managers
returns-then-keeps_managers c m start before stands =
    let p = c.args.at.now in
    let message = bare c.args.op p.beat in
    let own = c.index.result.now in
    let stood = found_stands m start before c.args.self.now stands p c.unwrap-place.result own (sym c.place.ensures ∙ c.unwrap-place.ensures) c.requires c.index.ensures in
    let are = rules_are m start before c.args.self.now stands c.args.strict p.link own.past message (known_of c.request-request.result) [] [] [] stood
    (sym (c.keeps_flow.ensures c.if-keeps_flow.true) ∙ ap (λ request. filter (breaks_flow_surely (shown own.past).flow request message) flow_order) c.request-request.ensures)
    (sym (c.keeps_permissions.ensures c.if-keeps_permissions.true) ∙ permissions_stand m start p.link before own.past c.args.strict message stood)
    c.request-request.ensures (sym (c.keeps_managers.ensures c.if-keeps_managers.true)) in
    sym (append-nil c.args.rows.now.items) ∙ ap (λ rules. c.args.rows.now.items ++ map (row_of p) rules) are
