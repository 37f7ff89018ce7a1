use Rattle.std.proofs.Common.{sym, ◌∙◌}
use Rattle.tl_definitions.specs.Known.{bare}
use Rattle.tl_definitions.specs.Printed.{front}
use Rattle.tl_midway.specs.Known.{known_of}
use Rattle.tl_midway.specs.KnownPasts.{message_broken}
use Rattle.tl_midway.proofs.Results.{on_ok}
use Rattle.tl_midway.proofs.HeadRowLaws.{found_stands, rules_are, put_three}
use Rattle.tl_midway.proofs.known_pasts.KnownPasts.put_message.Goals as goal

pub returns : goal.returns
returns c m start before stands =
    let p = c.args.at.now in
    let message = bare c.args.op p.beat in
    let own = c.index.result.now in
    let stood = found_stands m start before c.args.self.now stands p c.unwrap-place.result own (sym c.place.ensures ∙ c.unwrap-place.ensures) c.requires c.index.ensures in
    let are = rules_are m start before c.args.self.now stands c.args.strict p.link own.past message (known_of c.request-request.result) c.flow_rules-flow.result c.permission_rules-permissions.result
    c.manager_rules-across.result stood c.flow_rules-flow.ensures (c.permission_rules-permissions.ensures.stands m start p.link before stood) c.request-request.ensures c.manager_rules-across.ensures in
    on_ok c.add_rows-3.result
    (put_three p c.flow_rules-flow.result c.permission_rules-permissions.result c.manager_rules-across.result (message_broken c.args.strict m (front m start before) p.link message)
    c.args.rows.now.items c.add_rows.new.rows.items c.add_rows-2.new.rows.items c.add_rows-3.new.rows.items are c.in_ok-add_rows.ensures c.in_ok-add_rows-2.ensures)
    c.add_rows-3.ensures
