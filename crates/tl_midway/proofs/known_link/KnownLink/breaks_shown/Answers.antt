use Rattle.std.specs.Prelude.{is_some, is_none}
use Rattle.std.proofs.Common.{◌&&◌, sym, ap, ◌∙◌}
use Rattle.tl_definitions.specs.Messages.{round_down}
use Rattle.tl_definitions.specs.Known.{KnownClient, surely, bare}
use Rattle.tl_midway.specs.KnownLink.{shown, breaks_shown_permission}
use Rattle.tl_midway.proofs.known_link.KnownLink.breaks_shown.Goals as goal

pub returns-then-is_probe_ack-2 : goal.returns-then-is_probe_ack-2
returns-then-is_probe_ack-2 c =
    let state = c.args.self.now in
    let past : KnownClient = (shown state).client in
    let block = round_down state.exponent c.args.head.now.address in
    c.probe_closed.ensures
    ∙ ap (λ b. surely is_none (past.probe b)) c.block-block.ensures
    ∙ ap (λ b. b && surely is_none (past.probe block)) (sym (sym c.is_probe_ack-in-P3.ensures ∙ c.if-is_probe_ack-2.true))
    ∙ ap (λ r. breaks_shown_permission c.args.strict state (bare c.args.op c.args.head.now) r) (sym c.in-P3.is)

pub returns-then-is_probe : goal.returns-then-is_probe
returns-then-is_probe c =
    let state = c.args.self.now in
    let past : KnownClient = (shown state).client in
    let block = round_down state.exponent c.args.head.now.address in
    c.probe_open.ensures
    ∙ ap (λ b. surely is_some (past.probe b)) c.block-block.ensures
    ∙ ap (λ b. b && surely is_some (past.probe block)) (sym (sym c.is_probe.ensures ∙ c.if-is_probe.true))
    ∙ ap (λ r. breaks_shown_permission c.args.strict state (bare c.args.op c.args.head.now) r) (sym c.in-P5.is)
