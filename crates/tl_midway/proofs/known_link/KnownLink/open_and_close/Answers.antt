use Rattle.std.proofs.Common.{sym, ap, ◌∙◌}
use Rattle.tl_midway.specs.Known.{known_of, closed, shut}
use Rattle.tl_midway.proofs.OpenedLaws.{on_a, on_b, on_c_ack, on_c_release, on_d_ack, on_d_other, on_d_grant, on_e}
use Rattle.tl_midway.proofs.known_link.KnownLink.open_and_close.Goals as goal

pub returns-in_ok-open-in-A-clause-past : goal.returns-in_ok-open-in-A-clause-past
returns-in_ok-open-in-A-clause-past c =
    on_a c.args.certain (known_of c.args.request) c.args.self.now c.args.head.now c.args.op c.requires c.open.new.self c.request_from.result c.in-A.is
    c.in_ok-open-in-A.ensures.entries c.request_from.ensures

pub returns-in_ok-set-in-B-clause-past : goal.returns-in_ok-set-in-B-clause-past
returns-in_ok-set-in-B-clause-past c =
    on_b c.args.certain (known_of c.args.request) c.args.self.now c.args.head.now c.args.op c.requires c.set.new.self c.block_of-block.result (known_of c.opened.result) c.cap_of.result
    c.in-B.is (sym c.is_probe.ensures ∙ c.if-is_probe.true) c.in_ok-set-in-B.ensures c.block_of-block.ensures c.opened.ensures c.cap_of.ensures

pub returns-in_ok-set-in-C-clause-past : goal.returns-in_ok-set-in-C-clause-past
returns-in_ok-set-in-C-clause-past c =
    on_c_ack c.args.certain (known_of c.args.request) c.args.self.now c.args.head.now c.args.op c.requires c.set-in-C.new.self c.block_of-block-in-C.result (known_of c.closed.result)
    c.in-C.is (sym c.is_probe_ack.ensures ∙ c.if-is_probe_ack.true) c.in_ok-set-in-C.ensures c.block_of-block-in-C.ensures
    (c.closed.ensures ∙ ap (λ old. closed c.args.certain old) c.get-old.ensures)

pub returns-in_ok-open-in-C-2-clause-past : goal.returns-in_ok-open-in-C-2-clause-past
returns-in_ok-open-in-C-2-clause-past c =
    on_c_release c.args.certain (known_of c.args.request) c.args.self.now c.args.head.now c.args.op c.requires c.open-in-C-2.new.self c.request_from-in-C-2.result
    c.in-C-2.is (sym c.is_probe_ack.ensures ∙ c.if-is_probe_ack.false) (sym c.is_release.ensures ∙ c.if-is_release.true) c.in_ok-open-in-C-2.ensures.entries c.request_from-in-C-2.ensures

pub returns-in_ok-close-in-D-clause-past : goal.returns-in_ok-close-in-D-clause-past
returns-in_ok-close-in-D-clause-past c =
    on_d_ack c.args.certain (known_of c.args.request) c.args.self.now c.args.head.now c.args.op c.requires c.close.new.self (known_of c.first_entry-first.result)
    c.in-D.is (sym c.is_release_ack.ensures ∙ c.if-is_release_ack.true) c.in_ok-close-in-D.ensures.entries c.first_entry-first.ensures

pub returns-in_ok-open_grant-in-D-2-clause-past : goal.returns-in_ok-open_grant-in-D-2-clause-past
returns-in_ok-open_grant-in-D-2-clause-past c =
    on_d_grant c.args.certain (known_of c.args.request) c.args.self.now c.args.head.now c.args.op c.requires c.close-in-D-2.new.self c.open_grant.new.sinks c.open_grant.new.granted
    (known_of c.first_entry-first-in-D-2.result) c.in-D-2.is (sym c.is_release_ack.ensures ∙ c.if-is_release_ack.false) (sym c.is_grant.ensures ∙ c.if-is_grant.true)
    c.in_ok-close-in-D-2.ensures.entries c.first_entry-first-in-D-2.ensures c.in_ok-open_grant-in-D-2.ensures.sinks c.in_ok-open_grant-in-D-2.ensures.granted

pub returns-else-is_grant-clause-past : goal.returns-else-is_grant-clause-past
returns-else-is_grant-clause-past c =
    on_d_other c.args.certain (known_of c.args.request) c.args.self.now c.args.head.now c.args.op c.requires c.close-in-D-2.new.self (known_of c.first_entry-first-in-D-2.result)
    c.in-D-2.is (sym c.is_release_ack.ensures ∙ c.if-is_release_ack.false) (sym c.is_grant.ensures ∙ c.if-is_grant.false) c.in_ok-close-in-D-2.ensures.entries c.first_entry-first-in-D-2.ensures

pub returns-in_ok-close-in-E-clause-past : goal.returns-in_ok-close-in-E-clause-past
returns-in_ok-close-in-E-clause-past c =
    on_e c.args.certain (known_of c.args.request) c.args.self.now c.args.head.now c.args.op c.requires c.set-in-E.new.self c.close-in-E.new.self (known_of c.shut.result)
    c.in-E.is c.in_ok-set-in-E.ensures (c.shut.ensures ∙ ap (λ old. shut c.args.certain old) c.get-old-in-E.ensures) c.in_ok-close-in-E.ensures.entries
