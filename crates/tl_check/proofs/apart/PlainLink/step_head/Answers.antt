use Rattle.std.proofs.Common.{sym, ap, ◌∙◌}
use Rattle.tl_topology.specs.Regions.{areas_of}
use Rattle.tl_link_rules.specs.Flow.{flow_with}
use Rattle.tl_check.proofs.StepLaws.{on_ok, whatever}
use Rattle.tl_check.proofs.CleanHeadLaws.{clean_rows}
use Rattle.tl_check.proofs.PlainLaws.{one_plain, all_plain}
use Rattle.tl_check.proofs.PlainLinkLaws.{head_rows, head_next, still_formed}
use Rattle.tl_check.proofs.apart.PlainLink.step_head.Goals as goal

pub begin-requires-clause-message : goal.begin-requires-clause-message
begin-requires-clause-message c = (c.clean_message.ensures c.in-Some.op c.in-Some.is).message

pub change-requires : goal.change-requires
change-requires c = one_plain c.args.decl.now c.args.at.now.beat c.in-Some.op c.requires.plain (c.clean_message.ensures c.in-Some.op c.in-Some.is).message

pub returns-in-Some-clause-rows : goal.returns-in-Some-clause-rows
returns-in-Some-clause-rows c s shows =
    let p = c.args.at.now in
    let clean = c.clean_message.ensures c.in-Some.op c.in-Some.is in
    whatever c.change.result
    (clean_rows c.args.decl.now c.args.exponent (areas_of c.args.regions.now) s p c.get-request.result c.in-Some.op c.args.rows.now.items (sym (shows.bursts p.beat.chan) ∙ c.requires.head)
    clean (one_plain c.args.decl.now p.beat c.in-Some.op c.requires.plain clean.message) (c.get-request.ensures ∙ shows.requests p.beat.source))

pub returns-in-Some-clause-next : goal.returns-in-Some-clause-next
returns-in-Some-clause-next c s shows =
    let p = c.args.at.now in
    let clean = c.clean_message.ensures c.in-Some.op c.in-Some.is in
    on_ok c.change.result
    (λ has. head_next c.args.decl.now c.args.exponent (areas_of c.args.regions.now) s p c.args.self.now (record { bursts = c.begin.new.self; requests = c.change.new.self }) shows c.begin.ensures
    (sym (shows.bursts p.beat.chan) ∙ c.requires.head) (λ source. has source ∙ sym (ap (λ found. (flow_with s.past.flow p.beat found).source source) clean.message)))
    (c.change.ensures s.past.flow shows.requests)

pub returns-in-Some-clause-formed : goal.returns-in-Some-clause-formed
returns-in-Some-clause-formed c = whatever c.change.result (still_formed c.args.decl.now c.args.at.now.beat c.args.self.now.bursts _ c.requires.beat c.requires.formed c.begin.ensures)

pub returns-clause-rows : goal.returns-clause-rows
returns-clause-rows c s shows =
    let p = c.args.at.now in
    on_ok c.add_rows-2.result
    (λ two. head_rows c.args.decl.now c.args.exponent (areas_of c.args.regions.now) s p c.check_head-format.result c.in_ok-flows.flows c.args.rows.now.items c.add_rows.new.rows.items
    c.add_rows-2.new.rows.items (sym (shows.bursts p.beat.chan) ∙ c.requires.head) c.check_head-format.ensures (c.in_ok-flows.ensures.rules s.past.flow shows.requests)
    (all_plain c.args.decl.now p.beat c.requires.plain) c.in_ok-add_rows.ensures two)
    c.add_rows-2.ensures

pub returns-clause-next : goal.returns-clause-next
returns-clause-next c s shows =
    let p = c.args.at.now in
    whatever c.add_rows-2.result
    (head_next c.args.decl.now c.args.exponent (areas_of c.args.regions.now) s p c.args.self.now _ shows c.pass.ensures (sym (shows.bursts p.beat.chan) ∙ c.requires.head)
    (c.in_ok-flows.ensures.next s.past.flow shows.requests))

pub returns-clause-formed : goal.returns-clause-formed
returns-clause-formed c = whatever c.add_rows-2.result (still_formed c.args.decl.now c.args.at.now.beat c.args.self.now.bursts _ c.requires.beat c.requires.formed c.pass.ensures)
