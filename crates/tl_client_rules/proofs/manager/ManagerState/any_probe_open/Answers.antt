use Rattle.std.proofs.Common.{ap, sym, subst, ◌∙◌, length, ◌<◌}
use Rattle.std.specs.Prelude.{is_some}
use Rattle.tl_client_rules.specs.Client.{ClientView}
use Rattle.tl_client_rules.specs.Manager.{past_at}
use Rattle.tl_client_rules.proofs.ManagerLaws.{stands_at, one_found, none_so_far}
use Rattle.tl_client_rules.proofs.manager.ManagerState.any_probe_open.Goals as goal

pub returns-then-probe_open : goal.returns-then-probe_open
returns-then-probe_open c =
    let state = c.args.self.now in
    let numbers = c.numbers-items in
    let within = subst (λ xs. c.loop-place.place < length xs) numbers.ensures.exact c.loop-place-test.true in
    one_found (λ client. is_some ((past_at c.args.self.now client).probe c.args.block)) numbers.result.now state.clients c.loop-place.place numbers.ensures.exact c.loop-place-test.true
    (ap (λ (v : ClientView). is_some (v.past.probe c.args.block)) (stands_at state c.loop-place.place numbers.ensures.rises within) ∙ sym c.probe_open.ensures ∙ c.if-probe_open.true)

pub loop-place-preserved : goal.loop-place-preserved
loop-place-preserved c =
    let state = c.args.self.now in
    let numbers = c.numbers-items in
    let within = subst (λ xs. c.loop-place.place < length xs) numbers.ensures.exact c.loop-place-test.true in
    none_so_far (λ client. is_some ((past_at c.args.self.now client).probe c.args.block)) numbers.result.now state.clients c.loop-place.place numbers.ensures.exact c.loop-place-test.true c.loop-place.invariant
    (ap (λ (v : ClientView). is_some (v.past.probe c.args.block)) (stands_at state c.loop-place.place numbers.ensures.rises within) ∙ sym c.probe_open.ensures ∙ c.if-probe_open.false)
