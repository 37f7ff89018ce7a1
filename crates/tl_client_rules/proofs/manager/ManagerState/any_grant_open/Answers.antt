use Rattle.std.proofs.Common.{ap, sym, subst, ◌∙◌, length, ◌<◌}
use Rattle.std.specs.Prelude.{nat_lt}
use Rattle.tl_client_rules.specs.Client.{ClientView}
use Rattle.tl_client_rules.specs.Manager.{past_at}
use Rattle.tl_client_rules.proofs.ManagerLaws.{stands_at, one_found, none_so_far}
use Rattle.tl_client_rules.proofs.manager.ManagerState.any_grant_open.Goals as goal

pub returns-then-grant_open : goal.returns-then-grant_open
returns-then-grant_open c =
    let state = c.args.self.now in
    let numbers = c.numbers-items in
    let within = subst (λ xs. c.loop-place.place < length xs) numbers.ensures.exact c.loop-place-test.true in
    one_found (λ client. nat_lt 0 ((past_at c.args.self.now client).grants c.args.block)) numbers.result.now state.clients c.loop-place.place numbers.ensures.exact c.loop-place-test.true
    (ap (λ (v : ClientView). nat_lt 0 (v.past.grants c.args.block)) (stands_at state c.loop-place.place numbers.ensures.rises within) ∙ sym c.grant_open.ensures ∙ c.if-grant_open.true)

pub loop-place-preserved : goal.loop-place-preserved
loop-place-preserved c =
    let state = c.args.self.now in
    let numbers = c.numbers-items in
    let within = subst (λ xs. c.loop-place.place < length xs) numbers.ensures.exact c.loop-place-test.true in
    none_so_far (λ client. nat_lt 0 ((past_at c.args.self.now client).grants c.args.block)) numbers.result.now state.clients c.loop-place.place numbers.ensures.exact c.loop-place-test.true c.loop-place.invariant
    (ap (λ (v : ClientView). nat_lt 0 (v.past.grants c.args.block)) (stands_at state c.loop-place.place numbers.ensures.rises within) ∙ sym c.grant_open.ensures ∙ c.if-grant_open.false)
