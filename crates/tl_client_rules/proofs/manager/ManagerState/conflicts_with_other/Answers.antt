use Rattle.std.proofs.Common.{◌≡◌, ◌<◌, ◌==◌, ◌&&◌, not, true, false, get_or, length, ap, sym, subst, ◌∙◌, arith}
use Rattle.std.proofs.lemmas.Bool.Decides.{nat_tests}
use Rattle.tl_tables.specs.Kinds.{conflicts}
use Rattle.tl_client_rules.specs.Client.{ClientView}
use Rattle.tl_client_rules.specs.Manager.{past_at}
use Rattle.tl_client_rules.proofs.ManagerLaws.{stands_at, one_found, none_so_far}
use Rattle.tl_client_rules.proofs.manager.ManagerState.conflicts_with_other.Goals as goal
use Rattle.tl_client_rules.proofs.manager.ManagerState.conflicts_with_other.Goals.{else-client-link-via-then-client-link+else-conflicts_at, else-client-link-via-else-client-link}

pub returns-then-conflicts_at : goal.returns-then-conflicts_at
returns-then-conflicts_at c =
    let state = c.args.self.now in
    let numbers = c.numbers-client-items in
    let place = c.loop-place.place in
    let within = subst (λ xs. place < length xs) numbers.ensures.exact c.loop-place-test.true in
    let same : get_or numbers.result.now place 0 ≡ get_or state.clients place 0 = ap (λ xs. get_or xs place 0) numbers.ensures.exact in
    let other : (get_or state.clients place 0 == c.args.link) ≡ false = (let differ = c.if-client-link.true in grind (arith, nat_tests)) in
    let forbids = ap (λ (v : ClientView). conflicts c.args.set (v.past.bound c.args.block)) (stands_at state place numbers.ensures.rises within)
    ∙ sym c.conflicts_at.ensures ∙ c.if-conflicts_at.true in
    one_found (λ client. not (client == c.args.link) && conflicts c.args.set ((past_at c.args.self.now client).bound c.args.block)) numbers.result.now state.clients place numbers.ensures.exact c.loop-place-test.true
    (λ i. not (other i) && forbids i)

pub loop-place-preserved : goal.loop-place-preserved
loop-place-preserved c =
    let state = c.args.self.now in
    let numbers = c.numbers-client-items in
    let place = c.loop-place.place in
    let within = subst (λ xs. place < length xs) numbers.ensures.exact c.loop-place-test.true in
    let same : get_or numbers.result.now place 0 ≡ get_or state.clients place 0 = ap (λ xs. get_or xs place 0) numbers.ensures.exact in
    none_so_far (λ client. not (client == c.args.link) && conflicts c.args.set ((past_at c.args.self.now client).bound c.args.block)) numbers.result.now state.clients place numbers.ensures.exact c.loop-place-test.true c.loop-place.invariant
    (elim c.else-client-link.branch [
      | else-client-link-via-then-client-link+else-conflicts_at w ↦ (let permits = ap (λ (v : ClientView). conflicts c.args.set (v.past.bound c.args.block)) (stands_at state place numbers.ensures.rises within)
          ∙ sym w.conflicts_at.ensures ∙ w.if-conflicts_at.false in
          let other : (get_or state.clients place 0 == c.args.link) ≡ false = (let differ = w.if-client-link.true in grind (arith, nat_tests)) in
          λ i. not (other i) && permits i)
      | else-client-link-via-else-client-link w ↦ (let own : (get_or state.clients place 0 == c.args.link) ≡ true = (let is = w.if-client-link.false in grind (arith, nat_tests)) in
          λ i. not (own i) && conflicts c.args.set ((past_at state (get_or state.clients place 0)).bound c.args.block))
    ])
