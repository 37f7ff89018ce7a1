use Rattle.std.proofs.Common.{ap, sym, ◌∙◌}
use Rattle.std.specs.Prelude.{map, unwrap_or}
use Rattle.std.proofs.lemmas.Option.{slice_get-map, unwrap_or-slice_get}
use Rattle.tl_client_rules.proofs.ManagerLaws.{opens}
use Rattle.tl_client_rules.proofs.manager.ManagerState.new.Goals as goal

pub returns-clause-opening : goal.returns-clause-opening
returns-clause-opening c regions =
    let managers = c.args.topo.now.managers in
    opens _ _ (record { exponent = c.unwrap_or-exponent.result; clients = c.in_ok-clients.clients; states = c.in_ok-states.states })
    c.in_ok-clients.ensures
    (c.unwrap_or-exponent.ensures ∙ ap (λ found. unwrap_or found 0) (c.block.ensures ∙ sym (slice_get-map (λ p. p.1) managers c.args.manager)) ∙ unwrap_or-slice_get (map (λ p. p.1) managers) c.args.manager 0)
    c.in_ok-states.ensures.each
