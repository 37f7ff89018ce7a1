use Rattle.std.proofs.Common.{◌≡◌, ℕ, get_or, subst, ◌∙◌}
use Rattle.tl_definitions.specs.Known.{first_past}
use Rattle.tl_definitions.specs.Managers.{declared_links, manager_at}
use Rattle.tl_definitions.specs.Positions.{links_of}
use Rattle.tl_client_rules.proofs.ClientsLaws.{clients_rise}
use Rattle.tl_midway.specs.KnownLink.{Shows}
use Rattle.tl_midway.specs.declared.known_pasts.LinkPast.{LinkPast}
use Rattle.tl_midway.proofs.PlaceLaws.{clients_within, block_is}
use Rattle.tl_midway.proofs.known_pasts.KnownPasts.new.Goals as goal

pub first_pasts-requires : goal.first_pasts-requires
first_pasts-requires c = clients_within c.args.topo.now c.args.manager c.deref.result.now (c.deref.ensures.value ∙ c.in_ok-numbers.ensures)

pub returns : goal.returns
returns c regions start =
    let topo = c.args.topo.now in
    let m = manager_at topo c.args.manager regions in
    let power : c.unwrap_or-exponent.result ≡ m.exponent = block_is topo c.args.manager c.unwrap_or-exponent.result c.block.result c.block.ensures c.unwrap_or-exponent.ensures in
    record {
      clients = c.in_ok-first_pasts.ensures.numbers ∙ c.deref.ensures.value ∙ c.in_ok-numbers.ensures;
      rises = clients_rise c.args.manager (declared_links topo);
      exponent = power;
      each = λ k d below.
          let link : LinkPast = get_or c.in_ok-first_pasts.field-0.items k d in
          subst (λ (e : ℕ). Shows e link.past (first_past (links_of (declared_links topo) link.number))) power (c.in_ok-first_pasts.ensures.each k d below);
    }
