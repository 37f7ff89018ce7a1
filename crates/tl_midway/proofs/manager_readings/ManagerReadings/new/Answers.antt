use Rattle.std.proofs.Common.{get_or, refl, ◌∙◌}
use Rattle.tl_definitions.specs.Managers.{declared_links, manager_at}
use Rattle.tl_definitions.specs.Positions.{links_of}
use Rattle.tl_client_rules.proofs.ClientsLaws.{clients_rise}
use Rattle.tl_midway.specs.declared.link_readings.LinkReadings.{LinkReadings}
use Rattle.tl_midway.proofs.PlaceLaws.{clients_within}
use Rattle.tl_midway.proofs.LinkReadingLaws.{first_known, first_stands}
use Rattle.tl_midway.proofs.manager_readings.ManagerReadings.new.Goals as goal

pub first_readings-requires : goal.first_readings-requires
first_readings-requires c = clients_within c.args.topo.now c.args.manager c.deref.result.now (c.deref.ensures.value ∙ c.in_ok-numbers.ensures)

pub returns-clause-stands : goal.returns-clause-stands
returns-clause-stands c regions =
    let m = manager_at c.args.topo.now c.args.manager regions in
    record {
      clients = c.in_ok-first_readings.ensures.numbers ∙ c.deref.ensures.value ∙ c.in_ok-numbers.ensures;
      rises = clients_rise c.args.manager (declared_links c.args.topo.now);
      by_fields = c.by_fields.ensures m;
      each = λ k d below. first_stands c.args.law m (get_or c.in_ok-first_readings.field-0.items k d) (c.in_ok-first_readings.ensures.each k d below);
      lead_ins = refl;
    }

pub returns-clause-known : goal.returns-clause-known
returns-clause-known c k d below =
    let own : LinkReadings = get_or c.in_ok-first_readings.field-0.items k d in
    first_known c.args.law (links_of (declared_links c.args.topo.now) own.number) own (c.in_ok-first_readings.ensures.each k d below)
