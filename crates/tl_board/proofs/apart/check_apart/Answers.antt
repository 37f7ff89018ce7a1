use Rattle.tl_topology.specs.Regions.{areas_of}
use Rattle.tl_definitions.specs.Managers.{declared_links}
use Rattle.tl_client_rules.proofs.ClientsLaws.{clients_rise}
use Rattle.tl_board.proofs.ApartLemmas.{judged_apart}
use Rattle.tl_board.proofs.apart.check_apart.Goals as goal

pub returns : goal.returns
returns c beats parted =
    judged_apart c.args.topo.now c.args.manager (areas_of c.args.regions.now) c.args.state.now c.go_through.new.state beats c.args.lists.now
    c.in_ok-rows.rows.items c.sort_rows.result.items (clients_rise c.args.manager (declared_links c.args.topo.now)) parted
    c.in_ok-rows.ensures c.sort_rows.ensures.rises c.sort_rows.ensures.members
