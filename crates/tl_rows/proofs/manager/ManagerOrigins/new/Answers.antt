use Rattle.std.proofs.Common.{refl}
use Rattle.tl_rows.proofs.ManagerLaws.{opening_stands}
use Rattle.tl_rows.proofs.manager.ManagerOrigins.new.Goals as goal

pub returns-clause-stands : goal.returns-clause-stands
returns-clause-stands c clients = opening_stands c.args.topo.now c.args.exponent clients _ refl c.in_ok-opening_links.ensures.1
