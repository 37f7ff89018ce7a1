-- What is found in the fragments of the link that comes now.
use Rattle.std.proofs.Common.{List, Option, subst}
use Rattle.std.specs.Arc.{arc_value}
use Rattle.tl_topology.specs.Topology.{Topology}
use Rattle.tl_definitions.specs.Positions.{Recorded}
use Rattle.tl_midway.specs.declared.midway.Midway.{Midway}
use Rattle.tl_pass.specs.LinkPass.{HasCome, IsOwn}
use Rattle.tl_pass.specs.Reports.{IsFoundIn}
use Rattle.tl_pass.specs.declared.link_pass.LinkPass.{LinkPass}
use Rattle.tl_pass.specs.declared.pass.Found.{Found}

pub own_found : (midway : Option Midway) (topo : Topology) (fs : List Recorded) (pass : LinkPass) → HasCome midway topo fs pass → (found : Found) → IsOwn pass found
    → IsFoundIn midway topo pass.present found.rows.items found.lead_ins
own_found midway topo fs pass had found is =
    subst (λ w. IsFoundIn w topo pass.present found.rows.items found.lead_ins) had.begins
    (subst (λ t. IsFoundIn pass.midway t pass.present found.rows.items found.lead_ins) had.on is)
