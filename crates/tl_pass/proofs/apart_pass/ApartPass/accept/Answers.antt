use Rattle.std.proofs.Common.{◌≡◌, Option, None, subst}
use Rattle.tl_topology.specs.Topology.{Topology}
use Rattle.tl_beats.specs.Fragments.{Frag}
use Rattle.tl_definitions.specs.Positions.{Recorded}
use Rattle.tl_capture.specs.Present.{put_in}
use Rattle.tl_apart.specs.Apart.{HasApart}
use Rattle.tl_midway.specs.declared.midway.Midway.{Midway}
use Rattle.tl_pass.specs.Reports.{ComesOn}
use Rattle.tl_pass.proofs.apart_pass.ApartPass.accept.Goals as goal

pub returns : goal.returns
returns c midway topo fs had =
    let came = subst (λ (f : Frag). ComesOn topo f (λ g. HasApart topo (put_in g fs) c.accept.new.self)) c.deref.ensures (c.in_ok-accept.ensures topo fs had.1) in
    (came.0, came.1, (had.0, came.2))
