-- The fragments of parts that several threads judged.
use Rattle.std.proofs.Common.{zero, suc, List, [], ◌∷◌, None, Ok, Err, arith}
use Rattle.std.specs.Prelude.{Result, IfOk}
use Rattle.tl_topology.specs.Topology.{Topology}
use Rattle.tl_beats.specs.Fragments.{Frag}
use Rattle.tl_pass.specs.Parts.{AreParts, IsPart}
use Rattle.tl_pass.specs.declared.part.Part.{Part}
use Rattle.tl_pass.specs.declared.pass.Hitch.{Hitch}
use Rattle.tl_turns.specs.Beside.{IsJudged, AreJudged}

one_of : (topo : Topology) (found : Result Part Hitch) → IsJudged topo found → (fs : List Frag) × IfOk found (IsPart None topo fs)
one_of topo (Ok part) had = had
one_of topo (Err hitch) had = ([], tt)

pub all_parts : (topo : Topology) (parts : List (Result Part Hitch)) → AreJudged topo parts → (each : List (List Frag)) × AreParts None topo each parts
all_parts topo [] had = ([], tt)
all_parts topo (found ∷ parts) had =
    let first = one_of topo found (had zero found (omega arith)) in
    let rest = all_parts topo parts (λ i other within. had (suc i) other (omega (arith, within))) in
    (first.0 ∷ rest.0, (first.1, rest.1))
