-- What several threads judge.
use Rattle.std.specs.Prelude.{ℕ, ◌<◌, List, None, slice_index_or, length, IfOk, Result}
use Rattle.tl_topology.specs.Topology.{Topology}
use Rattle.tl_beats.specs.Fragments.{Frag}
use Rattle.tl_pass.specs.Parts.{IsPart}
use Rattle.tl_pass.specs.declared.part.Part.{Part}
use Rattle.tl_pass.specs.declared.pass.Hitch.{Hitch}

-- It is what is found in some fragments of a whole run, or a hitch.
abbrev pub IsJudged : Topology → Result Part Hitch → Type 0
IsJudged topo found = IfOk found (λ part. (fs : List Frag) × IsPart None topo fs part)

-- Each of them is.
abbrev pub AreJudged : Topology → List (Result Part Hitch) → Type 0
AreJudged topo parts = (i : ℕ) (found : Result Part Hitch) → i < length parts → IsJudged topo (slice_index_or parts i found)
