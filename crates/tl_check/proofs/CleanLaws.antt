-- A report without rows of the rules on bounds is coherent.
use Rattle.std.proofs.Common.{◌≡◌, ℕ, zero, suc, ◌+◌, ◌<◌, List, [], ◌∷◌, length, subst, arith}
use Rattle.std.specs.List.{Contains}
use Rattle.std.proofs.lemmas.List.Elements.{Contains-append_left}
use Rattle.tl_topology.specs.Regions.{Area}
use Rattle.tl_topology.specs.Topology.{Topology}
use Rattle.tl_definitions.specs.Captures.{captures_from, captures_of}
use Rattle.tl_definitions.specs.Positions.{Recorded}
use Rattle.tl_definitions.proofs.CoherenceLaws.{reported_captures_are_coherent}
use Rattle.tl_definitions.proofs.Lists.{contains_here, contains_there}
use Rattle.tl_check.specs.Captured.{areas_at, captures_with, watch_captures}
use Rattle.tl_check.specs.Clean.{GuardedReportsAreCoherent}
use Rattle.tl_check.proofs.CaptureLaws.{capture_with}

-- Each manager has its capture.
captures_have : {X : Type 0} (topo : Topology) (regions : ℕ → List Area) (fs : List Recorded) (number k : ℕ) (managers : List X) → k < length managers
    → Contains (captures_from topo regions fs number managers) (capture_with topo regions fs (number + k))
captures_have topo regions fs number k [] below = absurd (omega arith)
captures_have topo regions fs number zero (manager ∷ managers) below =
    let same : number ≡ number + 0 = omega arith in
    subst (λ n. Contains (captures_from topo regions fs number (manager ∷ managers)) (capture_with topo regions fs n)) same
    (contains_here (capture_with topo regions fs number) (captures_from topo regions fs (number + 1) managers))
captures_have topo regions fs number (suc k) (manager ∷ managers) below =
    let same : (number + 1) + k ≡ number + suc k = omega arith in
    contains_there (capture_with topo regions fs number) (captures_from topo regions fs (number + 1) managers) (capture_with topo regions fs (number + suc k))
    (subst (λ n. Contains (captures_from topo regions fs (number + 1) managers) (capture_with topo regions fs n)) same (captures_have topo regions fs (number + 1) k managers (omega (arith, below))))

pub guarded_reports_are_coherent : GuardedReportsAreCoherent
guarded_reports_are_coherent topo fs regions watches rows report clean manager below =
    let same : 0 + manager ≡ manager = omega arith in
    let managers = captures_of topo (areas_at regions) fs in
    reported_captures_are_coherent (captures_with topo fs regions watches) rows report clean _ _
    (Contains-append_left managers (watch_captures topo fs watches) (capture_with topo (areas_at regions) fs manager)
    (subst (λ n. Contains managers (capture_with topo (areas_at regions) fs n)) same (captures_have topo (areas_at regions) fs 0 manager topo.managers below)))
