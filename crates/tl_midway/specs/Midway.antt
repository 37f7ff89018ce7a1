-- How a capture begins that begins in the middle of a run.
use Rattle.std.specs.Prelude.{ℕ, ◌≡◌}
use Rattle.tl_tables.specs.declared.Chan.{Chan}
use Rattle.tl_topology.specs.declared.LinkDecl.{LinkDecl}
use Rattle.tl_definitions.specs.Rules.{Manager}
use Rattle.tl_definitions.specs.Known.{Beginning}
use Rattle.tl_definitions.specs.Lawful.{any_past, told_bursts, at_heads}
use Rattle.tl_midway.specs.declared.midway.Midway.{Midway}
use Rattle.tl_midway.specs.declared.midway.Midway.TheVariants as midway

-- The beginning of a manager's capture.
abbrev pub beginning_of : Midway → Manager → Beginning
beginning_of midway.Any m = any_past m
beginning_of midway.Bursts m = told_bursts m
beginning_of midway.Heads m = at_heads

-- So many beats of a message may be missing at first on a channel of a link that is declared so.
abbrev pub IsMost : Midway → LinkDecl → Chan → ℕ → Type 0
IsMost law link chan most = (m : Manager) (number : ℕ) → m.links number ≡ link → most ≡ (beginning_of law m).most number chan
