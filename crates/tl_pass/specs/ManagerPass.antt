-- The rows that managers have so far.
use Rattle.std.specs.Prelude.{ℕ, ◌≡◌, ◌<◌, ◌↔◌, List, [], length}
use Rattle.std.specs.List.{Contains}
use Rattle.tl_beats.specs.declared.Row.{Row}
use Rattle.tl_definitions.specs.Positions.{Recorded}
use Rattle.tl_stream.specs.Streams.{StreamData, HasAccepted, told_by}

-- A manager told the row.
abbrev pub IsToldBySome : StreamData → List Recorded → Row → Type 0
IsToldBySome s fs row = (manager : ℕ) × (manager < length s.topo.managers) × Contains (told_by s fs manager) row

-- Exactly these fragments came, and these are the rows that were told of them.
pub record HasTold (fs : List Recorded) (s : StreamData) (rows : List Row) : Type 0 where
  pub accepted : HasAccepted fs s
  pub bare : s.regions ≡ []
  pub members : (row : Row) → Contains rows row ↔ IsToldBySome s fs row
