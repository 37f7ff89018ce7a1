-- What a walk over the fragments of a link has left.
use Rattle.std.specs.Prelude.{ℕ, List, [], if◌then◌else◌}
use Rattle.std.specs.Arc.{arc_value}
use Rattle.std.specs.Borrow.{Bor}
use Rattle.tl_beats.specs.Fragments.{Frag}
use Rattle.tl_definitions.specs.Positions.{Recorded}
use Rattle.tl_capture.specs.Present.{recorded}
use Rattle.tl_capture.specs.Ranges.{met}
use Rattle.tl_capture.specs.declared.walks.OnLink.{OnLink}

-- a fragment on a link, as an item shows it
abbrev pub part_seen : {V : Type 0} → (V → Frag) → ℕ × Bor V → Recorded
part_seen value part = recorded part.0 (value part.1.now)

-- the fragments that it still gives, in their order
abbrev pub fragments_left : OnLink → List Recorded
fragments_left walk = if walk.has_ended then [] else met arc_value walk.last walk.link walk.entries
