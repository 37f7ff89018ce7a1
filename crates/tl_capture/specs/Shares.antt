-- The windows of beats that rise.
use Rattle.std.specs.Prelude.{ℕ, ◌+◌, nat_lt, List, [], ◌∷◌, ◌++◌, if◌then◌else◌}
use Rattle.tl_beats.specs.declared.Beat.{Beat}
use Rattle.tl_definitions.specs.Positions.{Recorded}
use Rattle.tl_capture.specs.Windows.{window_of}

-- from this window on
abbrev pub windows_from : ℕ → List Beat → List ℕ
windows_from next [] = []
windows_from next (b ∷ beats) = if nat_lt (window_of b.cycle) next then windows_from next beats else window_of b.cycle ∷ windows_from (window_of b.cycle + 1) beats

-- of fragments, one after the other
abbrev pub windows_of_all : List Recorded → List ℕ
windows_of_all [] = []
windows_of_all (f ∷ fs) = windows_from 0 f.beats ++ windows_of_all fs
