-- Which answer the parts of a fragment have: the fragment, or its first fault, by the lines of its text.
use Rattle.std.specs.Prelude.{◌≡◌, ℕ, ◌+◌, ◌<◌, ◌≤◌, ◌⊎◌, List, take, Some, Result, Ok, Err, slice_get}
use Rattle.tl_beats.specs.declared.Beat.{Beat}
use Rattle.tl_beats.specs.declared.fault.FragmentFault.{FragmentFault}
use Rattle.tl_beats.specs.declared.fault.FragmentFault.TheVariants as fault
use Rattle.tl_beats.specs.Beats.{IsWellFormed}
use Rattle.tl_beats.specs.Fragments.{Frag, AreBeats}
use Rattle.tl_beats.specs.Reading.{placed_at}

-- The fault of line n's beat after those before: that it is not well-formed, or else that of its place.
abbrev pub IsFaultOf : ℕ → ℕ → ℕ → List Beat → Beat → FragmentFault → Type 0
IsFaultOf first last n before beat found = ((¬ IsWellFormed beat) × (found ≡ fault.BadField n)) ⊎ (IsWellFormed beat × (placed_at first last n before beat ≡ Err found))

-- The first fault of beats: those before some place are a fragment's, and it is the fault of the beat there, on line i + 2.
abbrev pub IsFirstFault : ℕ → ℕ → List Beat → FragmentFault → Type 0
IsFirstFault first last beats found = (i : ℕ) × (beat : Beat) × (slice_get beats i ≡ Some beat) × AreBeats first last (take i beats) × IsFaultOf first last (i + 2) (take i beats) beat found

-- The answer to parts; each has exactly one.
abbrev pub IsAnswerTo : Frag → Result Frag FragmentFault → Type 0
IsAnswerTo parts (Ok f) = (f ≡ parts) × (parts.first ≤ parts.last) × AreBeats parts.first parts.last parts.beats
IsAnswerTo parts (Err found) = ((parts.last < parts.first) × (found ≡ fault.BadHeader)) ⊎ ((parts.first ≤ parts.last) × IsFirstFault parts.first parts.last parts.beats found)
