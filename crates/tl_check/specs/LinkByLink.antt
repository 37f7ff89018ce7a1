-- Beats link by link.
use Rattle.std.specs.Prelude.{ℕ, List, [], ◌∷◌, ◌++◌, map}
use Rattle.tl_beats.specs.declared.Placed.{Placed}
use Rattle.tl_definitions.specs.LinkPasses.{on_link}

-- Of each of these links its own beats.
abbrev pub of_each : List ℕ → List Placed → List (List Placed)
of_each links beats = map (λ link. on_link link beats) links

-- Lists of beats, one after the other.
abbrev pub one_after_other : List (List Placed) → List Placed
one_after_other [] = []
one_after_other (beats ∷ lists) = beats ++ one_after_other lists
