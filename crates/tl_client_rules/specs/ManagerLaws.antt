-- How a state stands for the beats of its manager.
use Rattle.std.specs.Prelude.{◌≡◌, false, List, ◌∷◌}
use Rattle.tl_beats.specs.declared.Placed.{Placed}
use Rattle.tl_definitions.specs.Messages.{at_head}
use Rattle.tl_definitions.specs.Rules.{Manager}
use Rattle.tl_client_rules.specs.declared.manager.ManagerState.{ManagerState}
use Rattle.tl_client_rules.specs.Manager.{StandsFor}

-- A state that is not stepped by a later beat stands for the beats with that.
abbrev pub LaterBeatsAreStoodFor : Type 0
LaterBeatsAreStoodFor = (m : Manager) (state : ManagerState) (before : List Placed) (p : Placed)
    → at_head m.links before p ≡ false → StandsFor m state before → StandsFor m state (p ∷ before)
