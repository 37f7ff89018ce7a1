-- What an edit touches, as it is found.
use Rattle.std.specs.Prelude.{ℕ, ◌≡◌, ◌<◌, ◌↔◌, List, Some, length}
use Rattle.std.specs.List.{Contains}
use Rattle.tl_topology.specs.Topology.{Topology, number_of_name}
use Rattle.tl_definitions.specs.Managers.{declared_links}
use Rattle.tl_definitions.specs.Positions.{clients_of}
use Rattle.tl_edits.specs.Edits.{AnEdit}
use Rattle.tl_edits.specs.Inputs.{InputData, changed}
use Rattle.tl_board.specs.declared.touched.Touched.{Touched}
use Rattle.tl_board.specs.declared.touched.Touched.TheVariants as touched
use Rattle.tl_board.specs.Touch.{Touches, TouchesLink}

-- The link has this name, and it is one of the manager's, and of no other's.
pub record IsLinkOf (topo : Topology) (name : List ℕ) (link manager : ℕ) : Type 0 where
  pub named : number_of_name topo.links name ≡ Some link
  pub manages : manager < length topo.managers
  pub client : (number : ℕ) → Contains (clients_of number (declared_links topo)) link ↔ (number ≡ manager)

abbrev pub names : Touched → ℕ → ℕ → Type 0
names touched.Nothing number window = ⊥
names (touched.Windows manager windows) number window = (number ≡ manager) × Contains windows.items window
names (touched.All manager) number window = number ≡ manager

-- Windows are named of a manager that there is; where all of its windows are touched, it is not by a beat.
abbrev pub IsSure : InputData → AnEdit → Touched → Type 0
IsSure now e touched.Nothing = Unit {0}
IsSure now e (touched.Windows manager windows) = manager < length now.topo.managers
IsSure now e (touched.All manager) = ((changed now e).fragments ≡ now.fragments) × ((link window : ℕ) → TouchesLink now e link window → ⊥)

-- These are exactly the windows that the edit touches.
pub record IsTouched (now : InputData) (e : AnEdit) (t : Touched) : Type 0 where
  pub exact : (number window : ℕ) → Touches now e number window ↔ names t number window
  pub sure : IsSure now e t
