-- What an edit touches of the windows of monitors.
use Rattle.std.specs.Prelude.{ℕ, ◌≡◌, ◌==◌, ◌↔◌, ◌⊎◌, Bool, false, List, [], ◌∷◌, Option, Some, None, if◌then◌else◌}
use Rattle.std.specs.List.{Contains}
use Rattle.std.specs.Option.{option_map_or}
use Rattle.tl_topology.specs.Topology.{Topology, number_of_name}
use Rattle.tl_beats.specs.Watches.{link_of}
use Rattle.tl_beats.specs.declared.watch.Watch.{Watch}
use Rattle.tl_edits.specs.Edits.{AnEdit, add, replace, withdraw, clear_link, set_region, remove_region, attach, retune, detach}
use Rattle.tl_edits.specs.Inputs.{InputData, watch_at}
use Rattle.tl_pieces.specs.declared.key.PieceKey.{PieceKey}
use Rattle.tl_board.specs.Touch.{TouchesLink}

-- The monitor that is attached, retuned or detached by an edit.
abbrev pub edited_monitor : AnEdit → Option ℕ
edited_monitor (add f) = None
edited_monitor (replace f) = None
edited_monitor (withdraw name number) = None
edited_monitor (clear_link name) = None
edited_monitor (set_region name number area) = None
edited_monitor (remove_region name number) = None
edited_monitor (attach monitor w) = Some monitor
edited_monitor (retune monitor limit) = Some monitor
edited_monitor (detach monitor) = Some monitor

-- The link whose fragments it edits, if there is such a link.
abbrev pub edited_link : Topology → AnEdit → Option ℕ
edited_link topo (add f) = number_of_name topo.links f.link
edited_link topo (replace f) = number_of_name topo.links f.link
edited_link topo (withdraw name number) = number_of_name topo.links name
edited_link topo (clear_link name) = number_of_name topo.links name
edited_link topo (set_region name number area) = None
edited_link topo (remove_region name number) = None
edited_link topo (attach monitor w) = None
edited_link topo (retune monitor limit) = None
edited_link topo (detach monitor) = None

-- The monitor is attached, and its watch names a link of which P is true.
abbrev pub OnWatch : InputData → ℕ → (ℕ → Type 0) → Type 0
OnWatch now number P = (w : Watch) × (watch_at number now.monitors ≡ Some w) × (link : ℕ) × (number_of_name now.topo.links (link_of w) ≡ Some link) × P link

-- The window of the monitor is touched by the edit, before which this stands: always by an edit of the monitor, and by one of
-- fragments where it touches the window of the link that is watched. No region touches it.
abbrev pub TouchesWatch : InputData → AnEdit → ℕ → ℕ → Type 0
TouchesWatch now e number window = (edited_monitor e ≡ Some number) ⊎ OnWatch now number (λ link. TouchesLink now e link window)

-- whether a watch names the link
abbrev pub names_link : Topology → ℕ → Watch → Bool
names_link topo link w = option_map_or (λ l. l == link) (number_of_name topo.links (link_of w)) false

-- the monitors whose watch names the link
abbrev pub watchers : Topology → ℕ → List (ℕ × Watch) → List ℕ
watchers topo link [] = []
watchers topo link (e ∷ es) = if names_link topo link e.1 then e.0 ∷ watchers topo link es else watchers topo link es

-- These are the keys of the windows of monitors that an edit of fragments touches; all of them watch this link.
pub record AreTouched (now : InputData) (e : AnEdit) (link : ℕ) (keys : List PieceKey) : Type 0 where
  pub exact : (key : PieceKey) → Contains keys key ↔ OnWatch now key.owner (λ l. TouchesLink now e l key.window)
  pub own : (key : PieceKey) → Contains keys key → OnWatch now key.owner (λ l. l ≡ link)
