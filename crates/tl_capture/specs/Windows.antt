-- Windows: window k holds the cycles from 4096 * k on, 4096 of them.
use Rattle.std.specs.Prelude.{ℕ, ◌≡◌, ◌/◌, ◌==◌, ◌&&◌, ◌↔◌, nat_le, Bool, List, [], ◌∷◌, ◌++◌, filter, reverse}
use Rattle.std.specs.List.{All, Contains}
use Rattle.std.specs.List.Sorted.{IsStrictlySortedBy}
use Rattle.std.specs.Ordering.{nat_cmp}
use Rattle.tl_tables.specs.declared.Chan.{Chan}
use Rattle.tl_beats.specs.Beats.{IsWellFormed}
use Rattle.tl_beats.specs.declared.Placed.{Placed}
use Rattle.tl_definitions.specs.Heads.{before_on}
use Rattle.tl_definitions.specs.Positions.{Recorded, position_order, beats_of, beats_of_all}
use Rattle.tl_capture.specs.Present.{IsPresent}

-- the window that holds a cycle
abbrev pub window_of : ℕ → ℕ
window_of cycle = cycle / 4096

abbrev pub lies_in : ℕ → Placed → Bool
lies_in window p = window_of p.beat.cycle == window

-- the beats of a window
abbrev pub beats_in : ℕ → List Placed → List Placed
beats_in window ps = filter (lies_in window) ps

-- the beats from a cycle to another
abbrev pub is_within : ℕ → ℕ → Placed → Bool
is_within from to p = nat_le from p.beat.cycle && nat_le p.beat.cycle to

abbrev pub beats_within : ℕ → ℕ → List Placed → List Placed
beats_within from to ps = filter (is_within from to) ps

-- what a check asks of its beats: in the order of positions, each at a place of its own, well-formed, and of these links
pub record AreBeatsOf (links : List ℕ) (ps : List Placed) : Type 0 where
  pub rise : IsStrictlySortedBy position_order ps
  pub formed : All (λ p. IsWellFormed p.beat) ps
  pub linked : All (λ p. Contains links p.link) ps

-- Some beat of these lies in the window.
abbrev pub HasBeat : List Placed → ℕ → Type 0
HasBeat ps window = (p : Placed) × Contains ps p × (window_of p.beat.cycle ≡ window)

-- the windows that have a beat, each once, rising
pub record AreWindows (ps : List Placed) (windows : List ℕ) : Type 0 where
  pub rise : IsStrictlySortedBy nat_cmp windows
  pub members : (window : ℕ) → Contains windows window ↔ HasBeat ps window

-- the beats of windows, one after the other
abbrev pub joined : List ℕ → List Placed → List Placed
joined [] ps = []
joined (window ∷ windows) ps = beats_in window ps ++ joined windows ps

-- The beats of the windows that have one are all beats.
abbrev pub WindowsAreWhole : Type 0
WindowsAreWhole = (links : List ℕ) (fs : List Recorded) (windows : List ℕ) → IsPresent fs
    → AreWindows (beats_of_all links fs) windows → joined windows (beats_of_all links fs) ≡ beats_of_all links fs

-- A manager's list has of each of its links that link's own list.
abbrev pub LinksAreKept : Type 0
LinksAreKept = (links : List ℕ) (fs : List Recorded) (link : ℕ) → IsPresent fs → Contains links link
    → filter (λ p. p.link == link) (beats_of_all links fs) ≡ beats_of link fs

-- So the beats of a channel of a link, the newest first, are the same in both.
abbrev pub ChannelsAreKept : Type 0
ChannelsAreKept = (links : List ℕ) (fs : List Recorded) (link : ℕ) (chan : Chan) → IsPresent fs → Contains links link
    → before_on link chan (reverse (beats_of_all links fs)) ≡ before_on link chan (reverse (beats_of link fs))

-- One link alone has its own list.
abbrev pub OneLinkIsItsOwn : Type 0
OneLinkIsItsOwn = (link : ℕ) (fs : List Recorded) → IsPresent fs → beats_of_all (link ∷ []) fs ≡ beats_of link fs
