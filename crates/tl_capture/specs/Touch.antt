-- What fragments that come and go leave as it was in a window.
use Rattle.std.specs.Prelude.{ℕ, ◌≡◌, ◌↔◌, List, Some}
use Rattle.std.specs.List.{Contains}
use Rattle.tl_beats.specs.declared.Placed.{Placed}
use Rattle.tl_definitions.specs.Positions.{Recorded, placed_beats, beats_of, beats_of_all}
use Rattle.tl_capture.specs.Present.{IsPresent, numbered, put_in, without, cleared}
use Rattle.tl_capture.specs.Windows.{window_of, beats_in, HasBeat}

-- The fragment is of one of these links and has a beat in the window.
abbrev pub Meets : List ℕ → ℕ → Recorded → Type 0
Meets links window f = Contains links f.link × HasBeat (placed_beats f) window

-- Where the same beats lie in a window, its beats are one list.
abbrev pub WindowsAreTheirBeats : Type 0
WindowsAreTheirBeats = (links : List ℕ) (fs gs : List Recorded) (window : ℕ) → IsPresent fs → IsPresent gs
    → ((p : Placed) → window_of p.beat.cycle ≡ window → Contains (beats_of_all links fs) p ↔ Contains (beats_of_all links gs) p)
    → beats_in window (beats_of_all links fs) ≡ beats_in window (beats_of_all links gs)

-- A fragment that comes leaves the windows in which it has no beat, and those of other links.
abbrev pub PutsAreLocal : Type 0
PutsAreLocal = (links : List ℕ) (f : Recorded) (fs : List Recorded) (window : ℕ) → IsPresent fs → IsPresent (put_in f fs)
    → (Meets links window f → ⊥) → beats_in window (beats_of_all links (put_in f fs)) ≡ beats_in window (beats_of_all links fs)

-- A fragment that goes leaves the windows in which it had no beat, and those of other links.
abbrev pub TakesAreLocal : Type 0
TakesAreLocal = (links : List ℕ) (link number : ℕ) (fs : List Recorded) (window : ℕ) → IsPresent fs
    → ((f : Recorded) → numbered link number fs ≡ Some f → Meets links window f → ⊥)
    → beats_in window (beats_of_all links (without link number fs)) ≡ beats_in window (beats_of_all links fs)

-- A link that is cleared leaves the windows in which it had no beat, and those of other links.
abbrev pub ClearsAreLocal : Type 0
ClearsAreLocal = (links : List ℕ) (link : ℕ) (fs : List Recorded) (window : ℕ) → IsPresent fs
    → (Contains links link → HasBeat (beats_of link fs) window → ⊥)
    → beats_in window (beats_of_all links (cleared link fs)) ≡ beats_in window (beats_of_all links fs)
