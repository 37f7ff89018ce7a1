-- Beats as they lie in shared fragments.
use Rattle.std.specs.Prelude.{ℕ, ◌≡◌, ◌<◌, ◌≤◌, List, [], ◌∷◌, ◌++◌, get_or}
use Rattle.std.specs.List.{Contains}
use Rattle.std.specs.List.Sorted.{IsStrictlySortedBy}
use Rattle.tl_beats.specs.Fragments.{Frag}
use Rattle.tl_beats.specs.declared.Beat.{Beat}
use Rattle.tl_beats.specs.declared.Placed.{Placed}
use Rattle.tl_definitions.specs.Positions.{position_order, in_order}
use Rattle.tl_capture.specs.Present.{recorded}
use Rattle.tl_capture.specs.Ranges.{span_beats}
use Rattle.tl_capture.specs.Spans.{IsSpan}
use Rattle.tl_capture.specs.Windows.{window_of}

-- the beats of a span of fragments, each on a link, one after the other
abbrev pub spanned : {V : Type 0} → (V → Frag) → ℕ → ℕ → List (ℕ × V) → List Placed
spanned value from to [] = []
spanned value from to (part ∷ parts) = span_beats from to (recorded part.0 (value part.1)) ++ spanned value from to parts

-- They span one window, and each of their beats has a place of its own.
pub record AreOfWindow (from to : ℕ) (ps : List Placed) : Type 0 where
  pub span : IsSpan (window_of from) from to
  pub rise : IsStrictlySortedBy position_order (in_order ps)

-- Each of these beats is one of those.
abbrev pub AreAmong : List Placed → List Placed → Type 0
AreAmong ps qs = (p : Placed) → Contains ps p → Contains qs p

-- The same beats stand from one index up to another.
abbrev pub AreAlike : ℕ → ℕ → List Beat → List Beat → Type 0
AreAlike start end here there = (k : ℕ) (d : Beat) → start ≤ k → k < end → get_or here k d ≡ get_or there k d
