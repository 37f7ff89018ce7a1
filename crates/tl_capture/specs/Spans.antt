-- A window as a span of cycles.
use Rattle.std.specs.Prelude.{ℕ, ◌≡◌, ◌≤◌, ◌==◌, ◌&&◌, nat_le, Bool}
use Rattle.tl_beats.specs.declared.Beat.{Beat}
use Rattle.tl_capture.specs.Windows.{window_of}

-- Exactly the cycles of the window lie between these two.
pub record IsSpan (window from to : ℕ) : Type 0 where
  pub order : from ≤ to
  pub exact : (cycle : ℕ) → (window_of cycle == window) ≡ (nat_le from cycle && nat_le cycle to)

-- a beat lies in the span
abbrev pub holds : ℕ → ℕ → Beat → Bool
holds from to b = nat_le from b.cycle && nat_le b.cycle to
