-- A fragment as plain data.
use Rattle.std.specs.Prelude.{◌≡◌, ℕ, ◌<◌, ◌≤◌, ◌^◌, List, length, true}
use Rattle.std.specs.List.{All, AllAdjacentBelow}
use Rattle.tl_text.specs.Names.{is_name}
use Rattle.tl_beats.specs.declared.Beat.{Beat}
use Rattle.tl_beats.specs.Beats.{IsWellFormed, rises}

-- the beats of a link in a range of cycles
pub record Frag : Type 0 where
  pub link : List ℕ
  pub number : ℕ
  pub first : ℕ
  pub last : ℕ
  pub beats : List Beat

-- at most 65,536 beats, well-formed, in the range, each strictly before the next
pub record AreBeats (first last : ℕ) (beats : List Beat) : Type 0 where
  pub few : length beats ≤ 65536
  pub formed : All IsWellFormed beats
  pub within : All (λ b. (first ≤ b.cycle) × (b.cycle ≤ last)) beats
  pub rising : AllAdjacentBelow (λ a b. rises a b ≡ true) beats (length beats)

-- what each fragment keeps
pub record IsFragment (f : Frag) : Type 0 where
  pub named : is_name f.link ≡ true
  pub number : f.number < 2 ^ 32
  pub order : f.first ≤ f.last
  pub last : f.last < 2 ^ 64
  pub beats : AreBeats f.first f.last f.beats
