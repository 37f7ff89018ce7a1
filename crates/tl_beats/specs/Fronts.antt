-- A beat line at the front of a text.
use Rattle.std.specs.Prelude.{◌≡◌, ℕ, List, Option, Some}
use Rattle.tl_text.specs.Words.{◌>>=◌, ◌␣◌, ended, line_at}
use Rattle.tl_beats.specs.declared.Beat.{Beat}
use Rattle.tl_beats.specs.declared.front_line.FrontLine.{FrontLine}
use Rattle.tl_beats.specs.Beats.{IsWellFormed}
use Rattle.tl_beats.specs.Reading.{beat_at}
use Rattle.tl_beats.specs.Text.{chan_text, fields_text}

-- the beat that the first line spells, and what stands after the line
abbrev pub beat_line_at : List ℕ → Option (Beat × List ℕ)
beat_line_at text = do
  line ← line_at text
  beat ← beat_at line.0
  Some (beat, line.1)

-- what stands after the cycle of a beat's line
abbrev pub after_cycle : Beat → List ℕ
after_cycle b = chan_text b.chan ␣ fields_text b.chan b

-- A beat and what its line has after the cycle.
pub record IsFrontLine (l : FrontLine) : Type 0 where
  pub formed : IsWellFormed l.beat
  pub text : l.after_cycle.now ≡ ended (after_cycle l.beat)
