-- What is kept of the beats of a channel.
use Rattle.std.specs.Prelude.{◌≡◌, min, List, length, unwrap_or}
use Rattle.tl_beats.specs.declared.Beat.{Beat}
use Rattle.tl_definitions.specs.Readings.{first_of}
use Rattle.tl_midway.specs.declared.seen.Seen.{Seen}

-- It tells the first of these beats, the newest first, and how many they are.
pub record Tells (seen : Seen) (before : List Beat) : Type 0 where
  pub first : (beat : Beat) → first_of beat before ≡ unwrap_or seen.first beat
  pub count : seen.count ≡ min (length before) 65535
