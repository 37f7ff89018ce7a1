-- The exit status of a run.
use Rattle.std.specs.Prelude.{ℕ, ◌==◌, if◌then◌else◌}
use Rattle.std.specs.Option.{option_map_or}
use Rattle.tl_script.specs.declared.stop.Outcome.{Outcome}

-- 2 where the run stops, whatever its last report has; else 0 where that has no rows or there is none, and 1 where it has some
abbrev pub status_of : Outcome → ℕ
status_of outcome = option_map_or (λ stop. 2) outcome.stop (if outcome.last_rows == 0 then 0 else 1)
