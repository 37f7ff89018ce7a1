use Rattle.std.proofs.Common.{◌≡◌, ◌++◌, ℕ, List, map, take}
use Rattle.std.specs.Prelude.{filter}
use Rattle.tl_beats.specs.declared.Placed.{Placed}
use Rattle.tl_rows.specs.States.{StandsFor, manager_with}
use Rattle.tl_rows.specs.Telling.{is_of, told_of}
use Rattle.tl_rows.proofs.telling.tell_beat.Given as goal

-- those of the rows so far are told
abbrev pub invariant-loop-row : goal.invariant-loop-row
invariant-loop-row l = (exponent : ℕ) (before : List Placed) → StandsFor (manager_with l.topo exponent l.clients) l.state before
    → l.told.items ≡ l.fn.told.items ++ map (told_of (manager_with l.topo exponent l.clients) before l.place) (filter (is_of l.place) (take l.row-index l.rows))
