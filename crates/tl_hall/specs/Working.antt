-- What a worker makes of its pass, and what it counts.
use Rattle.std.specs.Prelude.{◌≡◌, ◌≤◌, ℕ, ◌+◌, min, true, false, List, [], ◌∷◌, ◌++◌, map, Option, Some, None}
use Rattle.std.specs.Option.{option_map_or}
use mathlib.Core.List.{IsPrefix}
use Rattle.tl_desk.specs.declared.piece.Piece.{Piece}
use Rattle.tl_desk.specs.declared.call.Call.{Call}
use Rattle.tl_desk.specs.declared.call.Call.TheVariants as call
use Rattle.tl_desk.specs.declared.call.Start.{Start}
use Rattle.tl_desk.specs.declared.call.Outcome.{Outcome}
use Rattle.tl_hall.specs.declared.entry.Entry.{Entry}
use Rattle.tl_hall.specs.declared.working.Round.{Round}
use Rattle.tl_hall.specs.declared.working.Round.TheVariants as round
use Rattle.tl_hall.specs.declared.working.WorkCount.{WorkCount}
use Rattle.tl_hall.specs.History.{entry, own, AreOfWorker, OnlyWork}
use Rattle.tl_hall.specs.Passes.{PassData, Looked, HasNone, IsUntaken, IsSame}

-- 1 for a window that went out
abbrev pub one_take : Call → ℕ
one_take (call.Take ticket piece from) = 1
one_take _ = 0

-- 1 for one that was handed in and taken
abbrev pub one_taken : Call → ℕ
one_taken (call.HandIn ticket piece found true) = 1
one_taken _ = 0

-- 1 for one that was handed in and void
abbrev pub one_void : Call → ℕ
one_void (call.HandIn ticket piece found false) = 1
one_void _ = 0

-- 1 for one that was abandoned
abbrev pub one_abandon : Call → ℕ
one_abandon (call.Abandon ticket piece) = 1
one_abandon _ = 0

-- how many of these calls there are
abbrev pub total : (Call → ℕ) → List Entry → ℕ
total one [] = 0
total one (e ∷ es) = one e.call + total one es

-- a count after so many more: it stays at the greatest 64-bit number
abbrev pub counted : ℕ → ℕ → ℕ
counted count more = min (count + more) 18446744073709551615

abbrev pub nothing_done : WorkCount
nothing_done = record { taken = 0; void = 0; abandoned = 0 }

-- The pass has seen more, and of its own entries there are some more, all of them a worker's. Each job that was held before, or taken, was
-- handed in once, with the answer that is counted, or lost, which is counted as abandoned. All that were abandoned are among the lost ones.
pub record Worked (held : ℕ) (p : PassData) (before : WorkCount) (q : PassData) (after : WorkCount) : Type 0 where
  pub same : IsSame p q
  pub saw : IsPrefix p.seen q.seen
  pub added : List Entry
  pub own_is : own p.number q.seen ≡ own p.number p.seen ++ added
  pub only : AreOfWorker added
  pub lost : ℕ
  pub jobs : held + total one_take added ≡ total one_taken added + total one_void added + lost
  pub among : total one_abandon added ≤ lost
  pub taken : after.taken ≡ counted before.taken (total one_taken added)
  pub void : after.void ≡ counted before.void (total one_void added)
  pub abandoned : after.abandoned ≡ counted before.abandoned lost
  pub others : p.sole ≡ true → OnlyWork p.seen q.seen

-- ---- one round

-- the window that went out, if one did
abbrev pub window_in : Round → Option Piece
window_in round.NoWindow = None
window_in (round.Refused fault) = None
window_in (round.Taken window) = Some window
window_in (round.Void window) = Some window
window_in (round.Strange window) = Some window
window_in (round.Abandoned window) = Some window
window_in (round.Lost window) = Some window

-- the call by which its job came back, with what it came to, if the hall knows it
abbrev pub back_in : ℕ → Outcome → Round → List Call
back_in ticket found round.NoWindow = []
back_in ticket found (round.Refused fault) = []
back_in ticket found (round.Taken window) = call.HandIn ticket window found true ∷ []
back_in ticket found (round.Void window) = call.HandIn ticket window found false ∷ []
back_in ticket found (round.Strange window) = []
back_in ticket found (round.Abandoned window) = call.Abandon ticket window ∷ []
back_in ticket found (round.Lost window) = []

-- all calls of a round that made an entry
abbrev pub calls_in : ℕ → Start → Outcome → Round → List Call
calls_in ticket from found came = option_map_or (λ window. call.Take ticket window from ∷ back_in ticket found came) (window_in came) []

-- Why no window went out: there was none, or the take was refused.
abbrev pub IsIdle : PassData → Round → PassData → Type 0
IsIdle p round.NoWindow q = Looked p HasNone q
IsIdle p (round.Refused fault) q = Looked p (IsUntaken fault) q
IsIdle p (round.Taken window) q = Unit {0}
IsIdle p (round.Void window) q = Unit {0}
IsIdle p (round.Strange window) q = Unit {0}
IsIdle p (round.Abandoned window) q = Unit {0}
IsIdle p (round.Lost window) q = Unit {0}

-- A job of this ticket and window came back, or was forfeited: the pass has seen more, and its own entries are those that it had and that call.
pub record CameBack (ticket : ℕ) (window : Piece) (p : PassData) (came : Round) (q : PassData) : Type 0 where
  pub same : IsSame p q
  pub saw : IsPrefix p.seen q.seen
  pub is : window_in came ≡ Some window
  pub found : Outcome
  pub own_is : own p.number q.seen ≡ own p.number p.seen ++ map (entry p.number) (back_in ticket found came)
  pub others : p.sole ≡ true → OnlyWork p.seen q.seen

-- One round: the pass has seen more, and its own entries are those that it had and the calls of the round, under one ticket. Where no window
-- went out, it is true why.
pub record WorkedOnce (p : PassData) (came : Round) (q : PassData) : Type 0 where
  pub same : IsSame p q
  pub saw : IsPrefix p.seen q.seen
  pub ticket : ℕ
  pub from : Start
  pub found : Outcome
  pub own_is : own p.number q.seen ≡ own p.number p.seen ++ map (entry p.number) (calls_in ticket from found came)
  pub others : p.sole ≡ true → OnlyWork p.seen q.seen
  pub idle : IsIdle p came q

-- what a worker counts of a round
abbrev pub counted_with : Round → WorkCount → WorkCount
counted_with round.NoWindow n = n
counted_with (round.Refused fault) n = n
counted_with (round.Taken window) n = record n { taken = counted n.taken 1 }
counted_with (round.Void window) n = record n { void = counted n.void 1 }
counted_with (round.Strange window) n = record n { abandoned = counted n.abandoned 1 }
counted_with (round.Abandoned window) n = record n { abandoned = counted n.abandoned 1 }
counted_with (round.Lost window) n = record n { abandoned = counted n.abandoned 1 }
