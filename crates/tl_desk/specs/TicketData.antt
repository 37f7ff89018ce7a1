-- The tickets that are out, as plain data.
use Rattle.std.specs.Prelude.{ℕ, ◌≡◌, ◌≤◌, List, Option, Some}
use Rattle.std.specs.Ordering.{nat_cmp}
use Rattle.std.specs.BTreeMap.{is_at}
use Rattle.std.specs.List.Sorted.{IsStrictlySortedBy}
use Rattle.std.specs.Map.{keys_of, lookup}
use Rattle.tl_desk.specs.declared.piece.Piece.{Piece}
use Rattle.tl_desk.specs.declared.tickets.Taken.{Taken}

-- Each ticket that is out with what it was given for, by number, and the last that was given.
pub record TicketsData : Type 0 where
  pub out : List (ℕ × Taken)
  pub last : ℕ

-- the number of the last ticket that is ever given
abbrev pub most_tickets : ℕ
most_tickets = 4611686018427387904

-- what a ticket that is out was given for
abbrev pub taken_at : ℕ → List (ℕ × Taken) → Option Taken
taken_at ticket out = lookup (is_at (nat_cmp ticket)) out

-- The ticket is out for the window.
abbrev pub IsOutFor : ℕ → Piece → List (ℕ × Taken) → Type 0
IsOutFor ticket piece out = (taken : Taken) × (taken_at ticket out ≡ Some taken) × (taken.piece ≡ piece)

-- Those that are out were given, and stand in order.
pub record AreTickets (tickets : TicketsData) : Type 0 where
  pub order : IsStrictlySortedBy nat_cmp (keys_of tickets.out)
  pub given : (ticket : ℕ) (taken : Taken) → taken_at ticket tickets.out ≡ Some taken → ticket ≤ tickets.last
  pub few : tickets.last ≤ most_tickets
