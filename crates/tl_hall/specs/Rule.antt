-- The rule of a hall's table, and what each step tells. Word 0 is the number of entries of the history, word 1 is the turn, and slot 0 has the
-- desk.
use Rattle.std.specs.Prelude.{◌≡◌, ◌≢◌, ℕ, ◌+◌, ◌*◌, ◌<◌, true, false, cond, nat_le, List, [], ◌∷◌, ◌++◌, length, Option, Some}
use mathlib.Core.Option.{some}
use mathlib.Core.List.{IsPrefix}
use lib.ListN.{get_elem?}
use Rattle.atomic_table.specs.Table.{State, Me, Step}
use Rattle.tl_topology.specs.Topology.{Topology}
use Rattle.tl_desk.specs.Core.{Core}
use Rattle.tl_desk.specs.declared.call.Call.{Call}
use Rattle.tl_hall.specs.declared.entry.Entry.{Entry}
use Rattle.tl_hall.specs.declared.entry.View.{View}
use Rattle.tl_hall.specs.History.{entry, own, OnlyWork, Leads}

-- the first pass of a hall, which is the only one
abbrev pub newcomer : Topology → View
newcomer topo = record { topo = topo; number = 0; stride = 1; seen = []; met = []; turn = false; helps = false; sole = true; spent = false }

-- The pass has this number, or may give it to a new one.
abbrev pub Owns : View → ℕ → Type 0
Owns v n = (k : ℕ) × (n ≡ v.number + k * v.stride)

-- The numbers that the pass has not given yet have no entry.
abbrev pub IsUnmade : View → List Entry → Type 0
IsUnmade v log = (k : ℕ) → own (v.number + (k + 1) * v.stride) log ≡ []

-- What the rule says of the pass at a seat: what it has seen is a beginning of the history, which has no other entry of it; where it holds the
-- turn, it has seen the whole; and where all others help, only workers' calls came after what it has seen.
pub record Fits (topo : Topology) (log : List Entry) (turn holder by : ℕ) (v : View) : Type 0 where
  pub topo_is : v.topo ≡ topo
  pub strides : 0 < v.stride
  pub saw : IsPrefix v.seen log
  pub heard : IsPrefix v.met log
  pub own_is : own v.number log ≡ own v.number v.seen
  pub unmade : IsUnmade v log
  pub turn_is : v.turn ≡ true → (turn ≡ 1) × (by ≡ holder) × (v.seen ≡ log)
  pub others : v.sole ≡ true → OnlyWork v.seen log

-- There is one history. While the turn is free, it leads to the desk in the slot. Each pass fits, no number is of two passes, and beside a sole
-- pass all others help.
pub record Kept (topo : Topology) (s : State (Option Core) View) : Type 0 where
  pub log : List Entry
  pub turn : ℕ
  pub holder : ℕ
  pub words : s.words ≡ length log ∷ turn ∷ []
  pub free : turn ≡ 0 → (c : Core) × (get_elem? s.homes 0 ≡ some (some (Some c))) × Leads topo log c
  pub each : (by : ℕ) (v : View) → get_elem? s.views by ≡ some v → v.spent ≡ false → Fits topo log turn holder by v
  pub apart : (i j : ℕ) (v w : View) → get_elem? s.views i ≡ some v → get_elem? s.views j ≡ some w → v.spent ≡ false → w.spent ≡ false → i ≢ j → (n : ℕ) → Owns v n → Owns w n → ⊥
  pub lone : (i j : ℕ) (v w : View) → get_elem? s.views i ≡ some v → get_elem? s.views j ≡ some w → v.spent ≡ false → w.spent ≡ false → i ≢ j → v.sole ≡ true → w.helps ≡ true

-- a seat: its view, and the slots that it holds
abbrev pub Sat : Type 0
Sat = Me (Option Core) View

abbrev pub At : Type 0
At = Step (Option Core)

-- The turn is taken with the slot, whose desk the history leads to. All of the history is seen.
pub record Entered (m m' : Sat) : Type 0 where
  pub log : List Entry
  pub core : Core
  pub now : m' ≡ (record m.0 { seen = log; turn = true }, (0, Some core) ∷ m.1)
  pub leads : Leads m.0.topo log core
  pub saw : IsPrefix m.0.seen log
  pub own_is : own m.0.number log ≡ own m.0.number m.0.seen
  pub unmade : IsUnmade m.0 log
  pub others : m.0.sole ≡ true → OnlyWork m.0.seen log

abbrev pub entered : At → Sat → ℕ → Sat → Type 0
entered st m n m' = (n ≡ 0 → Entered m m') × (n ≢ 0 → m' ≡ m)

-- The history has one entry more, and that is seen.
abbrev pub recorded : Call → At → Sat → ℕ → Sat → Type 0
recorded made st m n m' = m' ≡ (record m.0 { seen = m.0.seen ++ entry m.0.number made ∷ [] }, m.1)

abbrev pub stayed : At → Sat → ℕ → Sat → Type 0
stayed st m n m' = m' ≡ m

-- The turn is given up, and the slot given back.
abbrev pub left : At → Sat → ℕ → Sat → Type 0
left st m n m' = m' ≡ (record m.0 { turn = false }, [])

-- Each second number that a pass may give goes to the new one, which has seen the same and may make the same calls.
abbrev pub elder : View → View
elder v = record v { stride = 2 * v.stride; sole = false }

abbrev pub younger : View → View
younger v = record { topo = v.topo; number = v.number + v.stride; stride = 2 * v.stride; seen = v.seen; met = []; turn = false; helps = v.helps; sole = false; spent = false }

-- The same where the new one only helps.
abbrev pub helped : View → View
helped v = record v { stride = 2 * v.stride }

abbrev pub helper : View → View
helper v = record (younger v) { helps = true }

-- Both lists are kept, and the other pass is spent, whatever it was.
abbrev pub both : View → View → View
both v w = record v { met = w.seen }

abbrev pub nobody : View
nobody = record { topo = record { managers = []; links = [] }; number = 0; stride = 1; seen = []; met = []; turn = false; helps = true; sole = false; spent = true }

abbrev pub longer : List Entry → List Entry → List Entry
longer xs ys = cond (nat_le (length xs) (length ys)) ys xs

-- The longer of the two lists is what is seen, and both are beginnings of it.
pub record Learned (m m' : Sat) : Type 0 where
  pub now : m' ≡ (record m.0 { seen = longer m.0.seen m.0.met; met = [] }, m.1)
  pub one : IsPrefix m.0.seen (longer m.0.seen m.0.met)
  pub other : IsPrefix m.0.met (longer m.0.seen m.0.met)
  pub own_is : own m.0.number (longer m.0.seen m.0.met) ≡ own m.0.number m.0.seen
  pub unmade : IsUnmade m.0 (longer m.0.seen m.0.met)
  pub others : m.0.sole ≡ true → OnlyWork m.0.seen (longer m.0.seen m.0.met)

abbrev pub learned : At → Sat → ℕ → Sat → Type 0
learned st m n m' = Learned m m'
