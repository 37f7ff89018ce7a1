-- The history of a hall: the calls that changed its desk, the oldest first, each with the number of the pass that made it.
use Rattle.std.specs.Prelude.{◌≡◌, ◌==◌, ℕ, cond, List, [], ◌∷◌, ◌++◌, map}
use Rattle.tl_topology.specs.Topology.{Topology}
use Rattle.tl_desk.specs.Core.{Core, IsNew, IsDesk}
use Rattle.tl_desk.specs.Steps.{Step}
use Rattle.tl_desk.specs.declared.call.Call.{Call}
use Rattle.tl_desk.specs.declared.call.Call.TheVariants as call
use Rattle.tl_hall.specs.declared.entry.Entry.{Entry}

abbrev pub entry : ℕ → Call → Entry
entry by made = record { by = by; call = made }

abbrev pub call_of : Entry → Call
call_of e = e.call

-- A worker takes, hands in and abandons, and makes no other call.
abbrev pub IsOfWorker : Call → Type 0
IsOfWorker (call.Take ticket piece from) = Unit {0}
IsOfWorker (call.HandIn ticket piece found taken) = Unit {0}
IsOfWorker (call.Abandon ticket piece) = Unit {0}
IsOfWorker (call.Edit change number) = ⊥
IsOfWorker (call.Attach monitor w number) = ⊥
IsOfWorker (call.Recheck count) = ⊥
IsOfWorker (call.Publish version) = ⊥
IsOfWorker (call.Recall ticket) = ⊥

abbrev pub AreOfWorker : List Entry → Type 0
AreOfWorker [] = Unit {0}
AreOfWorker (e ∷ es) = IsOfWorker e.call × AreOfWorker es

-- The history begins with what was seen, and all entries after that are workers'.
abbrev pub OnlyWork : List Entry → List Entry → Type 0
OnlyWork seen log = (added : List Entry) × (seen ++ added ≡ log) × AreOfWorker added

-- the entries of the pass of this number
abbrev pub own : ℕ → List Entry → List Entry
own by [] = []
own by (e ∷ es) = cond (e.by == by) (e ∷ own by es) (own by es)

-- A hall makes each call but a recheck.
abbrev pub IsOfHall : Call → Type 0
IsOfHall (call.Edit change number) = Unit {0}
IsOfHall (call.Attach monitor w number) = Unit {0}
IsOfHall (call.Recheck count) = ⊥
IsOfHall (call.Publish version) = Unit {0}
IsOfHall (call.Take ticket piece from) = Unit {0}
IsOfHall (call.HandIn ticket piece found taken) = Unit {0}
IsOfHall (call.Abandon ticket piece) = Unit {0}
IsOfHall (call.Recall ticket) = Unit {0}

-- The calls, one after the other, lead from one desk to another: each core on the way is one that a desk has.
abbrev pub Runs : Core → List Call → Core → Type 0
Runs old [] new = IsDesk old × (old ≡ new)
Runs old (made ∷ later) new = IsDesk old × IsOfHall made × (mid : Core) × Step old made mid × Runs mid later new

-- The history leads from a new desk of the topology to this one.
abbrev pub Leads : Topology → List Entry → Core → Type 0
Leads topo log core = (start : Core) × IsNew topo start × Runs start (map call_of log) core
