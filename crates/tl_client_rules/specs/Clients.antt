-- The places of a manager's links among each other.
use Rattle.std.specs.Prelude.{ℕ, ◌==◌, List, Option}
use Rattle.std.specs.List.{position}
use Rattle.std.specs.List.Sorted.{IsStrictlySortedBy}
use Rattle.std.specs.Ordering.{nat_cmp}
use Rattle.tl_topology.specs.declared.LinkDecl.{LinkDecl}
use Rattle.tl_definitions.specs.Positions.{clients_of}

-- The place of a link among those with these numbers, if it is one of them.
abbrev pub place_of : ℕ → List ℕ → Option ℕ
place_of link numbers = position (λ number. number == link) numbers

-- The numbers of a manager's links rise.
abbrev pub ClientsRise : Type 0
ClientsRise = (manager : ℕ) (decls : List LinkDecl) → IsStrictlySortedBy nat_cmp (clients_of manager decls)
