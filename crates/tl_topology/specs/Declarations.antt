-- What each declaration must keep after those before it, and the topology that declarations make.
use Rattle.std.specs.Prelude.{◌≡◌, ℕ, ◌&&◌, Bool, true, not, List, [], ◌∷◌, ◌++◌, length, is_some, unwrap_or, nat_lt, nat_le}
use Rattle.std.specs.List.{list_all}
use Rattle.tl_topology.specs.declared.LinkDecl.{LinkDecl}
use Rattle.tl_topology.specs.declared.reading.Version.{Version}
use Rattle.tl_topology.specs.declared.reading.ManagerLine.{ManagerLine}
use Rattle.tl_topology.specs.declared.reading.LinkLine.{LinkLine}
use Rattle.tl_topology.specs.declared.fault.TopoFault.{TopoFault}
use Rattle.tl_topology.specs.declared.fault.TopoFault.TheVariants as fault
use Rattle.tl_topology.specs.Topology.{Topology, is_named, exponent_of, is_width, is_size, may_be_strict}
use Rattle.tl_topology.specs.Reading.{manager_named}
use Rattle.tl_topology.specs.Text.{Declaration, Document, a_manager, a_link, topology_text, IsSpelled}

-- A rule: whether it is kept, and the fault of a line that breaks it, by the line's number.
abbrev pub Rule : Type 0
Rule = Bool × (ℕ → TopoFault)

-- a block in bytes: a power of two from 8 to 4,096
abbrev pub is_block : ℕ → Bool
is_block bytes = is_some (exponent_of bytes) && nat_le 8 bytes

-- the number of a link's manager and the exponent of its block
abbrev pub manager_of : Topology → LinkLine → ℕ × ℕ
manager_of topo link = unwrap_or (manager_named topo link.manager) (0, 0)

-- The rules of a manager after a topology, in the order in which their faults are named.
abbrev pub manager_rules : Topology → ManagerLine → List Rule
manager_rules topo manager =
    (not (is_named topo manager.name), λ line. fault.NameTwice line)
    ∷ (is_block manager.block, λ line. fault.BadBlock line)
    ∷ (nat_lt (length topo.managers) 64, λ line. fault.TooManyManagers line)
    ∷ []

-- Those of a link.
abbrev pub link_rules : Topology → LinkLine → List Rule
link_rules topo link =
    (not (is_named topo link.name), λ line. fault.NameTwice line)
    ∷ (is_some (manager_named topo link.manager), λ line. fault.NoManager line)
    ∷ (is_width link.width, λ line. fault.BadWidth line)
    ∷ (is_size link.level link.width (manager_of topo link).1 link.max_size, λ line. fault.BadSize line)
    ∷ (may_be_strict link.level link.strict, λ line. fault.StrictLevel line)
    ∷ (nat_lt (length topo.links) 256, λ line. fault.TooManyLinks line)
    ∷ []

unfoldable pub rules_of : Topology → Declaration → List Rule
rules_of topo (a_manager manager) = manager_rules topo manager
rules_of topo (a_link link) = link_rules topo link

-- A declaration is spelled in its version, and keeps every rule.
pub record IsLawful (version : Version) (topo : Topology) (declaration : Declaration) : Type 0 where
  pub spelled : IsSpelled version declaration
  pub kept : list_all (λ rule. rule.0) (rules_of topo declaration) ≡ true

-- ---- what declarations make

-- the link that a line declares, with the number of its manager
abbrev pub link_made : Topology → LinkLine → LinkDecl
link_made topo link = record { name = link.name; manager = (manager_of topo link).0; level = link.level; width = link.width; max_size = link.max_size; sources = link.sources; strict = link.strict }

-- the topology with one manager or link more, put last
unfoldable pub with_declaration : Topology → Declaration → Topology
with_declaration topo (a_manager manager) = record { managers = topo.managers ++ (manager.name, unwrap_or (exponent_of manager.block) 0) ∷ []; links = topo.links }
with_declaration topo (a_link link) = record { managers = topo.managers; links = topo.links ++ (link.name, link_made topo link) ∷ [] }

-- with all of them, one after the other
abbrev pub with_all : Topology → List Declaration → Topology
with_all topo [] = topo
with_all topo (declaration ∷ later) = with_all (with_declaration topo declaration) later

-- each is lawful after those before it
abbrev pub AreLawful : Version → Topology → List Declaration → Type 0
AreLawful version topo [] = Unit {0}
AreLawful version topo (declaration ∷ later) = IsLawful version topo declaration × AreLawful version (with_declaration topo declaration) later

-- nothing is declared
abbrev pub nothing : Topology
nothing = record { managers = []; links = [] }

-- Declarations from a topology's first line on.
abbrev pub IsDeclaredInOrder : Document → Type 0
IsDeclaredInOrder document = AreLawful document.version nothing document.declarations

-- Managers and links are each numbered from 0 in their order.
unfoldable pub topology_of : List Declaration → Topology
topology_of declarations = with_all nothing declarations

-- What reading a document gives: its topology, and the number of the bytes of its text.
abbrev pub reading_of : Document → Topology × ℕ
reading_of document = (topology_of document.declarations, length (topology_text document))
