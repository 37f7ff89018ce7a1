-- Reading a topology from its first line on, up to the first fault.
use Rattle.std.specs.Prelude.{ℕ, ◌+◌, ◌==◌, not, Bool, true, false, List, [], ◌∷◌, ◌++◌, length, codes, Option, Some, None, Result, Ok, Err, nat_lt, nat_le, if◌then◌else◌, slice_get}
use Rattle.std.specs.Option.{option_map_or}
use Rattle.std.specs.Str.{bytes_eq}
use Rattle.tl_text.specs.Words.{◌>>=◌, word_at}
use Rattle.tl_text.specs.Numbers.{number_at}
use Rattle.tl_text.specs.Readings.{◌>>>◌, or_fault}
use Rattle.tl_tables.specs.declared.Level.{Level}
use Rattle.tl_tables.specs.declared.Level.TheVariants as level
use Rattle.tl_topology.specs.declared.LinkDecl.{LinkDecl}
use Rattle.tl_topology.specs.declared.reading.Version.{Version}
use Rattle.tl_topology.specs.declared.reading.Version.TheVariants as version
use Rattle.tl_topology.specs.declared.reading.ManagerLine.{ManagerLine}
use Rattle.tl_topology.specs.declared.reading.LinkLine.{LinkLine}
use Rattle.tl_topology.specs.declared.fault.TopoFault.{TopoFault}
use Rattle.tl_topology.specs.declared.fault.TopoFault.TheVariants as fault
use Rattle.tl_text.specs.Naming.{name_at}
use Rattle.tl_topology.specs.Topology.{Topology, number_of_name, is_named, exponent_of, is_width, is_size, may_be_strict}

-- ---- the spelling of one line

-- the version that a first line names
unfoldable pub version_at : List ℕ → Option Version
version_at line = if bytes_eq line (codes "topo 1") then Some version.One else (if bytes_eq line (codes "topo 2") then Some version.Two else None)

unfoldable pub level_at : List ℕ → Option Level
level_at word = if bytes_eq word (codes "ul") then Some level.Ul else (if bytes_eq word (codes "uh") then Some level.Uh else (if bytes_eq word (codes "c") then Some level.C else None))

-- what stands after the word `manager`: its name and its block in bytes
unfoldable pub manager_at : List ℕ → Option ManagerLine
manager_at words = do
  name ← word_at words
  n ← name_at name.0
  block ← number_at 10 65536 name.1
  Some (record { name = n; block = block })

-- width and size of a link, and what stands after them
unfoldable pub sizes_at : List ℕ → Option (ℕ × ℕ × List ℕ)
sizes_at words = do
  width ← word_at words
  w ← number_at 10 65536 width.0
  size ← word_at width.1
  s ← number_at 10 65536 size.0
  Some (w, s, size.1)

-- the words without a last word `strict`, and whether it stands there, which it may in version 2 alone
unfoldable pub mark_at : Version → List ℕ → List ℕ × Bool
mark_at version.One words = (words, false)
mark_at version.Two words = option_map_or (λ parts. if bytes_eq parts.1 (codes "strict") then (parts.0, true) else (words, false)) (word_at words) (words, false)

-- the number of sources, which is at least one, and whether the link is strict
unfoldable pub sources_at : Version → List ℕ → Option (ℕ × Bool)
sources_at version words = number_at 10 65536 (mark_at version words).0 >>= λ sources.
    if sources == 0 then None else Some (sources, (mark_at version words).1)

-- what stands after the word `link`
unfoldable pub link_at : Version → List ℕ → Option LinkLine
link_at version words = do
  name ← word_at words
  n ← name_at name.0
  manager ← word_at name.1
  m ← name_at manager.0
  spoken ← word_at manager.1
  l ← level_at spoken.0
  sizes ← sizes_at spoken.1
  sources ← sources_at version sizes.2
  Some (record { name = n; manager = m; level = l; width = sizes.0; max_size = sizes.1; sources = sources.0; strict = sources.1 })

-- ---- the meaning of one line, number n, after those before it

unfoldable pub with_manager : Topology → ManagerLine → ℕ → Result Topology TopoFault
with_manager topo manager n =
    if is_named topo manager.name then Err (fault.NameTwice n)
    else (or_fault (exponent_of manager.block) (fault.BadBlock n) >>> λ exponent.
    if nat_lt exponent 3 then Err (fault.BadBlock n)
    else if nat_le 64 (length topo.managers) then Err (fault.TooManyManagers n)
    else Ok (record { managers = topo.managers ++ (manager.name, exponent) ∷ []; links = topo.links }))

-- the limits of a link fit it and its manager's block
unfoldable pub fitted : LinkLine → ℕ → ℕ → ℕ → Result LinkDecl TopoFault
fitted link manager exponent n =
    if not (is_width link.width) then Err (fault.BadWidth n)
    else if not (is_size link.level link.width exponent link.max_size) then Err (fault.BadSize n)
    else if not (may_be_strict link.level link.strict) then Err (fault.StrictLevel n)
    else Ok (record { name = link.name; manager = manager; level = link.level; width = link.width; max_size = link.max_size; sources = link.sources; strict = link.strict })

-- the manager's number and the exponent of its block
unfoldable pub manager_named : Topology → List ℕ → Option (ℕ × ℕ)
manager_named topo name = number_of_name topo.managers name >>= λ number. slice_get topo.managers number >>= λ manager. Some (number, manager.1)

unfoldable pub with_link : Topology → LinkLine → ℕ → Result Topology TopoFault
with_link topo link n =
    if is_named topo link.name then Err (fault.NameTwice n)
    else (or_fault (manager_named topo link.manager) (fault.NoManager n) >>> λ manager.
    fitted link manager.0 manager.1 n >>> λ decl.
    if nat_le 256 (length topo.links) then Err (fault.TooManyLinks n)
    else Ok (record { managers = topo.managers; links = topo.links ++ (link.name, decl) ∷ [] }))

-- a line that declares a manager or a link
unfoldable pub declared : Version → Topology → List ℕ → ℕ → Result Topology TopoFault
declared version topo line n = or_fault (word_at line) (fault.BadLine n) >>> λ kind.
    if bytes_eq kind.0 (codes "manager") then (or_fault (manager_at kind.1) (fault.BadLine n) >>> λ manager. with_manager topo manager n)
    else if bytes_eq kind.0 (codes "link") then (or_fault (link_at version kind.1) (fault.BadLine n) >>> λ link. with_link topo link n)
    else Err (fault.BadLine n)

-- ---- lines

-- the declarations from line n on, and the lines after the end
unfoldable pub topology_from : Version → Topology → ℕ → List (List ℕ) → Result (Topology × List (List ℕ)) TopoFault
topology_from version topo n [] = Err (fault.BadLine n)
topology_from version topo n (line ∷ []) = Err (fault.BadLine n)
topology_from version topo n (line ∷ next ∷ lines) = if bytes_eq line (codes "end") then Ok (topo, next ∷ lines)
    else (declared version topo line n >>> λ more. topology_from version more (n + 1) (next ∷ lines))

-- a topology, and the lines after it
unfoldable pub topology_in : List (List ℕ) → Result (Topology × List (List ℕ)) TopoFault
topology_in [] = Err (fault.BadLine 1)
topology_in (line ∷ []) = Err (fault.BadLine 1)
topology_in (line ∷ next ∷ lines) = or_fault (version_at line) (fault.BadLine 1) >>> λ version. topology_from version (record { managers = []; links = [] }) 2 (next ∷ lines)
