-- What a topology's text says: its version, and its declarations in their order; and the one spelling of both.
use Rattle.std.specs.Prelude.{◌≡◌, ℕ, ◌≤◌, Bool, true, not, if◌then◌else◌, List, [], ◌∷◌, ◌++◌, map, codes}
use Rattle.std.specs.List.{flat_map}
use Rattle.tl_text.specs.Numbers.{numeral}
use Rattle.tl_text.specs.Names.{is_name}
use Rattle.tl_text.specs.Words.{◌␣◌, ended}
use Rattle.tl_tables.specs.declared.Level.{Level}
use Rattle.tl_tables.specs.declared.Level.TheVariants as level
use Rattle.tl_topology.specs.declared.reading.Version.{Version}
use Rattle.tl_topology.specs.declared.reading.Version.TheVariants as version
use Rattle.tl_topology.specs.declared.reading.ManagerLine.{ManagerLine}
use Rattle.tl_topology.specs.declared.reading.LinkLine.{LinkLine}

pub data Declaration : Type 0 where
  a_manager : ManagerLine → Declaration
  a_link : LinkLine → Declaration

-- A topology without strict links has a document, and so a text, of each version.
pub record Document : Type 0 where
  pub version : Version
  pub declarations : List Declaration

abbrev pub version_text : Version → List ℕ
version_text version.One = codes "topo 1"
version_text version.Two = codes "topo 2"

abbrev pub level_text : Level → List ℕ
level_text level.Ul = codes "ul"
level_text level.Uh = codes "uh"
level_text level.C = codes "c"

-- name, and block in bytes
abbrev pub manager_text : ManagerLine → List ℕ
manager_text manager = manager.name ␣ numeral 10 manager.block

-- number of sources, and a last word of a strict link
abbrev pub sources_text : ℕ → Bool → List ℕ
sources_text sources strict = if strict then numeral 10 sources ␣ codes "strict" else numeral 10 sources

-- name, manager, level, width in bytes, exponent of the largest size, and number of sources
abbrev pub link_text : LinkLine → List ℕ
link_text link = link.name ␣ link.manager ␣ level_text link.level ␣ numeral 10 link.width ␣ numeral 10 link.max_size ␣ sources_text link.sources link.strict

unfoldable pub declaration_text : Declaration → List ℕ
declaration_text (a_manager manager) = codes "manager" ␣ manager_text manager
declaration_text (a_link link) = codes "link" ␣ link_text link

abbrev pub topology_lines : Document → List (List ℕ)
topology_lines document = version_text document.version ∷ (map declaration_text document.declarations ++ codes "end" ∷ [])

unfoldable pub topology_text : Document → List ℕ
topology_text document = flat_map ended (topology_lines document)

-- ---- what has a spelling

pub record IsManagerLine (manager : ManagerLine) : Type 0 where
  pub name : is_name manager.name ≡ true
  pub block : manager.block ≤ 65536

-- Version 1 has no strict links.
abbrev pub has_strict : Version → Bool → Bool
has_strict version.One strict = not strict
has_strict version.Two strict = true

pub record IsLinkLine (version : Version) (link : LinkLine) : Type 0 where
  pub name : is_name link.name ≡ true
  pub manager : is_name link.manager ≡ true
  pub width : link.width ≤ 65536
  pub max_size : link.max_size ≤ 65536
  pub some_source : 1 ≤ link.sources
  pub sources : link.sources ≤ 65536
  pub strict : has_strict version link.strict ≡ true

-- Names are names, no number is above 65,536, there is a source, and a strict link is of version 2.
abbrev pub IsSpelled : Version → Declaration → Type 0
IsSpelled version (a_manager manager) = IsManagerLine manager
IsSpelled version (a_link link) = IsLinkLine version link
