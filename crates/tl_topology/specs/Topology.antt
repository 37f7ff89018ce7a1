-- A topology as plain data, and what may be declared after it.
use Rattle.std.specs.Prelude.{ℕ, ◌≡◌, ◌<◌, ◌≤◌, ◌^◌, ◌==◌, ◌&&◌, ◌||◌, not, Bool, true, List, [], ◌∷◌, length, map, Option, is_some, nat_le, position}
use Rattle.std.specs.List.{All}
use Rattle.std.specs.Str.{bytes_eq}
use Rattle.tl_text.specs.Names.{is_name}
use Rattle.tl_tables.specs.declared.Level.{Level}
use Rattle.tl_tables.specs.declared.Level.TheVariants as level
use Rattle.tl_topology.specs.declared.LinkDecl.{LinkDecl}

-- names with the exponents of the managers' blocks, and names with the links, each in declared order
pub record Topology : Type 0 where
  pub managers : List (List ℕ × ℕ)
  pub links : List (List ℕ × LinkDecl)

-- the place of a name among the declared ones
abbrev pub number_of_name : {X : Type 0} → List (List ℕ × X) → List ℕ → Option ℕ
number_of_name declared name = position (bytes_eq name) (map (λ p. p.0) declared)

-- links and managers share one space of names
abbrev pub is_named : Topology → List ℕ → Bool
is_named topo name = is_some (number_of_name topo.managers name) || is_some (number_of_name topo.links name)

abbrev pub powers_of_two : List ℕ
powers_of_two = 1 ∷ 2 ∷ 4 ∷ 8 ∷ 16 ∷ 32 ∷ 64 ∷ 128 ∷ 256 ∷ 512 ∷ 1024 ∷ 2048 ∷ 4096 ∷ []

-- the exponent of a power of two up to 4,096
unfoldable pub exponent_of : ℕ → Option ℕ
exponent_of bytes = position (λ power. power == bytes) powers_of_two

-- a width: a power of two from 1 to 64
abbrev pub is_width : ℕ → Bool
is_width bytes = is_some (exponent_of bytes) && nat_le bytes 64

-- messages of up to 2^size bytes fit the link: one beat on TL-UL, and at least a block on TL-C
abbrev pub is_size : Level → ℕ → ℕ → ℕ → Bool
is_size level.Ul width exponent size = nat_le size 15 && nat_le (2 ^ size) width
is_size level.Uh width exponent size = nat_le size 15
is_size level.C width exponent size = nat_le size 15 && nat_le exponent size

-- only a client of level TL-C can be strict
abbrev pub may_be_strict : Level → Bool → Bool
may_be_strict level.C strict = true
may_be_strict _ strict = not strict

-- what a link keeps that a topology declares
pub record IsSound (link : LinkDecl) : Type 0 where
  pub some_lane : 1 ≤ link.width
  pub lanes : link.width ≤ 64
  pub size : link.max_size ≤ 15
  pub some_source : 1 ≤ link.sources
  pub sources : link.sources ≤ 65536

-- Each link has a name.
abbrev pub AreNamed : Topology → Type 0
AreNamed topo = All (λ p. is_name p.1.name ≡ true) topo.links

-- what each topology keeps
pub record IsTopology (topo : Topology) : Type 0 where
  pub managers : length topo.managers ≤ 64
  pub links : length topo.links ≤ 256
  pub sound : All (λ p. IsSound p.1) topo.links
  pub managed : All (λ p. p.1.manager < length topo.managers) topo.links
  pub named : AreNamed topo
