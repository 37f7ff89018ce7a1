-- Captures written out, and lines of reports, as a reader would write them.
use Rattle.std.specs.Prelude.{ℕ, ◌+◌, Bool, true, false, List, [], ◌∷◌, ◌++◌, map, zero, suc}
use Rattle.tl_tables.specs.declared.Chan.{Chan}
use Rattle.tl_tables.specs.declared.Chan.TheVariants as chan
use Rattle.tl_tables.specs.declared.Level.TheVariants as level
use Rattle.tl_tables.specs.declared.Rule.{Rule}
use Rattle.tl_topology.specs.declared.LinkDecl.{LinkDecl}
use Rattle.tl_topology.specs.Regions.{Area}
use Rattle.tl_beats.specs.declared.Beat.{Beat}
use Rattle.tl_beats.specs.declared.Placed.{Placed}
use Rattle.tl_beats.specs.declared.Row.{Row}
use Rattle.tl_definitions.specs.Positions.{placed_beats, in_order, links_of, clients_of}
use Rattle.tl_definitions.specs.Rules.{Manager}
use Rattle.tl_definitions.specs.Report.{of_manager, report_of}

-- A beat of which all other fields are 0.
abbrev pub blank : ℕ → Chan → Beat
blank cycle channel = record {
  cycle = cycle;
  chan = channel;
  opcode = 0;
  param = 0;
  size = 0;
  source = 0;
  sink = 0;
  address = 0;
  mask = 0;
  denied = false;
  corrupt = false;
}

-- Beats in the words of a fragment's text, without the bit corrupt, which is low.
abbrev pub a : ℕ → ℕ → ℕ → ℕ → ℕ → ℕ → ℕ → Beat
a cycle opcode param size source address mask =
    record (blank cycle chan.A) { opcode = opcode; param = param; size = size; source = source; address = address; mask = mask }

abbrev pub b : ℕ → ℕ → ℕ → ℕ → ℕ → ℕ → ℕ → Beat
b cycle opcode param size source address mask =
    record (blank cycle chan.B) { opcode = opcode; param = param; size = size; source = source; address = address; mask = mask }

abbrev pub c : ℕ → ℕ → ℕ → ℕ → ℕ → ℕ → Beat
c cycle opcode param size source address =
    record (blank cycle chan.C) { opcode = opcode; param = param; size = size; source = source; address = address }

abbrev pub d : ℕ → ℕ → ℕ → ℕ → ℕ → ℕ → Bool → Beat
d cycle opcode param size source sink denied =
    record (blank cycle chan.D) { opcode = opcode; param = param; size = size; source = source; sink = sink; denied = denied }

abbrev pub e : ℕ → ℕ → Beat
e cycle sink = record (blank cycle chan.E) { sink = sink }

abbrev pub corrupt : Beat → Beat
corrupt beat = record beat { corrupt = true }

-- A burst of n beats from a cycle on.
abbrev pub burst : ℕ → ℕ → (ℕ → Beat) → List Beat
burst zero cycle beat = []
burst (suc n) cycle beat = beat cycle ∷ burst n (cycle + 1) beat

abbrev pub fragment : ℕ → ℕ → List Beat → List Placed
fragment link number beats = placed_beats (record { link = link; number = number; first = 0; last = 99999; beats = beats })

-- One manager of 64-byte blocks without regions, with two links of level TL-C, numbers 0 and 1, one of TL-UL, number 2, and
-- a narrow one of TL-UH, number 3.
abbrev pub cached : LinkDecl
cached = record { name = []; manager = 0; level = level.C; width = 8; max_size = 7; sources = 4; strict = false }

abbrev pub uncached : LinkDecl
uncached = record { name = []; manager = 0; level = level.Ul; width = 8; max_size = 3; sources = 2; strict = false }

abbrev pub narrow : LinkDecl
narrow = record { name = []; manager = 0; level = level.Uh; width = 4; max_size = 6; sources = 2; strict = false }

abbrev pub decls : List LinkDecl
decls = cached ∷ cached ∷ uncached ∷ narrow ∷ []

-- The same, but that link 0 is strict.
abbrev pub strict_decls : List LinkDecl
strict_decls = record cached { strict = true } ∷ cached ∷ uncached ∷ narrow ∷ []

abbrev pub managing : List LinkDecl → List Area → Manager
managing links regions = record { links = links_of links; clients = clients_of 0 links; exponent = 6; regions = regions }

abbrev pub with_regions : List Area → Manager
with_regions regions = managing decls regions

-- From 0 to 1fff for get, from 8000 to 8fff for put.
abbrev pub gets : Area
gets = record { first = 0; last = 0x1fff; permits = record { get = true; put = false; atomic = false; hint = false; cache = false } }

abbrev pub puts : Area
puts = record { first = 0x8000; last = 0x8fff; permits = record { get = false; put = true; atomic = false; hint = false; cache = false } }

-- From 0 to 1fff for one kind of access alone, or for several: get, put, atomic, hint, cache.
abbrev pub only : Bool → Bool → Bool → Bool → Bool → Area
only get put atomic hint cache = record { first = 0; last = 0x1fff; permits = record { get = get; put = put; atomic = atomic; hint = hint; cache = cache } }

-- Each message of channel A, four on each of two links: Get, both Puts, Arithmetic; Logical, Intent, both Acquires.
abbrev pub each_kind : List Placed
each_kind =
    fragment 0 1 (a 10 4 0 3 0 0x1000 0xff ∷ a 11 0 0 3 1 0x1000 0xff ∷ a 12 1 0 3 2 0x1000 0xff ∷ a 13 2 0 3 3 0x1000 0xff ∷ [])
    ++ fragment 1 1 (a 10 3 0 3 0 0x1000 0xff ∷ a 11 5 0 3 1 0x1000 0xff ∷ a 12 6 0 6 2 0x1000 0xff ∷ a 13 7 0 6 3 0x1040 0xff ∷ [])

-- The same, and a reply of channel D to each in that order, with these opcodes, all other fields fitting.
abbrev pub answered : ℕ → ℕ → ℕ → ℕ → ℕ → ℕ → ℕ → ℕ → List Placed
answered get full partial arithmetic logical intent block perm =
    each_kind
    ++ fragment 0 2 (d 20 get 0 3 0 0 false ∷ d 21 full 0 3 1 1 false ∷ d 22 partial 0 3 2 2 false ∷ d 23 arithmetic 0 3 3 3 false ∷ [])
    ++ fragment 1 2 (d 20 logical 0 3 0 0 false ∷ d 21 intent 0 3 1 1 false ∷ d 22 block 0 6 2 2 false ∷ d 23 perm 0 6 3 3 false ∷ [])

-- A line of a report: link, fragment, line of the fragment's text, rule.
pub record Line : Type 0 where
  pub link : ℕ
  pub fragment : ℕ
  pub line : ℕ
  pub rule : Rule

abbrev pub row : ℕ → ℕ → ℕ → Rule → Line
row link number line broken = record { link = link; fragment = number; line = line; rule = broken }

abbrev pub line_of : Row → Line
line_of r = row r.link r.fragment r.line r.rule

-- What the report of these beats says, with these regions.
abbrev pub found_with : List Area → List Placed → List Line
found_with regions beats = map line_of (report_of (of_manager (with_regions regions) (in_order beats) ∷ []))

abbrev pub found : List Placed → List Line
found beats = found_with [] beats

-- What it says where link 0 is strict.
abbrev pub found_strict : List Placed → List Line
found_strict beats = map line_of (report_of (of_manager (managing strict_decls []) (in_order beats) ∷ []))

-- The eight beats of a GrantData of a block of 64 bytes: from a cycle on, its cap, its sink.
abbrev pub grant : ℕ → ℕ → ℕ → List Beat
grant cycle cap sink = burst 8 cycle (λ at. d at 5 cap 6 0 sink false)

-- An Acquire to B of the block 1000, its Grant of one beat, and its GrantAck.
abbrev pub shared : List Beat
shared = a 10 7 0 6 0 0x1000 0xff ∷ d 20 4 1 6 0 1 false ∷ e 30 1 ∷ []

-- An Acquire to T of the block 1000, its Grant of eight beats, and its GrantAck.
abbrev pub owned : List Beat
owned = a 10 6 1 6 0 0x1000 0xff ∷ grant 20 0 1 ++ e 30 1 ∷ []
