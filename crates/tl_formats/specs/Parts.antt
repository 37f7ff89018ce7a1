-- Some managers checked apart: what is theirs, and what their report has.
use Rattle.std.specs.Prelude.{ℕ, ◌≡◌, ◌<◌, Bool, true, false, List, [], ◌∷◌, count_by, filter, length, map}
use Rattle.std.specs.List.{Contains, flat_map}
use Rattle.std.specs.Option.{option_map_or}
use Rattle.tl_topology.specs.Regions.{Area}
use Rattle.tl_topology.specs.Topology.{Topology, number_of_name}
use Rattle.tl_beats.specs.Watches.{link_of}
use Rattle.tl_beats.specs.declared.Row.{Row}
use Rattle.tl_beats.specs.declared.watch.Watch.{Watch}
use Rattle.tl_definitions.specs.Managers.{declared_links}
use Rattle.tl_definitions.specs.Positions.{Recorded, links_of}
use Rattle.tl_definitions.specs.Report.{IsReport}
use Rattle.tl_check.specs.Captured.{areas_at, captures_with}
use Rattle.tl_formats.specs.Merging.{IsByLink}

-- The managers of a share, by number.
abbrev pub Share : Type 0
Share = ℕ → Bool

-- The link is of a manager of the share.
abbrev pub has_link : Topology → Share → ℕ → Bool
has_link topo share link = share (links_of (declared_links topo) link).manager

-- The fragments of its links.
abbrev pub own_fragments : Topology → Share → List Recorded → List Recorded
own_fragments topo share fragments = filter (λ f. has_link topo share f.link) fragments

-- The monitors of its links, each with its number.
abbrev pub own_watches : Topology → Share → List (ℕ × Watch) → List (ℕ × Watch)
own_watches topo share watches = filter (λ e. option_map_or (has_link topo share) (number_of_name topo.links (link_of e.1)) false) watches

-- The rows of its links.
abbrev pub own_rows : Topology → Share → List Row → List Row
own_rows topo share rows = filter (λ row. has_link topo share row.link) rows

-- Both have the same regions for each manager of the share.
abbrev pub HaveSameRegions : Share → List (List (ℕ × Area)) → List (List (ℕ × Area)) → Type 0
HaveSameRegions share one two = (manager : ℕ) → share manager ≡ true → areas_at one manager ≡ areas_at two manager

-- The rows are the report of a share: of its fragments, with its managers' regions and the monitors of its links.
pub record IsPart (topo : Topology) (fragments : List Recorded) (regions : List (List (ℕ × Area))) (watches : List (ℕ × Watch)) (share : Share) (rows : List Row) : Type 0 where
  pub areas : List (List (ℕ × Area))
  pub same : HaveSameRegions share areas regions
  pub report : IsReport (captures_with topo (own_fragments topo share fragments) areas (own_watches topo share watches)) rows

-- It has exactly those rows of the report of all that are of its links.
abbrev pub PartsAreApart : Type 0
PartsAreApart = (topo : Topology) (fragments : List Recorded) (regions : List (List (ℕ × Area))) (watches : List (ℕ × Watch)) (share : Share) (whole part : List Row)
    → IsReport (captures_with topo fragments regions watches) whole → IsPart topo fragments regions watches share part → part ≡ own_rows topo share whole

-- Each link is of exactly one of the shares.
abbrev pub IsPartition : Topology → List Share → Type 0
IsPartition topo shares = (link : ℕ) → link < length topo.links → count_by (λ share. has_link topo share link) shares ≡ 1

-- The reports of the shares, in their order.
abbrev pub AreParts : Topology → List Recorded → List (List (ℕ × Area)) → List (ℕ × Watch) → List Share → List (List Row) → Type 0
AreParts topo fragments regions watches [] [] = Unit {0}
AreParts topo fragments regions watches [] (part ∷ parts) = ⊥
AreParts topo fragments regions watches (share ∷ shares) [] = ⊥
AreParts topo fragments regions watches (share ∷ shares) (part ∷ parts) = IsPart topo fragments regions watches share part × AreParts topo fragments regions watches shares parts

-- The lines of their rows, one report after the other.
abbrev pub lines_in : {X : Type 0} → (Row → X) → List (List Row) → List X
lines_in line parts = flat_map (map line) parts

-- Each row's line tells its link.
abbrev pub TellLinks : {X : Type 0} → (Row → X) → (X → ℕ) → List Row → Type 0
TellLinks line of rows = (row : Row) → Contains rows row → of (line row) ≡ row.link

-- The report of all is the merge of theirs, whichever shares the managers are cut into, and whatever the line of a row is, if it tells
-- the row's link: the same lines by link, line by line.
abbrev pub PartsMakeTheWhole : Type 0 → Type 0
PartsMakeTheWhole X = (line : Row → X) (of : X → ℕ) (topo : Topology) (fragments : List Recorded) (regions : List (List (ℕ × Area))) (watches : List (ℕ × Watch))
    (shares : List Share) (whole : List Row) (parts : List (List Row)) (merged : List X) → TellLinks line of whole
    → IsPartition topo shares → IsReport (captures_with topo fragments regions watches) whole → AreParts topo fragments regions watches shares parts
    → IsByLink of (lines_in line parts) merged → merged ≡ map line whole
