-- Positions: the beats of links, where they are written, and their order.
use Rattle.std.specs.Prelude.{ℕ, ◌≡◌, ◌+◌, ◌<◌, ◌≤◌, ◌==◌, ◌↔◌, Bool, true, false, List, [], ◌∷◌, ◌++◌, if◌then◌else◌, filter, nat_lt, slice_get, slice_index_or}
use Rattle.std.specs.Option.{option_map}
use Rattle.std.specs.Cmp.{IsTotalOrder}
use Rattle.std.specs.declared.cmp.Ordering.{Ordering}
use Rattle.std.specs.declared.cmp.Ordering.TheVariants.{Less, Equal}
use Rattle.std.specs.Ordering.{nat_cmp, on, then_cmp, is_lt}
use Rattle.std.specs.List.{list_any, Contains, AllByRecursion}
use Rattle.tl_tables.specs.declared.Level.TheVariants as level
use Rattle.tl_tables.specs.Messages.{chan_number}
use Rattle.tl_topology.specs.declared.LinkDecl.{LinkDecl}
use Rattle.tl_beats.specs.declared.Beat.{Beat}
use Rattle.tl_beats.specs.declared.Placed.{Placed}
use Rattle.tl_definitions.specs.Messages.{Links}

-- The order of positions: cycle, then channel A to E, then link number. [own profile]
abbrev pub position_order : Placed → Placed → Ordering
position_order = then_cmp (on (λ p. p.beat.cycle) nat_cmp) (then_cmp (on (λ p. chan_number p.beat.chan) nat_cmp) (on (λ p. p.link) nat_cmp))

abbrev pub lies_before : Placed → Placed → Bool
lies_before p q = is_lt (position_order p q)

abbrev pub IsBefore : Placed → Placed → Type 0
IsBefore p q = position_order p q ≡ Less

-- A fragment as plain data: the number of its link, its own, its range of cycles, its beats.
pub record Recorded : Type 0 where
  pub link : ℕ
  pub number : ℕ
  pub first : ℕ
  pub last : ℕ
  pub beats : List Beat

-- Beats of a fragment from a line of its text on; a fragment's first beat stands on line 2.
abbrev pub placed_from : ℕ → ℕ → ℕ → List Beat → List Placed
placed_from link number line [] = []
placed_from link number line (beat ∷ beats) = record { link = link; fragment = number; line = line; beat = beat } ∷ placed_from link number (line + 1) beats

abbrev pub placed_beats : Recorded → List Placed
placed_beats fragment = placed_from fragment.link fragment.number 2 fragment.beats

abbrev pub insert_by_range : Recorded → List Recorded → List Recorded
insert_by_range f [] = f ∷ []
insert_by_range f (g ∷ gs) = if nat_lt f.first g.first then f ∷ g ∷ gs else g ∷ insert_by_range f gs

abbrev pub by_range : List Recorded → List Recorded
by_range [] = []
by_range (f ∷ fs) = insert_by_range f (by_range fs)

abbrev pub all_placed : List Recorded → List Placed
all_placed [] = []
all_placed (f ∷ fs) = placed_beats f ++ all_placed fs

-- The beats of a link: those of its fragments, the fragments in the order of their ranges.
abbrev pub beats_of : ℕ → List Recorded → List Placed
beats_of link fragments = all_placed (by_range (filter (λ f. f.link == link) fragments))

abbrev pub insert_in_order : Placed → List Placed → List Placed
insert_in_order p [] = p ∷ []
insert_in_order p (q ∷ qs) = if lies_before p q then p ∷ q ∷ qs else q ∷ insert_in_order p qs

abbrev pub in_order : List Placed → List Placed
in_order [] = []
in_order (p ∷ ps) = insert_in_order p (in_order ps)

-- The beats of all links with these numbers, in the order of positions.
abbrev pub beats_of_all : List ℕ → List Recorded → List Placed
beats_of_all links fragments = in_order (all_placed (filter (λ f. list_any (λ link. f.link == link) links) fragments))

-- The links of a topology by number. No number of a link leads to `no_link`.
abbrev pub no_link : LinkDecl
no_link = record { name = []; manager = 0; level = level.Ul; width = 0; max_size = 0; sources = 0; strict = false }

abbrev pub links_of : List LinkDecl → Links
links_of decls = λ number. slice_index_or decls number no_link

-- The numbers of a manager's links, from a first number on.
abbrev pub clients_from : ℕ → ℕ → List LinkDecl → List ℕ
clients_from manager number [] = []
clients_from manager number (link ∷ links) = if link.manager == manager then number ∷ clients_from manager (number + 1) links
    else clients_from manager (number + 1) links

abbrev pub clients_of : ℕ → List LinkDecl → List ℕ
clients_of manager decls = clients_from manager 0 decls

-- The order of positions is total, and two beats tie exactly where cycle, channel and link are the same. The lower cycle
-- comes first, at one cycle the earlier channel, and at one cycle and channel the lower link.
pub record PositionsAreOrdered : Type 0 where
  pub total : IsTotalOrder position_order
  pub ties : (p q : Placed) → (position_order p q ≡ Equal) ↔ ((p.beat.cycle ≡ q.beat.cycle) × (p.beat.chan ≡ q.beat.chan) × (p.link ≡ q.link))
  pub by_cycle : (p q : Placed) → p.beat.cycle < q.beat.cycle → IsBefore p q
  pub by_channel : (p q : Placed) → p.beat.cycle ≡ q.beat.cycle → chan_number p.beat.chan < chan_number q.beat.chan → IsBefore p q
  pub by_link : (p q : Placed) → p.beat.cycle ≡ q.beat.cycle → p.beat.chan ≡ q.beat.chan → p.link < q.link → IsBefore p q

-- The beat at index k of a fragment stands on line k + 2.
abbrev pub LinesAreIndexes : Type 0
LinesAreIndexes = (fragment : Recorded) (k : ℕ) → slice_get (placed_beats fragment) k
    ≡ option_map (λ beat. record { link = fragment.link; fragment = fragment.number; line = k + 2; beat = beat }) (slice_get fragment.beats k)

-- No fragment begins before one that stands before it.
abbrev pub AreByRange : List Recorded → Type 0
AreByRange [] = Unit {0}
AreByRange (f ∷ fs) = AllByRecursion (λ g. f.first ≤ g.first) fs × AreByRange fs

abbrev pub RangesRise : Type 0
RangesRise = (fragments : List Recorded) → AreByRange (by_range fragments) × ((f : Recorded) → Contains (by_range fragments) f ↔ Contains fragments f)

-- The beats of a link are those of its fragments.
abbrev pub BeatsAreOfFragments : Type 0
BeatsAreOfFragments = (link : ℕ) (fragments : List Recorded) (p : Placed) → Contains (beats_of link fragments) p ↔
    ((f : Recorded) × Contains fragments f × (f.link ≡ link) × Contains (placed_beats f) p)

-- No beat lies before one that stands before it.
abbrev pub AreInOrder : List Placed → Type 0
AreInOrder [] = Unit {0}
AreInOrder (p ∷ ps) = AllByRecursion (λ q. lies_before q p ≡ false) ps × AreInOrder ps

-- The beats of a manager are those of the fragments of its links, in the order of positions.
abbrev pub BeatsAreInOrder : Type 0
BeatsAreInOrder = (links : List ℕ) (fragments : List Recorded) → AreInOrder (beats_of_all links fragments)
    × ((p : Placed) → Contains (beats_of_all links fragments) p ↔
    ((f : Recorded) × Contains fragments f × (list_any (λ link. f.link == link) links ≡ true) × Contains (placed_beats f) p))
