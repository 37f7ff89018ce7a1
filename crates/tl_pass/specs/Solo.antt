-- One fragment whose beats come in pieces.
use Rattle.std.specs.Prelude.{ℕ, ◌≡◌, ◌<◌, ◌≤◌, ◌+◌, ◌-◌, ◌++◌, true, List, [], ◌∷◌, Option, Some, None, length, slice_get}
use Rattle.std.specs.List.{All, Contains, flat_map}
use Rattle.std.specs.Option.{option_map_or}
use Rattle.tl_topology.specs.Topology.{Topology, number_of_name}
use Rattle.tl_beats.specs.Fragments.{Frag}
use Rattle.tl_beats.specs.Reading.{rises_behind}
use Rattle.tl_beats.specs.declared.Beat.{Beat}
use Rattle.tl_beats.specs.declared.Placed.{Placed}
use Rattle.tl_beats.specs.declared.Row.{Row}
use Rattle.tl_definitions.specs.Judging.{snapshot, judging}
use Rattle.tl_definitions.specs.LinkPasses.{LinkSnapshot, link_judging}
use Rattle.tl_definitions.specs.Managers.{declared_links}
use Rattle.tl_definitions.specs.Passes.{Judge, rows_judged, left_after}
use Rattle.tl_definitions.specs.Positions.{links_of, placed_beats}
use Rattle.tl_definitions.specs.Rules.{Manager}
use Rattle.tl_capture.specs.Present.{recorded, IsCapture}
use Rattle.tl_check.specs.Apart as links
use Rattle.tl_check.specs.Apart.{one_link, opening}
use Rattle.tl_check.specs.Jobs.{GoesOn}
use Rattle.tl_check.specs.States.{shown, IsOf}
use Rattle.tl_apart.specs.Told.{bare, clients}
use Rattle.tl_pass.specs.Parts.{HasNoCaches}
use Rattle.tl_pass.specs.Reports.{IsTaken}
use Rattle.tl_pass.specs.declared.solo.Left.{Left}
use Rattle.tl_pass.specs.declared.solo.Left.TheVariants as left
use Rattle.tl_pass.specs.declared.solo.Solo.{Solo}
use Rattle.tl_pass.specs.declared.supply.Taken.{Taken}

-- A row so many lines later.
abbrev pub later : ℕ → Row → Row
later lines row = record row { line = row.line + lines }

-- The last beat.
abbrev pub last_of : List Beat → Option Beat
last_of beats = slice_get beats (length beats - 1)

abbrev pub last_or : Option Beat → List Beat → Option Beat
last_or before beats = option_map_or (λ beat. Some beat) (last_of beats) before

-- A manager all links of which are declared as this one.
abbrev pub lone : Topology → ℕ → ℕ → Manager
lone topo k link = one_link (links_of (declared_links topo) link) (bare topo k).exponent []

-- Judged from a start, these beats leave this and break what these rows say.
abbrev pub AreJudged : {S : Type 0} → Judge S → S → List Placed → S → List Row → Type 0
AreJudged judge start beats end rows = (end ≡ left_after judge start beats) × (rows ≡ rows_judged judge start beats)

-- These beats of a link are all that came of its manager's links, and leave this; these rows say what they break.
abbrev pub HasFound : Topology → ℕ → ℕ → List Placed → Left → List Row → Type 0
HasFound topo k link beats (left.Manager state) rows = IsOf (bare topo k) state × AreJudged (judging (bare topo k)) (snapshot (bare topo k) []) beats (shown state) rows
HasFound topo k link beats (left.Link state) rows = HasNoCaches topo × links.AreFormed state
    × (s : LinkSnapshot) × links.Shows state s × AreJudged (link_judging (lone topo k link)) (opening (bare topo k).exponent) beats s rows

-- It is what some beats left.
abbrev pub HasLeft : Topology → ℕ → ℕ → Left → Type 0
HasLeft topo k link (left.Manager state) = IsOf (bare topo k) state
HasLeft topo k link (left.Link state) = HasNoCaches topo × links.AreFormed state

-- More beats of the link leave this, and break what these rows say.
abbrev pub Leaves : Topology → ℕ → ℕ → List Placed → Left → Left → List Row → Type 0
Leaves topo k link beats (left.Manager old) (left.Manager new) rows = GoesOn (bare topo k) old beats new rows
Leaves topo k link beats (left.Link old) (left.Link new) rows = links.AreFormed new
    × ((s : LinkSnapshot) → links.Shows old s → (t : LinkSnapshot) × links.Shows new t × AreJudged (link_judging (lone topo k link)) s beats t rows)
Leaves topo k link beats old new rows = ⊥

-- There is room for these beats, and they stand after those that came.
pub record AreNext (solo : Solo) (beats : List Beat) : Type 0 where
  pub room : solo.count + length beats ≤ 65536
  pub rises : (beat : Beat) → slice_get beats 0 ≡ Some beat → rises_behind solo.newest beat ≡ true

-- The piece is of the same fragment, and its beats stand after those that came.
pub record IsNext (solo : Solo) (piece : Frag) : Type 0 where
  pub named : number_of_name solo.topo.now.links piece.link ≡ Some solo.link
  pub number : piece.number ≡ solo.number
  pub first : piece.first ≡ solo.first
  pub last : piece.last ≡ solo.last
  pub beats : AreNext solo piece.beats

-- These beats came of the fragment, which is so far one of its own.
pub record HasCome (f : Frag) (solo : Solo) : Type 0 where
  pub named : number_of_name solo.topo.now.links f.link ≡ Some solo.link
  pub managed : solo.manager < length solo.topo.now.managers
  pub client : Contains (clients solo.topo.now solo.manager) solo.link
  pub number : f.number ≡ solo.number
  pub first : f.first ≡ solo.first
  pub last : f.last ≡ solo.last
  pub own : IsCapture (recorded solo.link f)
  pub count : solo.count ≡ length f.beats
  pub newest : solo.newest ≡ last_of f.beats
  pub found : HasFound solo.topo.now solo.manager solo.link (placed_beats (recorded solo.link f)) solo.left solo.rows.items

-- A fragment before its beats, and with those of a piece too.
abbrev pub without_beats : Frag → Frag
without_beats f = record f { beats = [] }

abbrev pub longer : Frag → Frag → Frag
longer f piece = record f { beats = f.beats ++ piece.beats }

-- The piece has the number and the range of the fragment.
abbrev pub IsOneOf : Frag → Frag → Type 0
IsOneOf f piece = (piece.number ≡ f.number) × (piece.first ≡ f.first) × (piece.last ≡ f.last)

-- The beats of the fragment are those of the pieces, in their order.
pub record AreOf (f : Frag) (pieces : List Frag) : Type 0 where
  pub each : All (IsOneOf f) pieces
  pub beats : f.beats ≡ flat_map (λ piece. piece.beats) pieces

-- These pieces of a fragment came.
abbrev pub HasAll : List Frag → Solo → Type 0
HasAll pieces solo = (f : Frag) × HasCome f solo × AreOf f pieces

-- Some did.
abbrev pub HasBegun : Solo → Type 0
HasBegun solo = (pieces : List Frag) × HasAll pieces solo

-- It is the report of the fragment whose beats are those of the pieces.
abbrev pub IsWholeOf : Topology → List Frag → Taken → Type 0
IsWholeOf topo pieces taken = (f : Frag) × AreOf f pieces × IsTaken None topo (f ∷ []) taken
