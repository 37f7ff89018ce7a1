-- What an edit leaves as it was.
use Rattle.std.proofs.Common.{◌≡◌, ◌≢◌, ◌⊎◌, inl, inr, ℕ, ◌+◌, ◌<◌, ◌≤◌, true, false, cond, List, [], ◌∷◌, length, Some, None, refl, sym, ap, subst, ◌∙◌, arith, length-set}
use Rattle.std.specs.Prelude.{nat_lt, slice_get, slice_set, ◌==◌, ◌↔◌}
use Rattle.std.specs.Option.{option_map_or}
use Rattle.std.specs.List.{Contains}
use Rattle.std.proofs.Math.ListN.{set}
use Rattle.std.proofs.lemmas.Bool.Decides.{nat_tests}
use Rattle.std.proofs.lemmas.List.{get_or-set_other}
use Rattle.std.proofs.lemmas.Option.{slice_get-get_or, slice_get_past}
use Rattle.tl_topology.specs.Topology.{Topology, number_of_name}
use Rattle.tl_topology.specs.Regions.{Area, areas_of, put_area, without_area}
use Rattle.tl_topology.specs.declared.LinkDecl.{LinkDecl}
use Rattle.tl_beats.specs.declared.Placed.{Placed}
use Rattle.tl_definitions.specs.Captures.{manager_beats}
use Rattle.tl_definitions.specs.Managers.{declared_links}
use Rattle.tl_definitions.specs.Positions.{Recorded, beats_of_all, clients_of}
use Rattle.tl_definitions.proofs.Lists.{contains_none, contains_here, contains_there, contains_cases, contains_kept, kept_from}
use Rattle.tl_capture.specs.Present.{IsPresent, recorded, numbered, is_of, put_in, without, cleared}
use Rattle.tl_capture.specs.Windows.{window_of, lies_in, beats_in, HasBeat}
use Rattle.tl_capture.proofs.NumberLemmas.{present_kept, found_from}
use Rattle.tl_capture.proofs.TouchLemmas.{puts_are_local, takes_are_local, clears_are_local}
use Rattle.tl_edits.specs.Edits.{AnEdit, add, replace, withdraw, clear_link, set_region, remove_region, attach, retune, detach}
use Rattle.tl_edits.specs.Inputs.{InputData, regions_at, with_fragments, with_regions, changed}
use Rattle.tl_edits.proofs.LogLaws.{topo_stays}
use Rattle.tl_check.specs.Captured.{areas_at}
use Rattle.tl_board.specs.Touch.{Touches, TouchesRegions, TouchesLink}

-- ---- beats

-- A fragment that is found on a link is the link's.
of_its_link : (link number : ℕ) (fs : List Recorded) (f : Recorded) → numbered link number fs ≡ Some f → f.link ≡ link
of_its_link link number fs f at = let test : is_of link number f ≡ true = (found_from (is_of link number) fs f at).1 in grind (arith, nat_tests)

module _ (now : InputData) (window : ℕ) (links : List ℕ) where
  abbrev held : List Recorded → List Placed
  held fs = beats_in window (beats_of_all links fs)

  on_link : (name : List ℕ) (edit : ℕ → List Recorded → List Recorded) → IsPresent (with_fragments now name edit).fragments
      → ((link : ℕ) → number_of_name now.topo.links name ≡ Some link → IsPresent (edit link now.fragments) → held (edit link now.fragments) ≡ held now.fragments)
      → held (with_fragments now name edit).fragments ≡ held now.fragments
  on_link name edit are local = elim (number_of_name now.topo.links name) as (λ o. number_of_name now.topo.links name ≡ o
      → IsPresent (option_map_or (λ link. record now { fragments = edit link now.fragments }) o now).fragments → held (option_map_or (λ link. record now { fragments = edit link now.fragments }) o now).fragments ≡ held now.fragments) [
        | None ↦ λ e is. refl
        | Some link ↦ λ e is. local link e is
      ] refl are

  on_manager : (name : List ℕ) (edit : List (ℕ × Area) → List (ℕ × Area)) → held (with_regions now name edit).fragments ≡ held now.fragments
  on_manager name edit = elim (number_of_name now.topo.managers name)
      as (λ o. held (option_map_or (λ n. record now { regions = slice_set now.regions n (edit (regions_at n now.regions)) }) o now).fragments ≡ held now.fragments) [
        | None ↦ refl
        | Some n ↦ refl
      ]

  -- The beats of links that have in a window what they had are what they were.
  pub untouched_links : (e : AnEdit) → IsPresent now.fragments → IsPresent (changed now e).fragments → ((link : ℕ) → Contains links link → TouchesLink now e link window → ⊥)
      → held (changed now e).fragments ≡ held now.fragments
  untouched_links (add f) is are none = on_link f.link (λ link fs. put_in (recorded link f) fs) are
      (λ link e there. puts_are_local links (recorded link f) now.fragments window is there (λ meets. none link meets.0 (e, meets.1)))
  untouched_links (replace f) is are none = on_link f.link (λ link fs. put_in (recorded link f) (without link f.number fs)) are
      (λ link e there. puts_are_local links (recorded link f) (without link f.number now.fragments) window (present_kept _ now.fragments is) there (λ meets. none link meets.0 (e, inl meets.1))
      ∙ takes_are_local links link f.number now.fragments window is (λ g at meets. none link (subst (Contains links) (of_its_link link f.number now.fragments g at) meets.0) (e, inr (g, at, meets.1))))
  untouched_links (withdraw name number) is are none = on_link name (λ link fs. without link number fs) are
      (λ link e there. takes_are_local links link number now.fragments window is (λ g at meets. none link (subst (Contains links) (of_its_link link number now.fragments g at) meets.0) (e, (g, at, meets.1))))
  untouched_links (clear_link name) is are none = on_link name cleared are
      (λ link e there. clears_are_local links link now.fragments window is (λ has beat. none link has (e, beat)))
  untouched_links (set_region name number area) is are none = on_manager name (put_area number area)
  untouched_links (remove_region name number) is are none = on_manager name (without_area number)
  untouched_links (attach monitor w) is are none = refl
  untouched_links (retune monitor limit) is are none = refl
  untouched_links (detach monitor) is are none = refl

-- What touches a link touches its manager.
pub link_touches : (now : InputData) (e : AnEdit) (manager window link : ℕ) → Contains (clients_of manager (declared_links now.topo)) link → TouchesLink now e link window → Touches now e manager window
link_touches now (add f) manager window link client h = (link, h.0, client, h.1)
link_touches now (replace f) manager window link client h = (link, h.0, client, h.1)
link_touches now (withdraw name number) manager window link client h = (link, h.0, client, h.1)
link_touches now (clear_link name) manager window link client h = (link, h.0, client, h.1)
link_touches now (set_region name number area) manager window link client h = absurd h
link_touches now (remove_region name number) manager window link client h = absurd h
link_touches now (attach monitor w) manager window link client h = absurd h
link_touches now (retune monitor limit) manager window link client h = absurd h
link_touches now (detach monitor) manager window link client h = absurd h

-- What touches a manager touches all its windows, or one of its links.
pub touched_by : (now : InputData) (e : AnEdit) (manager window : ℕ) → Touches now e manager window
    → TouchesRegions now e manager ⊎ ((link : ℕ) × Contains (clients_of manager (declared_links now.topo)) link × TouchesLink now e link window)
touched_by now (add f) manager window h = inr (h.0, h.2, (h.1, h.3))
touched_by now (replace f) manager window h = inr (h.0, h.2, (h.1, h.3))
touched_by now (withdraw name number) manager window h = inr (h.0, h.2, (h.1, h.3))
touched_by now (clear_link name) manager window h = inr (h.0, h.2, (h.1, h.3))
touched_by now (set_region name number area) manager window h = inl h
touched_by now (remove_region name number) manager window h = inl h
touched_by now (attach monitor w) manager window h = absurd h
touched_by now (retune monitor limit) manager window h = absurd h
touched_by now (detach monitor) manager window h = absurd h

-- The window's beats are what they were.
abbrev pub IsKept : ℕ → ℕ → InputData → InputData → Type 0
IsKept manager window now after = beats_in window (manager_beats after.topo after.fragments manager) ≡ beats_in window (manager_beats now.topo now.fragments manager)

pub untouched_beats : (now : InputData) (manager window : ℕ) (e : AnEdit) → IsPresent now.fragments → IsPresent (changed now e).fragments → (Touches now e manager window → ⊥) → IsKept manager window now (changed now e)
untouched_beats now manager window e is are none =
    ap (λ (t : Topology). beats_in window (manager_beats t (changed now e).fragments manager)) (topo_stays now e)
    ∙ untouched_links now window (clients_of manager (declared_links now.topo)) e is are (λ link client touches. none (link_touches now e manager window link client touches))

-- Where the beats of a window are the same, it has one as before.
pub has_beat_by : (window : ℕ) (ps qs : List Placed) → beats_in window ps ≡ beats_in window qs → HasBeat ps window → HasBeat qs window
has_beat_by window ps qs same h =
    let test : (window_of h.0.beat.cycle == window) ≡ true = (let at : window_of h.0.beat.cycle ≡ window = h.2 in grind (arith, nat_tests)) in
    (h.0, (kept_from (lies_in window) qs h.0 (subst (λ xs. Contains xs h.0) same (contains_kept (lies_in window) ps h.0 h.1 test))).0, h.2)

pub untouched_window : (now : InputData) (manager window : ℕ) (e : AnEdit) → IsPresent now.fragments → IsPresent (changed now e).fragments → (Touches now e manager window → ⊥)
    → HasBeat (manager_beats (changed now e).topo (changed now e).fragments manager) window ↔ HasBeat (manager_beats now.topo now.fragments manager) window
untouched_window now manager window e is are none =
    let before : List Placed = manager_beats now.topo now.fragments manager in
    let after : List Placed = manager_beats (changed now e).topo (changed now e).fragments manager in
    let same = untouched_beats now manager window e is are none in
    (has_beat_by window after before same, has_beat_by window before after (sym same))

-- ---- regions

get_other : {X : Type 0} (xs : List X) (i j : ℕ) (v : X) → j ≢ i → slice_get (set xs i v) j ≡ slice_get xs j
get_other xs i j v ne =
    elim (nat_lt j (length xs)) as (λ b. nat_lt j (length xs) ≡ b → slice_get (set xs i v) j ≡ slice_get xs j) [
      | true ↦ λ h. let within : j < length xs = grind (arith, nat_tests) in
          slice_get-get_or (set xs i v) j v (simp length-set (omega arith)) ∙ ap Some (get_or-set_other xs i j v v ne) ∙ sym (slice_get-get_or xs j v within)
      | false ↦ λ h. let past : length xs ≤ j = grind (arith, nat_tests) in
          slice_get_past (set xs i v) j (simp length-set (omega arith)) ∙ sym (slice_get_past xs j past)
    ] refl

other_regions : (now : InputData) (name : List ℕ) (edit : List (ℕ × Area) → List (ℕ × Area)) (manager : ℕ) → (number_of_name now.topo.managers name ≡ Some manager → ⊥)
    → areas_at (with_regions now name edit).regions manager ≡ areas_at now.regions manager
other_regions now name edit manager none = elim (number_of_name now.topo.managers name) as (λ o. number_of_name now.topo.managers name ≡ o
    → areas_at (option_map_or (λ n. record now { regions = slice_set now.regions n (edit (regions_at n now.regions)) }) o now).regions manager ≡ areas_at now.regions manager) [
      | None ↦ λ e. refl
      | Some n ↦ λ e. ap (λ o. option_map_or areas_of o []) (get_other now.regions n manager (edit (regions_at n now.regions)) (λ same. none (e ∙ ap Some (sym same))))
    ] refl

kept_regions : (now : InputData) (name : List ℕ) (edit : ℕ → List Recorded → List Recorded) → (with_fragments now name edit).regions ≡ now.regions
kept_regions now name edit = elim (number_of_name now.topo.links name) as (λ o. (option_map_or (λ link. record now { fragments = edit link now.fragments }) o now).regions ≡ now.regions) [ None ↦ refl | Some n ↦ refl ]

pub untouched_regions : (now : InputData) (e : AnEdit) (manager : ℕ) → (TouchesRegions now e manager → ⊥) → areas_at (changed now e).regions manager ≡ areas_at now.regions manager
untouched_regions now (add f) manager none = ap (λ rs. areas_at rs manager) (kept_regions now f.link (λ link fs. put_in (recorded link f) fs))
untouched_regions now (replace f) manager none = ap (λ rs. areas_at rs manager) (kept_regions now f.link (λ link fs. put_in (recorded link f) (without link f.number fs)))
untouched_regions now (withdraw name number) manager none = ap (λ rs. areas_at rs manager) (kept_regions now name (λ link fs. without link number fs))
untouched_regions now (clear_link name) manager none = ap (λ rs. areas_at rs manager) (kept_regions now name cleared)
untouched_regions now (set_region name number area) manager none = other_regions now name (put_area number area) manager none
untouched_regions now (remove_region name number) manager none = other_regions now name (without_area number) manager none
untouched_regions now (attach monitor w) manager none = refl
untouched_regions now (retune monitor limit) manager none = refl
untouched_regions now (detach monitor) manager none = refl

-- So an untouched window keeps the regions of its manager.
pub regions_are_touched : (now : InputData) (e : AnEdit) (manager window : ℕ) → TouchesRegions now e manager → Touches now e manager window
regions_are_touched now (set_region name number area) manager window h = h
regions_are_touched now (remove_region name number) manager window h = h
regions_are_touched now (add f) manager window h = absurd h
regions_are_touched now (replace f) manager window h = absurd h
regions_are_touched now (withdraw name number) manager window h = absurd h
regions_are_touched now (clear_link name) manager window h = absurd h
regions_are_touched now (attach monitor w) manager window h = absurd h
regions_are_touched now (retune monitor limit) manager window h = absurd h
regions_are_touched now (detach monitor) manager window h = absurd h

pub same_topology : (now : InputData) (e : AnEdit) → (changed now e).topo ≡ now.topo
same_topology = topo_stays
