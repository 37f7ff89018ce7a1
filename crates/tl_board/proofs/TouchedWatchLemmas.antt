-- Which windows of monitors an edit touches, as they are found.
use Rattle.std.proofs.Common.{◌≡◌, ℕ, zero, suc, ◌<◌, ◌==◌, inl, inr, true, false, cond, Bool, List, [], ◌∷◌, Option, Some, None, length, refl, sym, ap, subst, ◌∙◌, arith}
use Rattle.std.specs.Prelude.{◌↔◌, slice_get}
use Rattle.std.specs.List.{Contains}
use Rattle.std.specs.Option.{option_map_or}
use Rattle.std.proofs.lemmas.Bool.Decides.{nat_tests}
use Rattle.std.proofs.lemmas.List.{length-map}
use Rattle.tl_topology.specs.Topology.{Topology, number_of_name}
use Rattle.tl_topology.specs.declared.LinkDecl.{LinkDecl}
use Rattle.tl_beats.specs.Watches.{link_of}
use Rattle.tl_beats.specs.declared.watch.Watch.{Watch}
use Rattle.tl_definitions.specs.Managers.{declared_links}
use Rattle.tl_definitions.specs.Positions.{Recorded, beats_of, beats_of_all}
use Rattle.tl_definitions.proofs.Lists.{contains_none, contains_here, contains_there, contains_cases}
use Rattle.tl_edits.specs.Edits.{AnEdit, add, replace, withdraw, clear_link, set_region, remove_region, attach, retune, detach}
use Rattle.tl_edits.specs.Inputs.{InputData, attached}
use Rattle.tl_pieces.specs.declared.key.PieceKey.{PieceKey}
use Rattle.tl_check.specs.Captured.{watched_beats}
use Rattle.tl_check.proofs.CaptureLaws.{number_below}
use Rattle.tl_capture.specs.Present.{IsPresent}
use Rattle.tl_capture.specs.Windows.{HasBeat, AreWindows}
use Rattle.tl_board.specs.Touch.{Touches, TouchesRegions, TouchesLink}
use Rattle.tl_board.specs.Touched.{IsTouched, names}
use Rattle.tl_board.specs.Windows.{AreKeysOf}
use Rattle.tl_board.specs.declared.touched.Touched.{Touched}
use Rattle.tl_board.proofs.EditLemmas.{of_one_owner}
use Rattle.tl_client_rules.proofs.DeclaredLaws.{declared_is_client}
use Rattle.tl_board.proofs.TouchLemmas.{link_touches, touched_by}
use Rattle.tl_board.proofs.TouchedLemmas.{link_windows}
use Rattle.tl_board.specs.TouchedWatches.{edited_link, OnWatch, names_link, watchers, AreTouched}
use Rattle.tl_board.proofs.MonitorLemmas.{AreInOrder, attached_has, attached_from}

-- ---- the link whose fragments are edited

-- A link that is touched is the one that is edited.
pub touched_edited : (now : InputData) (e : AnEdit) (link window : ℕ) → TouchesLink now e link window → edited_link now.topo e ≡ Some link
touched_edited now (add f) link window h = h.0
touched_edited now (replace f) link window h = h.0
touched_edited now (withdraw name number) link window h = h.0
touched_edited now (clear_link name) link window h = h.0
touched_edited now (set_region name number area) link window h = absurd h
touched_edited now (remove_region name number) link window h = absurd h
touched_edited now (attach monitor w) link window h = absurd h
touched_edited now (retune monitor limit) link window h = absurd h
touched_edited now (detach monitor) link window h = absurd h

edited_below : (topo : Topology) (e : AnEdit) (link : ℕ) → edited_link topo e ≡ Some link → link < length topo.links
edited_below topo (add f) link h = number_below topo.links f.link link h
edited_below topo (replace f) link h = number_below topo.links f.link link h
edited_below topo (withdraw name number) link h = number_below topo.links name link h
edited_below topo (clear_link name) link h = number_below topo.links name link h
edited_below topo (set_region name number area) link h = absurd (cc)
edited_below topo (remove_region name number) link h = absurd (cc)
edited_below topo (attach monitor w) link h = absurd (cc)
edited_below topo (retune monitor limit) link h = absurd (cc)
edited_below topo (detach monitor) link h = absurd (cc)

regions_apart : (now : InputData) (e : AnEdit) (manager link : ℕ) → TouchesRegions now e manager → edited_link now.topo e ≡ Some link → ⊥
regions_apart now (add f) manager link r h = r
regions_apart now (replace f) manager link r h = r
regions_apart now (withdraw name number) manager link r h = r
regions_apart now (clear_link name) manager link r h = r
regions_apart now (set_region name number area) manager link r h = absurd (cc)
regions_apart now (remove_region name number) manager link r h = absurd (cc)
regions_apart now (attach monitor w) manager link r h = r
regions_apart now (retune monitor limit) manager link r h = r
regions_apart now (detach monitor) manager link r h = r

one_link : (found : Option ℕ) (one two : ℕ) → found ≡ Some one → found ≡ Some two → one ≡ two
one_link found one two a b = let both : Some one ≡ Some two = sym a ∙ b in cc

item_at : {X : Type 0} (xs : List X) (i : ℕ) → i < length xs → (x : X) × (slice_get xs i ≡ Some x)
item_at [] i h = absurd (omega arith)
item_at (x ∷ xs) zero h = (x, refl)
item_at (x ∷ xs) (suc i) h = item_at xs i (omega arith)

-- What touches a link touches the manager that it is declared for.
manager_touched : (now : InputData) (e : AnEdit) (link window : ℕ) → TouchesLink now e link window → (manager : ℕ) × Touches now e manager window
manager_touched now e link window touches =
    let below : link < length now.topo.links = edited_below now.topo e link (touched_edited now e link window touches) in
    let declared = item_at (declared_links now.topo) link (omega (arith, below, length-map now.topo.links (λ (p : List ℕ × LinkDecl). p.1))) in
    (declared.0.manager, link_touches now e declared.0.manager window link (declared_is_client declared.0.manager link (declared_links now.topo) declared.0 declared.1 refl) touches)

-- The windows of the manager that are touched are those of the link.
pub windows_exact : (now : InputData) (e : AnEdit) (t : Touched) → IsTouched now e t → (link window : ℕ) → edited_link now.topo e ≡ Some link → (manager : ℕ) → names t manager window → (Touches now e manager window → TouchesLink now e link window)
windows_exact now e t is link window edited manager named touches = elim (touched_by now e manager window touches) [
  | inl regions ↦ absurd (regions_apart now e manager link regions edited)
  | inr on ↦ subst (λ l. TouchesLink now e l window) (one_link (edited_link now.topo e) on.0 link (touched_edited now e on.0 window on.2) edited) on.2
]

pub named_windows : (now : InputData) (e : AnEdit) (t : Touched) → IsTouched now e t → (link window : ℕ) → edited_link now.topo e ≡ Some link
    → (TouchesLink now e link window → (manager : ℕ) × names t manager window) × ((manager : ℕ) → names t manager window → TouchesLink now e link window)
named_windows now e t is link window edited = (
  (λ touches. let found = manager_touched now e link window touches in (found.0, (is.exact found.0 window).0 found.1)),
  (λ manager named. windows_exact now e t is link window edited manager named ((is.exact manager window).1 named)),
)

-- ---- the monitors that watch a link

names_from : (topo : Topology) (link : ℕ) (w : Watch) → names_link topo link w ≡ true → (l : ℕ) × (number_of_name topo.links (link_of w) ≡ Some l) × (l ≡ link)
names_from topo link w h = go (number_of_name topo.links (link_of w)) refl h
  where
    go : (found : Option ℕ) → number_of_name topo.links (link_of w) ≡ found → option_map_or (λ l. l == link) found false ≡ true → (l : ℕ) × (number_of_name topo.links (link_of w) ≡ Some l) × (l ≡ link)
    go None is t = cc
    go (Some l) is t = (l, is, (let same : l ≡ link = grind (arith, nat_tests) in same))

names_it : (topo : Topology) (link : ℕ) (w : Watch) (l : ℕ) → number_of_name topo.links (link_of w) ≡ Some l → l ≡ link → names_link topo link w ≡ true
names_it topo link w l is same = ap (λ found. option_map_or (λ n. n == link) found false) is ∙ (let test : (l == link) ≡ true = grind (arith, nat_tests) in test)

watcher_from : (topo : Topology) (link : ℕ) (es : List (ℕ × Watch)) (number : ℕ) → Contains (watchers topo link es) number → (w : Watch) × Contains es (number, w) × (names_link topo link w ≡ true)
watcher_from topo link [] number h = absurd (contains_none number h)
watcher_from topo link (e ∷ es) number h = go (watcher_from topo link es number) (names_link topo link e.1) refl h
  where
    go : (Contains (watchers topo link es) number → (w : Watch) × Contains es (number, w) × (names_link topo link w ≡ true)) → (b : Bool) → names_link topo link e.1 ≡ b
        → Contains (cond b (e.0 ∷ watchers topo link es) (watchers topo link es)) number → (w : Watch) × Contains (e ∷ es) (number, w) × (names_link topo link w ≡ true)
    go later true t g = elim (contains_cases e.0 (watchers topo link es) number g) [
      | inl same ↦ (e.1, subst (λ n. Contains (e ∷ es) (n, e.1)) same (contains_here e es), t)
      | inr there ↦ (let found = later there in (found.0, contains_there e es (number, found.0) found.1, found.2))
    ]
    go later false t g = (let found = later g in (found.0, contains_there e es (number, found.0) found.1, found.2))

watcher_in : (topo : Topology) (link : ℕ) (es : List (ℕ × Watch)) (number : ℕ) (w : Watch) → Contains es (number, w) → names_link topo link w ≡ true → Contains (watchers topo link es) number
watcher_in topo link [] number w h t = absurd (contains_none (number, w) h)
watcher_in topo link (e ∷ es) number w h t = elim (contains_cases e es (number, w) h) [
  | inl same ↦ (let named : names_link topo link e.1 ≡ true = ap (λ (x : ℕ × Watch). names_link topo link x.1) same ∙ t in
      subst (λ b. Contains (cond b (e.0 ∷ watchers topo link es) (watchers topo link es)) number) (sym named)
      (subst (Contains (e.0 ∷ watchers topo link es)) (ap (λ (x : ℕ × Watch). x.0) same) (contains_here e.0 (watchers topo link es))))
  | inr there ↦ elim (names_link topo link e.1) as (λ b. Contains (cond b (e.0 ∷ watchers topo link es) (watchers topo link es)) number) [
    | true ↦ contains_there e.0 (watchers topo link es) number (watcher_in topo link es number w there t)
    | false ↦ watcher_in topo link es number w there t
  ]
]

pub watchers_are : (now : InputData) → AreInOrder now.monitors → (link number : ℕ) → Contains (watchers now.topo link (attached now.monitors)) number ↔ OnWatch now number (λ l. l ≡ link)
watchers_are now rise link number = (
  (λ h. let found = watcher_from now.topo link (attached now.monitors) number h in
      let on = names_from now.topo link found.0 found.2 in
      (found.0, attached_from now.monitors rise (number, found.0) found.1, on.0, on.1, on.2)),
  (λ on. watcher_in now.topo link (attached now.monitors) number on.0 (attached_has now.monitors number on.0 on.1) (names_it now.topo link on.0 on.2 on.3 on.4)),
)

-- ---- the keys that are touched

pub touched_keys : (now : InputData) (e : AnEdit) (link : ℕ) → edited_link now.topo e ≡ Some link → (owners windows : List ℕ) (keys : List PieceKey) → ((number : ℕ) → Contains owners number ↔ OnWatch now number (λ l. l ≡ link))
    → ((window : ℕ) → Contains windows window ↔ TouchesLink now e link window) → AreKeysOf owners windows keys → AreTouched now e link keys
touched_keys now e link edited owners windows keys watch on are = record {
  exact = λ key. (
    (λ h. let known = (are key).0 h in
        let own = (watch key.owner).0 known.0 in
        (own.0, own.1, own.2, own.3, subst (λ l. TouchesLink now e l key.window) (sym own.4) ((on key.window).0 known.1))),
    (λ own. let same = one_link (edited_link now.topo e) own.2 link (touched_edited now e own.2 key.window own.4) edited in
        (are key).1 ((watch key.owner).1 (own.0, own.1, own.2, own.3, same), (on key.window).1 (subst (λ l. TouchesLink now e l key.window) same own.4))),
  );
  own = λ key h. (watch key.owner).0 ((are key).0 h).0;
}

pub none_touched : (now : InputData) (e : AnEdit) (link : ℕ) → edited_link now.topo e ≡ None → AreTouched now e link []
none_touched now e link none = record {
  exact = λ key. (
    (λ h. absurd (contains_none key h)),
    (λ own. absurd (let never : None ≡ Some own.2 = sym none ∙ touched_edited now e own.2 key.window own.4 in cc)),
  );
  own = λ key h. absurd (contains_none key h);
}

-- The keys of a monitor: one for each window in which its link has a beat.
pub own_keys : (topo : Topology) (fs : List Recorded) (w : Watch) (link : ℕ) → number_of_name topo.links (link_of w) ≡ Some link → IsPresent fs → (monitor : ℕ) (windows : List ℕ) (keys : List PieceKey)
    → AreWindows (beats_of_all (link ∷ []) fs) windows → AreKeysOf (monitor ∷ []) windows keys → (key : PieceKey) → Contains keys key ↔ ((key.owner ≡ monitor) × HasBeat (watched_beats topo fs w) key.window)
own_keys topo fs w link named is monitor windows keys are of_one key =
    let own : watched_beats topo fs w ≡ beats_of link fs = ap (λ found. option_map_or (λ l. beats_of l fs) found []) named in
    let has = of_one_owner monitor windows keys of_one key in
    let on = link_windows fs link (link ∷ []) windows is refl are key.window in (
      (λ h. ((has.0 h).0, subst (λ ps. HasBeat ps key.window) (sym own) (on.0 (has.0 h).1))),
      (λ h. has.1 (h.0, on.1 (subst (λ ps. HasBeat ps key.window) own h.1))),
    )

pub no_keys : (topo : Topology) (fs : List Recorded) (w : Watch) → number_of_name topo.links (link_of w) ≡ None → (monitor : ℕ) (key : PieceKey)
    → Contains [] key ↔ ((key.owner ≡ monitor) × HasBeat (watched_beats topo fs w) key.window)
no_keys topo fs w none monitor key = (
  (λ h. absurd (contains_none key h)),
  (λ h. let found = subst (λ ps. HasBeat ps key.window) (ap (λ found. option_map_or (λ l. beats_of l fs) found []) none) h.1 in absurd (contains_none found.0 found.1)),
)
