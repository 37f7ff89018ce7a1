-- One window gets a result.
use Rattle.std.proofs.Common.{◌≡◌, ℕ, ◌==◌, inl, inr, true, false, cond, List, [], ◌∷◌, Option, Some, None, refl, sym, ap, subst, ◌∙◌, arith, eqb-true, Bool, ◌<◌, length, nat_lt, not, ◌&&◌, get_or}
use Rattle.std.specs.Prelude.{is_some}
use Rattle.std.specs.Option.{option_map, option_map_or, option_or, IsSome}
use Rattle.std.proofs.lemmas.Option.{slice_get-get_or}
use Rattle.tl_topology.specs.Regions.{Area, areas_of}
use Rattle.tl_topology.specs.Topology.{Topology}
use Rattle.tl_definitions.specs.Managers.{manager_at}
use Rattle.std.proofs.lemmas.Bool.Decides.{nat_tests}
use Rattle.tl_definitions.specs.Captures.{manager_beats}
use Rattle.tl_definitions.specs.Passes.{Judge, IsPass}
use Rattle.tl_capture.specs.Windows.{beats_in}
use Rattle.tl_check.specs.Captured.{areas_at}
use Rattle.tl_check.specs.Jobs.{Checked, IsResult, manager_of, pass_of}
use Rattle.tl_check.specs.States.{shown, IsOf, SameSpan}
use Rattle.tl_check.proofs.StateLaws.{same_shown}
use Rattle.std.specs.Ordering.{is_le, is_eq}
use Rattle.std.specs.BTreeMap.{is_at}
use Rattle.std.specs.List.{Contains}
use Rattle.tl_beats.specs.declared.Placed.{Placed}
use Rattle.tl_beats.specs.declared.Row.{Row}
use Rattle.tl_definitions.specs.Judging.{Snapshot, judging}
use Rattle.tl_definitions.proofs.Lists.{contains_here, contains_there, contains_cases, all_of}
use Rattle.tl_edits.specs.Inputs.{InputData}
use Rattle.tl_pieces.specs.declared.key.PieceKey.{PieceKey}
use Rattle.tl_pieces.specs.Keys.{key_cmp, value_at, before, change}
use Rattle.tl_pieces.specs.Pieces.{Piece, Board, Pass, IsBoard, opening_of, piece_at, result_of, exit_of, last_exit, left_by, IsFirst, entry_for, with_pieces}
use Rattle.tl_pieces.proofs.KeyLemmas.{key_exact, key_self}
use Rattle.tl_check.specs.declared.state.SpanState.{SpanState}
use Rattle.tl_board.specs.Spans.{SpansData, standing, manager_in, ShowsOf, opening_in, IsSpanOf, AreSpans, IsSound, ChecksWindow}
use Rattle.tl_board.specs.Covers.{Covers}
use Rattle.tl_board.specs.Windows.{with_checked}
use Rattle.tl_board.proofs.CoverLemmas.{found_at, at_found, some_of}

-- ---- a change under a key

module _ {V : Type 0} (k : PieceKey) (f : V → V) (q : PieceKey) where
  not_at : is_at (key_cmp q) k ≡ false → (e : PieceKey) → k ≡ e → is_at (key_cmp q) e ≡ false
  not_at h e is = subst (λ (x : PieceKey). is_at (key_cmp q) x ≡ false) is h

  pub lookup_change : (es : List (PieceKey × V)) → value_at q (change k f es) ≡ cond (is_at (key_cmp q) k) (option_map f (value_at q es)) (value_at q es)
  lookup_change [] = elim (is_at (key_cmp q) k) as (λ b. None ≡ cond b (option_map f None) None) [ true ↦ refl | false ↦ refl ]
  lookup_change (e ∷ es) = go (lookup_change es) (is_at (key_cmp q) k) refl (is_at (key_cmp k) e.0) refl
    where
      go : value_at q (change k f es) ≡ cond (is_at (key_cmp q) k) (option_map f (value_at q es)) (value_at q es) → (a : Bool) → is_at (key_cmp q) k ≡ a → (b : Bool) → is_at (key_cmp k) e.0 ≡ b
          → value_at q (cond b ((e.0, f e.1) ∷ es) (e ∷ change k f es)) ≡ cond a (option_map f (value_at q (e ∷ es))) (value_at q (e ∷ es))
      go later true own true here =
          let there : is_at (key_cmp q) e.0 ≡ true = subst (λ (x : PieceKey). is_at (key_cmp q) x ≡ true) (key_exact k e.0 here) own in
          ap (λ c. cond c (Some (f e.1)) (value_at q es)) there ∙ sym (ap (λ c. option_map f (cond c (Some e.1) (value_at q es))) there)
      go later false own true here =
          let away : is_at (key_cmp q) e.0 ≡ false = not_at own e.0 (key_exact k e.0 here) in
          ap (λ c. cond c (Some (f e.1)) (value_at q es)) away ∙ sym (ap (λ c. cond c (Some e.1) (value_at q es)) away)
      go later true own false here =
          let away : is_at (key_cmp q) e.0 ≡ false = subst (λ (x : PieceKey). is_at (key_cmp x) e.0 ≡ false) (sym (key_exact q k own)) here in
          ap (λ c. cond c (Some e.1) (value_at q (change k f es))) away ∙ later ∙ ap (λ c. cond c (option_map f (value_at q es)) (value_at q es)) own
          ∙ sym (ap (λ c. option_map f (cond c (Some e.1) (value_at q es))) away)
      go later false own false here = ap (λ found. cond (is_at (key_cmp q) e.0) (Some e.1) found) (later ∙ ap (λ c. cond c (option_map f (value_at q es)) (value_at q es)) own)

-- Two changes under a key are one.
pub change_twice : {V : Type 0} (k : PieceKey) (f g : V → V) (es : List (PieceKey × V)) → change k g (change k f es) ≡ change k (λ v. g (f v)) es
change_twice k f g [] = refl
change_twice k f g (e ∷ es) = elim (is_at (key_cmp k) e.0) as (λ b. is_at (key_cmp k) e.0 ≡ b → change k g (cond b ((e.0, f e.1) ∷ es) (e ∷ change k f es)) ≡ cond b ((e.0, g (f e.1)) ∷ es) (e ∷ change k (λ v. g (f v)) es)) [
  | true ↦ λ at. ap (λ b. cond b ((e.0, g (f e.1)) ∷ es) ((e.0, f e.1) ∷ change k g es)) at
  | false ↦ λ at. ap (λ b. cond b ((e.0, g e.1) ∷ change k f es) (e ∷ change k g (change k f es))) at ∙ ap (λ t. e ∷ t) (change_twice k f g es)
] refl

-- ---- what a check is to start from

last_from : {S R : Type 0} (o : ℕ) (es : List (PieceKey × Piece S R)) (s : S) → last_exit o es ≡ Some s
    → (e : PieceKey × Piece S R) × (r : Pass S R) × Contains es e × (e.0.owner ≡ o) × (e.1.result ≡ Some r) × (r.exit ≡ s)
last_from o [] s h = cc
last_from {S} {R} o (e ∷ es) s h = go (last_from o es s) (last_exit o es) refl h
  where
    Found : List (PieceKey × Piece S R) → Type 0
    Found xs = (x : PieceKey × Piece S R) × (r : Pass S R) × Contains xs x × (x.0.owner ≡ o) × (x.1.result ≡ Some r) × (r.exit ≡ s)

    own : (t : Bool) → (e.0.owner == o) ≡ t → (found : Option (Pass S R)) → e.1.result ≡ found → cond t (exit_of found) None ≡ Some s → Found (e ∷ es)
    own true t None is g = cc
    own true t (Some r) is g = (let same : r.exit ≡ s = cc in (e, r, contains_here e es, eqb-true e.0.owner o t, is, same))
    own false t found is g = cc

    go : (last_exit o es ≡ Some s → Found es) → (later : Option S) → last_exit o es ≡ later → option_or later (cond (e.0.owner == o) (exit_of e.1.result) None) ≡ Some s → Found (e ∷ es)
    go known None is g = own (e.0.owner == o) refl e.1.result refl g
    go known (Some x) is g = (let f = known (is ∙ g) in (f.0, f.1, contains_there e es f.0 f.2, f.3, f.4, f.5))

before_from : {V : Type 0} (k : PieceKey) (es : List (PieceKey × V)) (e : PieceKey × V) → Contains (before k es) e → Contains es e
before_from k [] e h = h
before_from k (x ∷ es) e h = go (before_from k es e) (true && not (is_le (key_cmp k x.0))) refl h
  where
    go : (Contains (before k es) e → Contains es e) → (b : Bool) → (true && not (is_le (key_cmp k x.0))) ≡ b → Contains (cond b (x ∷ before k es) (before k es)) e → Contains (x ∷ es) e
    go later true is g = elim (contains_cases x (before k es) e g) [
      | inl here ↦ subst (Contains (x ∷ es)) here (contains_here x es)
      | inr there ↦ contains_there x es e (later there)
    ]
    go later false is g = contains_there x es e (later g)

pub owner_of : {S R : Type 0} (board : Board S R) → IsBoard board → (key : PieceKey) → is_some (piece_at key board) ≡ true → is_some (opening_of key.owner board.openings) ≡ true
owner_of {S} {R} board is key there =
    let piece = some_of (piece_at key board) there in
    all_of (λ (e : PieceKey × Piece S R). is_some (opening_of e.0.owner board.openings) ≡ true) board.pieces is.owned (key, piece.0) (at_found board key piece.0 piece.1)

pub entry_there : {S R : Type 0} (board : Board S R) (key : PieceKey) → is_some (opening_of key.owner board.openings) ≡ true → is_some (entry_for key board) ≡ true
entry_there {S} board key there = go (last_exit key.owner (before key board.pieces))
  where
    go : (found : Option S) → is_some (option_or found (opening_of key.owner board.openings)) ≡ true
    go None = there
    go (Some s) = refl

pub some_mapped : {A B : Type 0} (f : A → B) (x : Option A) (y : Option B) → option_map f x ≡ y → is_some y ≡ true → IsSome x
some_mapped f None y is h = cc
some_mapped f (Some x) y is h = refl

-- What a check is to start from shows something of its owner.
module _ {S X : Type 0} (Shows : ℕ → S → X → Type 0) (judge : ℕ → Judge X) (beats : ℕ → List Placed) (opening : ℕ → X) (board : Board S (List Row)) (covers : Covers Shows judge beats opening board) (is : IsBoard board) (key : PieceKey) where
  pub shown_entry : (state : S) → entry_for key board ≡ Some state → (x : X) × Shows key.owner state x
  shown_entry state h = go (last_exit key.owner (before key board.pieces)) refl h
    where
      go : (found : Option S) → last_exit key.owner (before key board.pieces) ≡ found → option_or found (opening_of key.owner board.openings) ≡ Some state → (x : X) × Shows key.owner state x
      go None at g = (opening key.owner, covers.openings key.owner state g)
      go (Some s) at g =
          let last = last_from key.owner (before key board.pieces) s at in
          let member = before_from key board.pieces last.0 last.2 in
          let own = covers.results last.0.0 last.1 (ap result_of (found_at board is last.0 member) ∙ last.4) in
          let same : s ≡ state = cc in
          (own.exit, subst (λ t. Shows key.owner t own.exit) (last.5 ∙ same) (subst (λ n. Shows n last.1.exit own.exit) last.3 own.ends))

module _ (now : InputData) (board : Board SpanState (List Row)) (covers : AreSpans now board) (is : IsBoard board) (key : PieceKey) where
  -- What a check is to start from is a state of the manager.
  pub entry_shows : (state : SpanState) → entry_for key board ≡ Some state → (x : Snapshot) × ShowsOf now key.owner state x
  entry_shows = shown_entry (ShowsOf now) (λ m. judging (manager_in now m)) (λ m. manager_beats now.topo now.fragments m) (opening_in now) board covers is key

-- ---- the board with one more result, whose ticket has ended

module _ {S R : Type 0} (P : PieceKey → Pass S R → Type 0) (old new : Board S R) (key : PieceKey) (result : Pass S R)
    (is : new ≡ with_pieces old (change key (with_checked result) old.pieces)) where
  found : (q : PieceKey) → piece_at q new ≡ cond (is_at (key_cmp q) key) (option_map (with_checked result) (piece_at q old)) (piece_at q old)
  found q = ap (λ (b : Board S R). piece_at q b) is ∙ lookup_change key (with_checked result) q old.pieces

  pub same_openings : new.openings ≡ old.openings
  same_openings = ap (λ (b : Board S R). b.openings) is

  mapped_there : (x : Option (Piece S R)) → is_some (option_map (with_checked result) x) ≡ is_some x
  mapped_there None = refl
  mapped_there (Some x) = refl

  pub still_there : (q : PieceKey) → is_some (piece_at q new) ≡ is_some (piece_at q old)
  still_there q = ap is_some (found q) ∙ elim (is_at (key_cmp q) key) as (λ b. is_some (cond b (option_map (with_checked result) (piece_at q old)) (piece_at q old)) ≡ is_some (piece_at q old)) [
    | true ↦ mapped_there (piece_at q old)
    | false ↦ refl
  ]

  changed_one : P key result → (x : Option (Piece S R)) (r : Pass S R) → result_of (option_map (with_checked result) x) ≡ Some r → P key r
  changed_one holds None r h = cc
  changed_one holds (Some x) r h = subst (P key) (let same : result ≡ r = cc in same) holds

  pub results_after : P key result → ((q : PieceKey) (r : Pass S R) → result_of (piece_at q old) ≡ Some r → P q r) → (q : PieceKey) (r : Pass S R) → result_of (piece_at q new) ≡ Some r → P q r
  results_after holds earlier q r some = go (is_at (key_cmp q) key) refl (ap result_of (sym (found q)) ∙ some)
    where
      go : (b : Bool) → is_at (key_cmp q) key ≡ b → result_of (cond b (option_map (with_checked result) (piece_at q old)) (piece_at q old)) ≡ Some r → P q r
      go true at h = subst (λ (k : PieceKey). P k r) (sym (key_exact q key at)) (changed_one holds (piece_at q old) r h)
      go false at h = earlier q r h

abbrev IsSpanAt : InputData → PieceKey → Pass SpanState (List Row) → Type 0
IsSpanAt now key result = IsSpanOf now key.owner key.window result

pub still_sound : (old : SpansData) → IsSound old → (key : PieceKey) (result : Pass SpanState (List Row)) → IsSpanOf (standing old) key.owner key.window result → (board : Board SpanState (List Row))
    → board ≡ with_pieces old.board (change key (with_checked result) old.board.pieces) → IsSound (record { log = old.log; board = board })
still_sound old sound key result of_window board is = record {
  managers = record {
    owners = λ number. ap (λ os. is_some (opening_of number os)) openings ∙ sound.managers.owners number;
    openings = λ number state some areas. sound.managers.openings number state (ap (opening_of number) (sym openings) ∙ some) areas;
  };
  covered = record {
    openings = λ number state some. sound.covered.openings number state (ap (opening_of number) (sym openings) ∙ some);
    windows = λ q owner. (let before = sound.covered.windows q (ap (λ os. is_some (opening_of q.owner os)) (sym openings) ∙ owner) in
        ((λ h. before.0 (sym (there q) ∙ h)), (λ h. there q ∙ before.1 h)));
    results = results_after (IsSpanAt (standing old)) old.board board key result is of_window sound.covered.results;
  };
}
  where
    openings : board.openings ≡ old.board.openings
    openings = same_openings (IsSpanAt (standing old)) old.board board key result is

    there : (q : PieceKey) → is_some (piece_at q board) ≡ is_some (piece_at q old.board)
    there q = still_there (IsSpanAt (standing old)) old.board board key result is q

-- ---- the pass of a window

-- What is checked of a window's present beats from a state of the manager is the pass of the window.
pub checked_span : (now : InputData) (owner window : ℕ) (entry : SpanState) → IsOf (manager_in now owner) entry → (checked : Checked) → IsResult checked → manager_of checked.job ≡ manager_in now owner
    → shown checked.job.entry ≡ shown entry → checked.job.beats ≡ beats_in window (manager_beats now.topo now.fragments owner)
    → IsSpanOf now owner window (record { entry = entry; exit = checked.exit; rows = checked.rows })
checked_span now owner window entry is_of checked is manages begins beats = record {
  entry = shown entry;
  exit = shown checked.exit;
  begins = (is_of, refl);
  ends = (subst (λ m. IsOf m checked.exit) manages is.exit, refl);
  pass = subst (IsPass (judging (manager_in now owner))) bare (subst (λ m. IsPass (judging m) (pass_of checked)) manages is.pass);
}
  where
    bare : pass_of checked ≡ record { entry = shown entry; beats = beats_in window (manager_beats now.topo now.fragments owner); exit = shown checked.exit; rows = checked.rows }
    bare =
        ap (λ s. record { entry = s; beats = checked.job.beats; exit = shown checked.exit; rows = checked.rows }) begins
        ∙ ap (λ ps. record { entry = shown entry; beats = ps; exit = shown checked.exit; rows = checked.rows }) beats

pub areas_found : (regions : List (List (ℕ × Area))) (k : ℕ) (own d : List (ℕ × Area)) → k < length regions → own ≡ get_or regions k d → areas_of own ≡ areas_at regions k
areas_found regions k own d below is = ap areas_of is ∙ sym (ap (λ found. option_map_or areas_of found []) (slice_get-get_or regions k d below))

module _ (inside now : SpansData) (view : inside ≡ now) (sound : IsSound inside) (board : IsBoard inside.board) (key : PieceKey) (there : is_some (piece_at key now.board) ≡ true) where
  pub owner_there : is_some (opening_of key.owner inside.board.openings) ≡ true
  owner_there = owner_of inside.board board key (subst (λ (s : SpansData). is_some (piece_at key s.board) ≡ true) (sym view) there)

  pub owner_below : (topo : Topology) → topo ≡ inside.log.topo → key.owner < length topo.managers
  owner_below topo is =
      let test : nat_lt key.owner (length inside.log.topo.managers) ≡ true = sym (sound.managers.owners key.owner) ∙ owner_there in
      let under : key.owner < length inside.log.topo.managers = grind (arith, nat_tests) in
      subst (λ (t : Topology). key.owner < length t.managers) (sym is) under

-- What is read of a manager's regions and links makes it the manager that stands.
pub same_manager : (now : InputData) (topo : Topology) (owner from : ℕ) (regions : List (List (ℕ × Area))) (own d : List (ℕ × Area)) → topo ≡ now.topo → regions ≡ now.regions → from ≡ owner
    → from < length regions → own ≡ get_or regions from d → manager_at topo owner (areas_of own) ≡ manager_in now owner
same_manager now topo owner from regions own d at_topo at_regions at below is =
    ap (λ t. manager_at t owner (areas_of own)) at_topo
    ∙ ap (manager_at now.topo owner) (areas_found regions from own d below is ∙ ap (areas_at regions) at ∙ ap (λ rs. areas_at rs owner) at_regions)

-- ---- the first that is wanted

pub first_there : {S R : Type 0} (P : Option (ℕ × Option S) → PieceKey → Piece S R → Type 0) (l : Option (ℕ × Option S)) (es : List (PieceKey × Piece S R)) (key : PieceKey) → IsFirst P l es (Some key)
    → is_some (value_at key es) ≡ true
first_there P l [] key h = cc
first_there {S} {R} P l (e ∷ es) key h = elim h [
  | inl here ↦ (let at : e.0 ≡ key = same_key e.0 here.1 in
      let test : is_at (key_cmp key) e.0 ≡ true = ap is_eq (ap (key_cmp key) at ∙ key_self key) in
      ap (λ b. is_some (cond b (Some e.1) (value_at key es))) test)
  | inr later ↦ either (first_there P (left_by e.0 e.1) es key later.1) (is_at (key_cmp key) e.0)
]
  where
    same_key : (k : PieceKey) → Some key ≡ Some k → k ≡ key
    same_key k is = cc

    either : is_some (value_at key es) ≡ true → (b : Bool) → is_some (cond b (Some e.1) (value_at key es)) ≡ true
    either there true = refl
    either there false = there

pub checks : (old now : SpansData) (mid board : Board SpanState (List Row)) (key : PieceKey) (result : Pass SpanState (List Row)) → mid ≡ old.board → old ≡ now → IsSpanOf (standing old) key.owner key.window result
    → entry_for key mid ≡ Some result.entry → board ≡ with_pieces mid (change key (with_checked result) mid.pieces) → ChecksWindow now key (record { log = old.log; board = board })
checks old now mid board key result same view of_window entry is =
    subst (λ (n : SpansData). ChecksWindow n key (record { log = old.log; board = board })) view (record {
      result = result;
      of_window = of_window;
      entry = ap (entry_for key) (sym same) ∙ entry;
      rest = ap (λ (b : Board SpanState (List Row)). record { log = old.log; board = b }) (is ∙ ap (λ (m : Board SpanState (List Row)). with_pieces m (change key (with_checked result) m.pieces)) same);
    })

-- A state that is the same may stand for the one that a window leaves.
pub settled_span : (now : InputData) (owner window : ℕ) (entry exit settled : SpanState) (rows : List Row) → SameSpan exit settled → (IsOf (manager_in now owner) exit → IsOf (manager_in now owner) settled)
    → IsSpanOf now owner window (record { entry = entry; exit = exit; rows = rows }) → IsSpanOf now owner window (record { entry = entry; exit = settled; rows = rows })
settled_span now owner window entry exit settled rows same kept is = record {
  entry = is.entry;
  exit = is.exit;
  begins = is.begins;
  ends = (kept is.ends.0, sym (same_shown exit settled same) ∙ is.ends.1);
  pass = is.pass;
}
