-- What an edit makes of the windows of managers.
use Rattle.std.proofs.Common.{Result, Ok, Err, ◌≡◌, ℕ, ◌⊎◌, inl, inr, ◌==◌, true, false, cond, Bool, List, [], ◌∷◌, ◌++◌, Option, Some, None, length, refl, sym, ap, subst, ◌∙◌, arith, eqb-true, Ordering, Less, Equal, Greater, ◌<◌, nat_lt}
use Rattle.std.specs.Prelude.{◌↔◌, is_some}
use Rattle.std.specs.Ordering.{is_eq}
use Rattle.std.specs.BTreeMap.{is_at}
use Rattle.std.specs.List.{Contains, AllByRecursion}
use Rattle.std.specs.Ordering.{ordering_reverse}
use Rattle.std.proofs.lemmas.Map.{lookup-none}
use Rattle.std.proofs.lemmas.Map.Entries.{none_below_head}
use Rattle.std.proofs.lemmas.Map.Keys.{sorted_head, sorted_tail}
use Rattle.std.specs.Map.{keys_of}
use Rattle.std.specs.Result.{OnOk, is_err}
use Rattle.std.proofs.lemmas.Bool.Decides.{nat_tests}
use Rattle.tl_topology.specs.Topology.{Topology}
use Rattle.tl_beats.specs.declared.Placed.{Placed}
use Rattle.tl_beats.specs.declared.Row.{Row}
use Rattle.tl_definitions.specs.Captures.{manager_beats}
use Rattle.tl_definitions.specs.Judging.{judging}
use Rattle.tl_definitions.specs.Managers.{declared_links, manager_at}
use Rattle.tl_definitions.specs.Passes.{IsPass}
use Rattle.tl_definitions.specs.Positions.{Recorded, beats_of_all, clients_of}
use Rattle.tl_definitions.specs.Rules.{Manager}
use Rattle.tl_definitions.proofs.Lists.{contains_none, contains_here, contains_there, contains_cases}
use Rattle.tl_edits.specs.Edits.{AnEdit}
use Rattle.tl_edits.specs.Inputs.{InputData, changed}
use Rattle.tl_edits.specs.Log.{LogData, changed_by, inputs_after}
use Rattle.tl_pieces.specs.declared.key.PieceKey.{PieceKey}
use Rattle.tl_pieces.specs.Keys.{key_cmp, value_at, Rises}
use Rattle.tl_pieces.specs.Pieces.{Piece, Pass, Board, empty, opening_of, piece_at, result_of, live_of, touched_all, with_pieces}
use Rattle.tl_pieces.proofs.KeyLemmas.{key_exact, key_self, key_total}
use Rattle.tl_check.specs.Captured.{areas_at}
use Rattle.tl_check.specs.States.{IsOf, StandsFor}
use Rattle.tl_check.specs.declared.state.SpanState.{SpanState}
use Rattle.tl_capture.specs.Present.{IsPresent}
use Rattle.tl_capture.specs.Windows.{beats_in, HasBeat}
use Rattle.tl_board.specs.Edits.{EditsTo}
use Rattle.tl_board.specs.Spans.{SpansData, standing, manager_in, IsSpanOf, AreSpans, HasManagers, IsSound}
use Rattle.tl_board.specs.Touch.{Touches}
use Rattle.tl_board.specs.Touched.{names}
use Rattle.tl_board.specs.declared.touched.Touched.TheVariants as touched
use Rattle.tl_board.specs.Windows.{AreKeysOf, IsGrown, HasAll, IsPruned, AreBlank, blank}
use Rattle.tl_board.proofs.WindowLemmas.{none_of}
use Rattle.tl_board.proofs.TouchLemmas.{untouched_beats, untouched_window, untouched_regions, regions_are_touched, same_topology}

changed_more : (now : InputData) (es fs : List AnEdit) → changed_by now (es ++ fs) ≡ changed_by (changed_by now es) fs
changed_more now [] fs = refl
changed_more now (e ∷ es) fs = changed_more (changed now e) es fs

-- ---- results of windows that an edit leaves

span_kept : (now after : InputData) (manager window : ℕ) (result : Pass SpanState (List Row)) → manager_in after manager ≡ manager_in now manager
    → beats_in window (manager_beats after.topo after.fragments manager) ≡ beats_in window (manager_beats now.topo now.fragments manager) → IsSpanOf now manager window result → IsSpanOf after manager window result
span_kept now after manager window result same beats is = record {
  entry = is.entry;
  exit = is.exit;
  begins = (subst (λ (m : Manager). IsOf m result.entry) (sym same) is.begins.0, is.begins.1);
  ends = (subst (λ (m : Manager). IsOf m result.exit) (sym same) is.ends.0, is.ends.1);
  pass = subst (λ (m : Manager). IsPass (judging m) (record { entry = is.entry; beats = beats_in window (manager_beats after.topo after.fragments manager); exit = is.exit; rows = result.rows })) (sym same)
      (subst (λ ps. IsPass (judging (manager_in now manager)) (record { entry = is.entry; beats = ps; exit = is.exit; rows = result.rows })) (sym beats) is.pass);
}

-- ---- the windows after one edit more

pub stands : (old : SpansData) (e : AnEdit) (log : LogData) (board : Board SpanState (List Row)) → log ≡ record old.log { edits = old.log.edits ++ e ∷ [] }
    → standing (record { log = log; board = board }) ≡ changed (standing old) e
stands old e log board one_more = ap (λ (l : LogData). inputs_after l.topo l.edits) one_more ∙ changed_more _ old.log.edits (e ∷ [])

module _ (old : SpansData) (sound : IsSound old) (e : AnEdit) (topo : (standing old).topo ≡ old.log.topo) (before : IsPresent (standing old).fragments) (N : ℕ → ℕ → Type 0) (is : (number window : ℕ) → Touches (standing old) e number window ↔ N number window)
    (log : LogData) (one_more : log ≡ record old.log { edits = old.log.edits ++ e ∷ [] }) (board : Board SpanState (List Row)) (openings : board.openings ≡ old.board.openings)
    (decide : (key : PieceKey) → N key.owner key.window ⊎ (N key.owner key.window → ⊥))
    (stays : (key : PieceKey) → (N key.owner key.window → ⊥) → piece_at key board ≡ piece_at key old.board)
    (none : (key : PieceKey) → N key.owner key.window → result_of (piece_at key board) ≡ None) where
  away : (key : PieceKey) → (N key.owner key.window → ⊥) → Touches (standing old) e key.owner key.window → ⊥
  away key not touches = not ((is key.owner key.window).0 touches)

  same_manager : (key : PieceKey) → (N key.owner key.window → ⊥) → manager_in (changed (standing old) e) key.owner ≡ manager_in (standing old) key.owner
  same_manager key not =
      ap (λ (p : Topology). manager_at p key.owner (areas_at (changed (standing old) e).regions key.owner)) (same_topology (standing old) e)
      ∙ ap (manager_at (standing old).topo key.owner) (untouched_regions (standing old) e key.owner (λ touches. away key not (regions_are_touched (standing old) e key.owner key.window touches)))

  pub edits_to : ((key : PieceKey) → N key.owner key.window → live_of (piece_at key board) ≡ None) → EditsTo old e (record { log = log; board = board })
  edits_to ticket = record {
    log = one_more;
    openings = openings;
    stays = λ key not. stays key (λ named. not ((is key.owner key.window).1 named));
    result = λ key touches. none key ((is key.owner key.window).0 touches);
    ticket = λ key touches. ticket key ((is key.owner key.window).0 touches);
  }

  pub sound_after : IsPresent (changed (standing old) e).fragments
      → ((key : PieceKey) → N key.owner key.window → is_some (opening_of key.owner board.openings) ≡ true
      → (is_some (piece_at key board) ≡ true) ↔ HasBeat (manager_beats (changed (standing old) e).topo (changed (standing old) e).fragments key.owner) key.window)
      → IsSound (record { log = log; board = board })
  sound_after present there = record {
    managers = subst (λ (l : LogData). HasManagers l.topo (length l.topo.managers) board) (sym one_more) (record {
      owners = λ number. ap (λ os. is_some (opening_of number os)) openings ∙ sound.managers.owners number;
      openings = λ number state some areas. sound.managers.openings number state (ap (opening_of number) (sym openings) ∙ some) areas;
    });
    covered = subst (λ now. AreSpans now board) (sym (stands old e log board one_more)) (record {
      openings = λ number state some.
          (let opens = sound.managers.openings number state (ap (opening_of number) (sym openings) ∙ some) (areas_at (changed (standing old) e).regions number) in
          let at : manager_in (changed (standing old) e) number ≡ manager_at old.log.topo number (areas_at (changed (standing old) e).regions number) =
          ap (λ (p : Topology). manager_at p number (areas_at (changed (standing old) e).regions number)) (same_topology (standing old) e ∙ topo) in
          let moved = subst (λ (m : Manager). StandsFor m state []) (sym at) opens in (moved.is_of, moved.shows));
      windows = λ key owner. elim (decide key) [
        | inl named ↦ there key named owner
        | inr not ↦ (let was = sound.covered.windows key (ap (λ os. is_some (opening_of key.owner os)) (sym openings) ∙ owner) in
            let same = untouched_window (standing old) key.owner key.window e before present (away key not) in
            let still : is_some (piece_at key board) ≡ is_some (piece_at key old.board) = ap is_some (stays key not) in
            ((λ h. same.1 (was.0 (sym still ∙ h))), (λ h. still ∙ was.1 (same.0 h))))
      ];
      results = λ key result some. elim (decide key) [
        | inl named ↦ absurd (let never : None ≡ Some result = sym (none key named) ∙ some in cc)
        | inr not ↦ span_kept (standing old) (changed (standing old) e) key.owner key.window result (same_manager key not)
            (untouched_beats (standing old) key.owner key.window e before present (away key not)) (sound.covered.results key result (ap result_of (sym (stays key not)) ∙ some))
      ];
    });
  }

-- ---- an edit that touches nothing

-- No window is touched.
pub none_touched : (key : PieceKey) → names touched.Nothing key.owner key.window ⊎ (names touched.Nothing key.owner key.window → ⊥)
none_touched key = inr (λ named. named)

-- ---- an edit that touches all windows of a manager

pub all_touched : (manager : ℕ) (key : PieceKey) → names (touched.All manager) key.owner key.window ⊎ (names (touched.All manager) key.owner key.window → ⊥)
all_touched manager key = elim (key.owner == manager) as (λ b. (key.owner == manager) ≡ b → (key.owner ≡ manager) ⊎ (key.owner ≡ manager → ⊥)) [
  | true ↦ λ t. inl (eqb-true key.owner manager t)
  | false ↦ λ t. inr (λ same. let test : (key.owner == manager) ≡ true = grind (arith, nat_tests) in cc)
] refl

module _ {S R : Type 0} (owner : ℕ) where
  all_at : (es : List (PieceKey × Piece S R)) (key : PieceKey) → value_at key (touched_all owner es) ≡ cond (key.owner == owner) (blank (value_at key es)) (value_at key es)
  all_at [] key = elim (key.owner == owner) as (λ b. None ≡ cond b (blank {S = S} {R = R} None) None) [ true ↦ refl | false ↦ refl ]
  all_at (e ∷ es) key = go (is_at (key_cmp key) e.0) refl (all_at es key)
    where
      go : (b : Bool) → is_at (key_cmp key) e.0 ≡ b → value_at key (touched_all owner es) ≡ cond (key.owner == owner) (blank (value_at key es)) (value_at key es)
          → cond b (Some (cond (e.0.owner == owner) empty e.1)) (value_at key (touched_all owner es)) ≡ cond (key.owner == owner) (blank (cond b (Some e.1) (value_at key es))) (cond b (Some e.1) (value_at key es))
      go true at later = ap (λ (k : PieceKey). Some (cond (k.owner == owner) empty e.1)) (sym (key_exact key e.0 at)) ∙ elim (key.owner == owner) as (λ b. Some (cond b empty e.1) ≡ cond b (Some empty) (Some e.1)) [ true ↦ refl | false ↦ refl ]
      go false at later = later

  module _ (old new : Board S R) (is : new ≡ with_pieces old (touched_all owner old.pieces)) where
    pub all_openings : new.openings ≡ old.openings
    all_openings = ap (λ (b : Board S R). b.openings) is

    at : (key : PieceKey) → piece_at key new ≡ cond (key.owner == owner) (blank (piece_at key old)) (piece_at key old)
    at key = ap (λ (b : Board S R). piece_at key b) is ∙ all_at old.pieces key

    pub all_stay : (key : PieceKey) → (key.owner ≡ owner → ⊥) → piece_at key new ≡ piece_at key old
    all_stay key not = go (key.owner == owner) refl (at key)
      where
        go : (b : Bool) → (key.owner == owner) ≡ b → piece_at key new ≡ cond b (blank (piece_at key old)) (piece_at key old) → piece_at key new ≡ piece_at key old
        go true t h = absurd (not (eqb-true key.owner owner t))
        go false t h = h

    pub all_blank : (key : PieceKey) → key.owner ≡ owner → piece_at key new ≡ blank (piece_at key old)
    all_blank key same = let test : (key.owner == owner) ≡ true = grind (arith, nat_tests) in at key ∙ ap (λ b. cond b (blank (piece_at key old)) (piece_at key old)) test

-- What is left of a piece that lost its result.
module _ {S R : Type 0} where
  pub blank_result : (x : Option (Piece S R)) → result_of (blank x) ≡ None
  blank_result None = refl
  blank_result (Some x) = refl

  pub blank_ticket : (x : Option (Piece S R)) → live_of (blank x) ≡ None
  blank_ticket None = refl
  blank_ticket (Some x) = refl

  pub blank_there : (x : Option (Piece S R)) → is_some (blank x) ≡ is_some x
  blank_there None = refl
  blank_there (Some x) = refl

-- Where an edit leaves all beats, a window has one as before.
pub beats_left : (now : InputData) (e : AnEdit) (manager window : ℕ) → (changed now e).fragments ≡ now.fragments
    → HasBeat (manager_beats (changed now e).topo (changed now e).fragments manager) window ↔ HasBeat (manager_beats now.topo now.fragments manager) window
beats_left now e manager window left =
    let same : manager_beats (changed now e).topo (changed now e).fragments manager ≡ manager_beats now.topo now.fragments manager =
    ap (λ (p : Topology). manager_beats p (changed now e).fragments manager) (same_topology now e) ∙ ap (λ fs. manager_beats now.topo fs manager) left in
    ((λ h. subst (λ ps. HasBeat ps window) same h), (λ h. subst (λ ps. HasBeat ps window) (sym same) h))

-- ---- an edit that touches some windows of a manager

contains_or_not : (xs : List ℕ) (x : ℕ) → Contains xs x ⊎ (Contains xs x → ⊥)
contains_or_not [] x = inr (contains_none x)
contains_or_not (y ∷ xs) x = elim (y == x) as (λ b. (y == x) ≡ b → Contains (y ∷ xs) x ⊎ (Contains (y ∷ xs) x → ⊥)) [
  | true ↦ λ t. inl (subst (Contains (y ∷ xs)) (eqb-true y x t) (contains_here y xs))
  | false ↦ λ t. elim (contains_or_not xs x) [
    | inl there ↦ inl (contains_there y xs x there)
    | inr not ↦ inr (λ h. elim (contains_cases y xs x h) [
      | inl same ↦ (let test : (y == x) ≡ true = grind (arith, nat_tests) in cc)
      | inr there ↦ not there
    ])
  ]
] refl

-- Of some keys each is one, or isn't.
pub key_or_not : (keys : List PieceKey) (key : PieceKey) → Contains keys key ⊎ (Contains keys key → ⊥)
key_or_not [] key = inr (contains_none key)
key_or_not (k ∷ keys) key = elim (is_at (key_cmp k) key) as (λ b. is_at (key_cmp k) key ≡ b → Contains (k ∷ keys) key ⊎ (Contains (k ∷ keys) key → ⊥)) [
  | true ↦ λ t. inl (subst (Contains (k ∷ keys)) (key_exact k key t) (contains_here k keys))
  | false ↦ λ t. elim (key_or_not keys key) [
    | inl there ↦ inl (contains_there k keys key there)
    | inr not ↦ inr (λ h. elim (contains_cases k keys key h) [
      | inl same ↦ (let here : is_at (key_cmp k) key ≡ true = subst (λ q. is_at (key_cmp k) q ≡ true) same (ap is_eq (key_self k)) in let never : true ≡ false = sym here ∙ t in cc)
      | inr there ↦ not there
    ])
  ]
] refl

-- Of a manager's windows each key is one, or isn't.
pub own_or_not : (owner : ℕ) (windows : List ℕ) (key : PieceKey) → ((key.owner ≡ owner) × Contains windows key.window) ⊎ (((key.owner ≡ owner) × Contains windows key.window) → ⊥)
own_or_not owner windows key = elim (all_touched owner key) [
  | inl same ↦ elim (contains_or_not windows key.window) [ inl has ↦ inl (same, has) | inr not ↦ inr (λ own. not own.1) ]
  | inr other ↦ inr (λ own. other own.0)
]

-- The keys of one owner.
pub of_one_owner : (owner : ℕ) (windows : List ℕ) (keys : List PieceKey) → AreKeysOf (owner ∷ []) windows keys → (key : PieceKey) → Contains keys key ↔ ((key.owner ≡ owner) × Contains windows key.window)
of_one_owner owner windows keys are key = (
  (λ h. let known = (are key).0 h in elim (contains_cases owner [] key.owner known.0) [
    | inl same ↦ (sym same, known.1)
    | inr none ↦ absurd (contains_none key.owner none)
  ]),
  (λ own. (are key).1 (subst (Contains (owner ∷ [])) (sym own.0) (contains_here owner []), own.1)),
)

module _ {S R : Type 0} (keys : List PieceKey) (P : ℕ → Type 0) (old grown pruned : Board S R) (grows : IsGrown keys old grown) (prunes : IsPruned P keys grown pruned) where
  stays_grown : (key : PieceKey) → (Contains keys key → ⊥) → piece_at key grown ≡ piece_at key old
  stays_grown key not = elim (grows.pieces key) [ inl same ↦ same | inr came ↦ absurd (not came.0) ]

  pub stays_pruned : (key : PieceKey) → (Contains keys key → ⊥) → piece_at key pruned ≡ piece_at key old
  stays_pruned key not = prunes.stays key (λ among. absurd (not among)) ∙ stays_grown key not

  pub pruned_openings : pruned.openings ≡ old.openings
  pruned_openings = prunes.openings ∙ grows.openings

  -- What has come for a key goes again, where P isn't true of it; of a key that had a piece it is true.
  back : (key : PieceKey) → (is_some (piece_at key old) ≡ true → P key.window) → (P key.window → is_some (piece_at key old) ≡ true) → (is_some (piece_at key pruned) ≡ true → P key.window)
      → piece_at key pruned ≡ piece_at key old
  back key has was left = elim (is_some (piece_at key old)) as (λ b. is_some (piece_at key old) ≡ b → piece_at key pruned ≡ piece_at key old) [
    | true ↦ λ t. prunes.stays key (λ _. has t) ∙ elim (grows.pieces key) [
      | inl same ↦ same
      | inr came ↦ absurd (let never : false ≡ true = sym (ap is_some came.1) ∙ t in cc)
    ]
    | false ↦ λ t. elim (is_some (piece_at key pruned)) as (λ b. is_some (piece_at key pruned) ≡ b → piece_at key pruned ≡ piece_at key old) [
      | true ↦ λ u. absurd (let never : true ≡ false = sym (was (left u)) ∙ t in cc)
      | false ↦ λ u. none_of (piece_at key pruned) u ∙ sym (none_of (piece_at key old) t)
    ] refl
  ] refl

  -- Where P is true of exactly the windows of these keys that had a piece, all is as it was.
  pub as_it_was : ((key : PieceKey) → Contains keys key → (is_some (piece_at key old) ≡ true) ↔ P key.window) → (key : PieceKey) → Contains keys key ⊎ (Contains keys key → ⊥) → piece_at key pruned ≡ piece_at key old
  as_it_was was key (inl among) = back key (was key among).0 (was key among).1 (prunes.left key among)
  as_it_was was key (inr not) = stays_pruned key not

  module _ (new : Board S R) (blanks : AreBlank keys pruned new) where
    pub windows_openings : new.openings ≡ old.openings
    windows_openings = blanks.openings ∙ pruned_openings

    pub windows_stay : (key : PieceKey) → (Contains keys key → ⊥) → piece_at key new ≡ piece_at key old
    windows_stay key not = blanks.stays key not ∙ stays_pruned key not

    pub windows_result : (key : PieceKey) → Contains keys key → result_of (piece_at key new) ≡ None
    windows_result key among = ap result_of (blanks.these key among) ∙ blank_result (piece_at key pruned)

    pub windows_ticket : (key : PieceKey) → Contains keys key → live_of (piece_at key new) ≡ None
    windows_ticket key among = ap live_of (blanks.these key among) ∙ blank_ticket (piece_at key pruned)

    pub windows_there : HasAll keys grown → (key : PieceKey) → Contains keys key → (is_some (piece_at key new) ≡ true) ↔ P key.window
    windows_there all key among =
        let same : is_some (piece_at key new) ≡ is_some (piece_at key pruned) = ap is_some (blanks.these key among) ∙ blank_there (piece_at key pruned) in (
          (λ h. prunes.left key among (sym same ∙ h)),
          (λ holds. same ∙ ap is_some (prunes.stays key (λ _. holds)) ∙ all key among),
        )

-- ---- lists of entries that find the same are the same

above_none : {V : Type 0} (k : PieceKey) (es : List (PieceKey × V)) → Rises es → AllByRecursion (λ q. key_cmp k q ≡ Less) (keys_of es) → value_at k es ≡ None
above_none k [] s a = refl
above_none k (e ∷ es) s a = lookup-none (is_at (key_cmp k)) (e ∷ es) (none_below_head key_total k e es s a.0)

found_head : {V : Type 0} (e : PieceKey × V) (es : List (PieceKey × V)) → value_at e.0 (e ∷ es) ≡ Some e.1
found_head e es = ap (λ b. cond b (Some e.1) (value_at e.0 es)) (ap is_eq (key_self e.0))

pub same_entries : {V : Type 0} (xs ys : List (PieceKey × V)) → Rises xs → Rises ys → ((k : PieceKey) → value_at k xs ≡ value_at k ys) → xs ≡ ys
same_entries [] [] a b same = refl
same_entries [] (y ∷ ys) a b same = absurd (let never : None ≡ Some y.1 = same y.0 ∙ found_head y ys in cc)
same_entries (x ∷ xs) [] a b same = absurd (let never : None ≡ Some x.1 = sym (same x.0) ∙ found_head x xs in cc)
same_entries {V} (x ∷ xs) (y ∷ ys) a b same = go (same_entries xs ys (sorted_tail key_cmp x.0 (keys_of xs) a) (sorted_tail key_cmp y.0 (keys_of ys) b)) (key_cmp x.0 y.0) refl
  where
    first_none : (k : PieceKey) (e : PieceKey × V) (es : List (PieceKey × V)) → Rises (e ∷ es) → key_cmp k e.0 ≡ Less → value_at k (e ∷ es) ≡ None
    first_none k e es s lt = lookup-none (is_at (key_cmp k)) (e ∷ es) (none_below_head key_total k e es s lt)

    rest : (e : PieceKey × V) (es : List (PieceKey × V)) → Rises (e ∷ es) → value_at e.0 es ≡ None
    rest e es s = above_none e.0 es (sorted_tail key_cmp e.0 (keys_of es) s) (sorted_head key_cmp e.0 (keys_of es) s)

    tails : x.0 ≡ y.0 → (k : PieceKey) → value_at k xs ≡ value_at k ys
    tails at k = elim (is_at (key_cmp k) x.0) as (λ t. is_at (key_cmp k) x.0 ≡ t → value_at k xs ≡ value_at k ys) [
      | true ↦ λ t. (let here : k ≡ x.0 = key_exact k x.0 t in
          ap (λ q. value_at q xs) here ∙ rest x xs a ∙ sym (ap (λ q. value_at q ys) (here ∙ at) ∙ rest y ys b))
      | false ↦ λ t. (let there : is_at (key_cmp k) y.0 ≡ false = subst (λ q. is_at (key_cmp k) q ≡ false) at t in
          sym (ap (λ c. cond c (Some x.1) (value_at k xs)) t) ∙ same k ∙ ap (λ c. cond c (Some y.1) (value_at k ys)) there)
    ] refl

    go : (((k : PieceKey) → value_at k xs ≡ value_at k ys) → xs ≡ ys) → (o : Ordering) → key_cmp x.0 y.0 ≡ o → x ∷ xs ≡ y ∷ ys
    go later Less e = absurd (let never : None ≡ Some x.1 = sym (first_none x.0 y ys b e) ∙ sym (same x.0) ∙ found_head x xs in cc)
    go later Equal e =
        let at : x.0 ≡ y.0 = key_exact x.0 y.0 (ap is_eq e) in
        let values : Some x.1 ≡ Some y.1 = sym (found_head x xs) ∙ same x.0 ∙ ap (λ q. value_at q (y ∷ ys)) at ∙ found_head y ys in
        let value : x.1 ≡ y.1 = cc in
        ap (λ (q : PieceKey). (q, x.1) ∷ xs) at ∙ ap (λ (v : V). (y.0, v) ∷ xs) value ∙ ap (λ t. y ∷ t) (later (tails at))
    go later Greater e =
        let lower : key_cmp y.0 x.0 ≡ Less = key_total.antisymm y.0 x.0 ∙ ap ordering_reverse e in
        absurd (let never : None ≡ Some y.1 = sym (first_none y.0 x xs a lower) ∙ same y.0 ∙ found_head y ys in cc)

pub same_boards : {S R : Type 0} (one two : Board S R) → Rises one.pieces → Rises two.pieces → one.openings ≡ two.openings → ((k : PieceKey) → piece_at k one ≡ piece_at k two) → one ≡ two
same_boards one two a b openings same =
    ap (λ os. record { openings = os; pieces = one.pieces }) openings ∙ ap (λ es. record { openings = two.openings; pieces = es }) (same_entries one.pieces two.pieces a b same)

-- ---- beats of a manager, as they are read

pub read_beats : (topo read : Topology) (manager owner : ℕ) (links : List ℕ) (fs gs : List Recorded) → read ≡ topo → owner ≡ manager → links ≡ clients_of manager (declared_links read) → fs ≡ gs
    → beats_of_all links fs ≡ manager_beats topo gs owner
read_beats topo read manager owner links fs gs at own is same =
    ap (λ ls. beats_of_all ls fs) (is ∙ ap (λ (t : Topology). clients_of manager (declared_links t)) at ∙ ap (λ n. clients_of n (declared_links topo)) (sym own)) ∙ ap (λ xs. beats_of_all (clients_of owner (declared_links topo)) xs) same

-- Where an edit isn't accepted, the pieces that have come for it go again.
pub restored : {S R : Type 0} (keys : List PieceKey) (P : ℕ → Type 0) (old grown pruned : Board S R) → IsGrown keys old grown → IsPruned P keys grown pruned
    → ((key : PieceKey) → Contains keys key → (is_some (piece_at key old) ≡ true) ↔ P key.window) → Rises old.pieces → Rises pruned.pieces → pruned ≡ old
restored keys P old grown pruned grows prunes was a b =
    same_boards pruned old b a (pruned_openings keys P old grown pruned grows prunes) (λ key. as_it_was keys P old grown pruned grows prunes was key (key_or_not keys key))

-- The windows of a manager that have a piece are those in which it has a beat.
pub had_beats : (old : SpansData) → IsSound old → (owner : ℕ) → is_some (opening_of owner old.board.openings) ≡ true → (ps : List Placed) → ps ≡ manager_beats (standing old).topo (standing old).fragments owner
    → (key : PieceKey) → key.owner ≡ owner → (is_some (piece_at key old.board) ≡ true) ↔ HasBeat ps key.window
had_beats old sound owner there ps is key same =
    let own : is_some (opening_of key.owner old.board.openings) ≡ true = ap (λ o. is_some (opening_of o old.board.openings)) same ∙ there in
    let beats : ps ≡ manager_beats (standing old).topo (standing old).fragments key.owner = is ∙ ap (manager_beats (standing old).topo (standing old).fragments) (sym same) in
    let was = sound.covered.windows key own in
    ((λ h. subst (λ qs. HasBeat qs key.window) (sym beats) (was.0 h)), (λ h. was.1 (subst (λ qs. HasBeat qs key.window) beats h)))

-- A manager has its opening state.
pub manager_there : (old : SpansData) → IsSound old → (standing old).topo ≡ old.log.topo → (manager owner : ℕ) → owner ≡ manager → manager < length (standing old).topo.managers
    → is_some (opening_of owner old.board.openings) ≡ true
manager_there old sound topo manager owner own below =
    let under : owner < length old.log.topo.managers = subst (λ (t : Topology). owner < length t.managers) topo (subst (λ n. n < length (standing old).topo.managers) (sym own) below) in
    let test : nat_lt owner (length old.log.topo.managers) ≡ true = grind (arith, nat_tests) in
    sound.managers.owners owner ∙ test

-- Where an edit of some windows of a manager isn't accepted, the pieces that have come for it go again.
pub gone_again : (old : SpansData) → IsSound old → (standing old).topo ≡ old.log.topo → (manager owner : ℕ) → owner ≡ manager → manager < length (standing old).topo.managers
    → (read : Topology) (links : List ℕ) (fs : List Recorded) → read ≡ (standing old).topo → links ≡ clients_of manager (declared_links read) → fs ≡ (standing old).fragments
    → (windows : List ℕ) (keys : List PieceKey) → AreKeysOf (owner ∷ []) windows keys → (grown pruned : Board SpanState (List Row)) → IsGrown keys old.board grown → IsPruned (HasBeat (beats_of_all links fs)) keys grown pruned
    → Rises old.board.pieces → Rises pruned.pieces → pruned ≡ old.board
gone_again old sound topo manager owner own below read links fs at is same windows keys are grown pruned grows prunes a b =
    let there = manager_there old sound topo manager owner own below in
    let of_one = of_one_owner owner windows keys are in
    restored keys (HasBeat (beats_of_all links fs)) old.board grown pruned grows prunes
    (λ key has. had_beats old sound owner there (beats_of_all links fs) (read_beats (standing old).topo read manager owner links fs (standing old).fragments at own is same) key ((of_one key).0 has).0) a b

-- Where it is, they come and stay, and none of the manager's windows that it touches keeps its result.
module _ (old : SpansData) (sound : IsSound old) (e : AnEdit) (topo : (standing old).topo ≡ old.log.topo) (before : IsPresent (standing old).fragments) (owner : ℕ) (windows : List ℕ) (keys : List PieceKey) (are : AreKeysOf (owner ∷ []) windows keys)
    (is : (number window : ℕ) → Touches (standing old) e number window ↔ ((number ≡ owner) × Contains windows window)) (log : LogData) (one_more : log ≡ record old.log { edits = old.log.edits ++ e ∷ [] })
    (ps : List Placed) (grown pruned new : Board SpanState (List Row)) (grows : IsGrown keys old.board grown) (prunes : IsPruned (HasBeat ps) keys grown pruned) (blanks : AreBlank keys pruned new) where
  abbrev among : PieceKey → Type 0
  among key = (key.owner ≡ owner) × Contains windows key.window

  one : (key : PieceKey) → Contains keys key ↔ among key
  one = of_one_owner owner windows keys are

  stay : (key : PieceKey) → (among key → ⊥) → piece_at key new ≡ piece_at key old.board
  stay key not = windows_stay keys (HasBeat ps) old.board grown pruned grows prunes new blanks key (λ has. not ((one key).0 has))

  openings : new.openings ≡ old.board.openings
  openings = windows_openings keys (HasBeat ps) old.board grown pruned grows prunes new blanks

  result : (key : PieceKey) → among key → result_of (piece_at key new) ≡ None
  result key own = windows_result keys (HasBeat ps) old.board grown pruned grows prunes new blanks key ((one key).1 own)

  pub windows_edited : EditsTo old e (record { log = log; board = new })
  windows_edited = edits_to old sound e topo before (λ number window. (number ≡ owner) × Contains windows window) is log one_more new openings (own_or_not owner windows) stay result
      (λ key own. windows_ticket keys (HasBeat ps) old.board grown pruned grows prunes new blanks key ((one key).1 own))

  pub windows_sound : IsPresent (changed (standing old) e).fragments → ps ≡ manager_beats (changed (standing old) e).topo (changed (standing old) e).fragments owner → HasAll keys grown
      → IsSound (record { log = log; board = new })
  windows_sound after beats all = sound_after old sound e topo before (λ number window. (number ≡ owner) × Contains windows window) is log one_more new openings (own_or_not owner windows) stay result after (λ key own _.
      let has = windows_there keys (HasBeat ps) old.board grown pruned grows prunes new blanks all key ((one key).1 own) in
      let same : ps ≡ manager_beats (changed (standing old) e).topo (changed (standing old) e).fragments key.owner = beats ∙ ap (manager_beats (changed (standing old) e).topo (changed (standing old) e).fragments) (sym own.0) in
      ((λ h. subst (λ qs. HasBeat qs key.window) same (has.0 h)), (λ h. has.1 (subst (λ qs. HasBeat qs key.window) (sym same) h))))

pub on_ok : {T E : Type 0} (r : Result T E) (P : Type 0) → OnOk r P → is_err r ≡ false → P
on_ok (Ok x) P h not = h
on_ok (Err e) P h not = cc
