-- Results that stand in a chain have the rows of all their owner's beats.
use Rattle.std.proofs.Common.{◌≡◌, ℕ, ◌==◌, inl, inr, true, false, cond, List, [], ◌∷◌, ◌++◌, Option, Some, None, refl, sym, ap, subst, ◌∙◌, arith, eqb-true, Less, Equal}
use Rattle.std.specs.Prelude.{◌↔◌, map, is_some}
use Rattle.std.specs.Ordering.{nat_cmp, ordering_then}
use Rattle.tl_definitions.proofs.OrderLaws.{tied}
use Rattle.std.specs.List.{Contains, AllByRecursion}
use Rattle.std.specs.List.Sorted.{IsStrictlySortedBy}
use Rattle.std.specs.Map.{keys_of}
use Rattle.std.specs.BTreeMap.{is_at}
use Rattle.std.proofs.lemmas.Bool.Decides.{nat_tests}
use Rattle.std.proofs.lemmas.Cmp.{eq_by_cmp_equiv}
use Rattle.std.proofs.lemmas.Map.Keys.{IsDistinct-from_sorted}
use Rattle.std.specs.Cmp.{IsEquivalence}
use Rattle.std.specs.List.{IsDistinct}
use Rattle.std.proofs.lemmas.Map.Views.{Contains-from_lookup, lookup-from_Contains}
use Rattle.tl_pieces.proofs.KeyLemmas.{key_exact, key_total}
use Rattle.tl_beats.specs.declared.Placed.{Placed}
use Rattle.tl_beats.specs.declared.Row.{Row}
use Rattle.tl_definitions.specs.Passes.{Judge, Pass, IsChain, SomeHas, rows_judged, pass_beats}
use Rattle.tl_definitions.proofs.ChainLaws.{chain_has, chain_from}
use Rattle.tl_definitions.proofs.Lists.{contains_none, contains_here, contains_there, contains_cases, contains_mapped, mapped_from, all_by}
use Rattle.tl_pieces.specs.declared.key.PieceKey.{PieceKey}
use Rattle.tl_pieces.specs.Keys.{key_cmp, owned_by, Rises}
use Rattle.tl_pieces.specs.Pieces.{Piece, Board, Links, IsBoard, EachOwnerIsChained, opening_of, piece_at, result_of}
use Rattle.tl_pieces.specs.Pieces as pieces
use Rattle.tl_capture.specs.Windows.{beats_in, joined, AreWindows, HasBeat}
use Rattle.tl_board.specs.Covers.{IsOfWindow, Covers, HasRow}

-- ---- the entries of one owner

module _ {V : Type 0} (o : ℕ) where
  pub owned_from : (es : List (PieceKey × V)) (e : PieceKey × V) → Contains (owned_by o es) e → Contains es e × (e.0.owner ≡ o)
  owned_from [] e h = absurd (contains_none e h)
  owned_from (x ∷ es) e h = elim (x.0.owner == o) as (λ b. (x.0.owner == o) ≡ b → Contains (cond b (x ∷ owned_by o es) (owned_by o es)) e → Contains (x ∷ es) e × (e.0.owner ≡ o)) [
    | true ↦ λ t g. elim (contains_cases x (owned_by o es) e g) [
      | inl is ↦ (subst (Contains (x ∷ es)) is (contains_here x es), ap (λ (y : PieceKey × V). y.0.owner) (sym is) ∙ eqb-true x.0.owner o t)
      | inr there ↦ (let known = owned_from es e there in (contains_there x es e known.0, known.1))
    ]
    | false ↦ λ t g. (let known = owned_from es e g in (contains_there x es e known.0, known.1))
  ] refl h

  pub owned_has : (es : List (PieceKey × V)) (e : PieceKey × V) → Contains es e → e.0.owner ≡ o → Contains (owned_by o es) e
  owned_has [] e h own = absurd (contains_none e h)
  owned_has (x ∷ es) e h own = elim (contains_cases x es e h) [
    | inl is ↦ (let test : (x.0.owner == o) ≡ true = (let at : x.0.owner ≡ o = ap (λ (y : PieceKey × V). y.0.owner) is ∙ own in grind (arith, nat_tests)) in
        subst (λ b. Contains (cond b (x ∷ owned_by o es) (owned_by o es)) e) (sym test) (subst (Contains (x ∷ owned_by o es)) is (contains_here x (owned_by o es))))
    | inr there ↦ elim (x.0.owner == o) as (λ b. Contains (cond b (x ∷ owned_by o es) (owned_by o es)) e) [
      | true ↦ contains_there x (owned_by o es) e (owned_has es e there own)
      | false ↦ owned_has es e there own
    ]
  ]

-- windows of an owner's entries rise with their keys
less_window : (x y : PieceKey) (o : ℕ) → x.owner ≡ o → y.owner ≡ o → key_cmp x y ≡ Less → nat_cmp x.window y.window ≡ Less
less_window x y o here there less =
    let tie : nat_cmp x.owner y.owner ≡ Equal = tied x.owner y.owner (here ∙ sym there) in
    sym (ap (λ c. ordering_then c (nat_cmp x.window y.window)) tie) ∙ less

pub some_of : {A : Type 0} (found : Option A) → is_some found ≡ true → (x : A) × (found ≡ Some x)
some_of None h = cc
some_of (Some x) h = (x, refl)

pub piece_of_result : {S R : Type 0} (found : Option (Piece S R)) (r : pieces.Pass S R) → result_of found ≡ Some r → (p : Piece S R) × (found ≡ Some p) × (p.result ≡ Some r)
piece_of_result None r h = cc
piece_of_result (Some p) r h = (p, refl, h)

pub key_equivalence : IsEquivalence (λ k. is_at (key_cmp k))
key_equivalence = eq_by_cmp_equiv key_total

pub distinct_keys : {V : Type 0} (es : List (PieceKey × V)) → Rises es → IsDistinct (λ k. is_at (key_cmp k)) (keys_of es)
distinct_keys es s = IsDistinct-from_sorted key_cmp (keys_of es) s

owned_above : {V : Type 0} (o : ℕ) (k : PieceKey) (es : List (PieceKey × V)) → AllByRecursion (λ q. key_cmp k q ≡ Less) (keys_of es) → AllByRecursion (λ q. key_cmp k q ≡ Less) (keys_of (owned_by o es))
owned_above o k [] a = tt
owned_above o k (e ∷ es) a =
    elim (e.0.owner == o) as (λ b. AllByRecursion (λ q. key_cmp k q ≡ Less) (keys_of (cond b (e ∷ owned_by o es) (owned_by o es)))) [
      | true ↦ (a.0, owned_above o k es a.1)
      | false ↦ owned_above o k es a.1
    ]

owned_rises : {V : Type 0} (o : ℕ) (es : List (PieceKey × V)) → Rises es → Rises (owned_by o es)
unfolding IsStrictlySortedBy
owned_rises o [] s = tt
owned_rises o (e ∷ es) s =
    elim (e.0.owner == o) as (λ b. Rises (cond b (e ∷ owned_by o es) (owned_by o es))) [
      | true ↦ (owned_above o e.0 es s.0, owned_rises o es s.1)
      | false ↦ owned_rises o es s.1
    ]

-- What a look-up finds is a member, and the other way round.
pub found_at : {S R : Type 0} (board : Board S R) → IsBoard board → (e : PieceKey × Piece S R) → Contains board.pieces e → piece_at e.0 board ≡ Some e.1
found_at board is e h = lookup-from_Contains key_equivalence e.0 e.1 board.pieces (distinct_keys board.pieces is.keys) h

pub at_found : {S R : Type 0} (board : Board S R) (key : PieceKey) (piece : Piece S R) → piece_at key board ≡ Some piece → Contains board.pieces (key, piece)
at_found board key piece h = Contains-from_lookup key_exact key piece board.pieces h

module _ {S X : Type 0} (Shows : ℕ → S → X → Type 0) (judge : ℕ → Judge X) (beats : ℕ → List Placed) (same : S → S → Type 0)
    (exact : (owner : ℕ) (one two : S) (x y : X) → Shows owner one x → Shows owner two y → same one two → x ≡ y) (o : ℕ) where
  abbrev Entry : Type 0
  Entry = PieceKey × Piece S (List Row)

  abbrev Result : Type 0
  Result = pieces.Pass S (List Row)

  abbrev windows : List Entry → List ℕ
  windows es = map (λ e. e.0.window) es

  -- some entry's result has the row
  abbrev SomeRow : List Entry → Row → Type 0
  SomeRow es row = (e : Entry) × (r : Result) × Contains es e × (e.1.result ≡ Some r) × Contains r.rows row

  abbrev AreOfWindows : List Entry → Type 0
  AreOfWindows es = AllByRecursion (λ (e : Entry). (r : Result) → e.1.result ≡ Some r → IsOfWindow Shows judge beats o e.0.window r) es

  record IsJoined (es : List Entry) (x : X) : Type 0 where
    passes : List (Pass X)
    chain : IsChain (judge o) x passes
    all : pass_beats passes ≡ joined (windows es) (beats o)
    rows : (row : Row) → SomeHas passes row ↔ SomeRow es row

  join : (es : List Entry) (s : S) (x : X) → Shows o s x → pieces.IsChain same s es → AreOfWindows es → IsJoined es x
  join [] s x shows chain are = record { passes = []; chain = tt; all = refl; rows = λ row. ((λ h. absurd (contains_none h.0 h.1)), (λ h. absurd (contains_none h.0 h.2))) }
  join (e ∷ es) s x shows chain are = go (λ t y to next. join es t y to next are.1) e.1.result refl chain
    where
      go : ((t : S) (y : X) → Shows o t y → pieces.IsChain same t es → IsJoined es y) → (found : Option Result) → e.1.result ≡ found → Links same s found (λ t. pieces.IsChain same t es) → IsJoined (e ∷ es) x
      go later None is h = absurd h
      go later (Some r) is h =
          let own = are.0 r is in
          let rest = later r.exit own.exit own.ends h.1 in
          let pass : Pass X = record { entry = own.entry; beats = beats_in e.0.window (beats o); exit = own.exit; rows = r.rows } in
          record {
            passes = pass ∷ rest.passes;
            chain = (own.pass, exact o r.entry s own.entry x own.begins shows h.0, rest.chain);
            all = ap (λ ps. beats_in e.0.window (beats o) ++ ps) rest.all;
            rows = λ row. (
              (λ has. elim (contains_cases pass rest.passes has.0 has.1) [
                | inl here ↦ (e, r, contains_here e es, is, subst (λ (p : Pass X). Contains p.rows row) (sym here) has.2)
                | inr there ↦ (let f = (rest.rows row).0 (has.0, there, has.2) in (f.0, f.1, contains_there e es f.0 f.2, f.3, f.4))
              ]),
              (λ has. elim (contains_cases e es has.0 has.2) [
                | inl here ↦ (let one : Some has.1 ≡ Some r = sym has.3 ∙ ap (λ (y : Entry). y.1.result) (sym here) ∙ is in
                    let is_r : has.1 ≡ r = cc in
                    (pass, contains_here pass rest.passes, subst (λ (q : Result). Contains q.rows row) is_r has.4))
                | inr there ↦ (let f = (rest.rows row).1 (has.0, has.1, there, has.3, has.4) in (f.0, contains_there pass rest.passes f.0 f.1, f.2))
              ]),
            );
          }

  rising : (es : List Entry) → Rises es → AllByRecursion (λ (e : Entry). e.0.owner ≡ o) es → IsStrictlySortedBy nat_cmp (windows es)
  unfolding IsStrictlySortedBy
  rising [] s own = tt
  rising (e ∷ es) s own = (above es own.1 s.0, rising es s.1 own.1)
    where
      above : (rest : List Entry) → AllByRecursion (λ (f : Entry). f.0.owner ≡ o) rest → AllByRecursion (λ k. key_cmp e.0 k ≡ Less) (keys_of rest) → AllByRecursion (λ w. nat_cmp e.0.window w ≡ Less) (windows rest)
      above [] a b = tt
      above (f ∷ rest) a b = (less_window e.0 f.0 o own.0 a.0 b.0, above rest a.1 b.1)

  module _ (opening : ℕ → X) (board : Board S (List Row)) (is : IsBoard board) (covers : Covers Shows judge beats opening board) where
    abbrev own : List Entry
    own = owned_by o board.pieces

    own_rises : Rises own
    own_rises = owned_rises o board.pieces is.keys

    results_of : (e : Entry) → Contains own e → (r : Result) → e.1.result ≡ Some r → IsOfWindow Shows judge beats o e.0.window r
    results_of e h r some =
        let from = owned_from o board.pieces e h in
        subst (λ n. IsOfWindow Shows judge beats n e.0.window r) from.1 (covers.results e.0 r (ap result_of (found_at board is e from.0) ∙ some))

    are_windows : (is_some (opening_of o board.openings) ≡ true) → AreWindows (beats o) (windows own)
    are_windows owner = record {
      rise = rising own own_rises (all_by (λ (e : Entry). e.0.owner ≡ o) own (λ e h. (owned_from o board.pieces e h).1));
      members = λ window. (
        (λ h. let found = mapped_from (λ (e : Entry). e.0.window) own window h in
            let from = owned_from o board.pieces found.0 found.1 in
            let has : HasBeat (beats found.0.0.owner) found.0.0.window = (covers.windows found.0.0 (ap (λ n. is_some (opening_of n board.openings)) from.1 ∙ owner)).0 (ap is_some (found_at board is found.0 from.0)) in
            subst (λ w. HasBeat (beats o) w) found.2 (subst (λ n. HasBeat (beats n) found.0.0.window) from.1 has)),
        (λ h. let key : PieceKey = record { owner = o; window = window } in
            let some = some_of (piece_at key board) ((covers.windows key owner).1 h) in
            contains_mapped (λ (e : Entry). e.0.window) own (key, some.0) (owned_has o board.pieces (key, some.0) (at_found board key some.0 some.1) refl)),
      );
    }

    -- Where an owner's results stand in a chain from its opening state, they have the rows of all its beats.
    pub whole : EachOwnerIsChained same board → (state : S) → opening_of o board.openings ≡ Some state
        → ((windows : List ℕ) → AreWindows (beats o) windows → joined windows (beats o) ≡ beats o)
        → (row : Row) → HasRow board o row ↔ Contains (rows_judged (judge o) (opening o) (beats o)) row
    whole chained state some all row =
        let owner : is_some (opening_of o board.openings) ≡ true = ap is_some some in
        let parts = join own state (opening o) (covers.openings o state some) (chained o state some)
        (all_by (λ (e : Entry). (r : Result) → e.1.result ≡ Some r → IsOfWindow Shows judge beats o e.0.window r) own results_of) in
        let beats_are : pass_beats parts.passes ≡ beats o = parts.all ∙ all (windows own) (are_windows owner) in (
          (λ has.
              let at : result_of (piece_at has.0 board) ≡ Some has.1 = has.3 in
              let piece = piece_of_result (piece_at has.0 board) has.1 at in
              let member = owned_has o board.pieces (has.0, piece.0) (at_found board has.0 piece.0 piece.1) has.2 in
              subst (λ ps. Contains (rows_judged (judge o) (opening o) ps) row) beats_are
              (chain_has (judge o) (opening o) parts.passes parts.chain row ((parts.rows row).1 ((has.0, piece.0), has.1, member, piece.2, has.4)))),
          (λ has.
              let some_row = (parts.rows row).0 (chain_from (judge o) (opening o) parts.passes parts.chain row (subst (λ ps. Contains (rows_judged (judge o) (opening o) ps) row) (sym beats_are) has)) in
              let from = owned_from o board.pieces some_row.0 some_row.2 in
              (some_row.0.0, some_row.1, from.1, ap result_of (found_at board is some_row.0 from.0) ∙ some_row.3, some_row.4)),
        )
