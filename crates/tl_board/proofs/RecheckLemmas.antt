-- Windows that are wanted get their results, one after the other, until all are settled.
use Rattle.std.proofs.Common.{◌≡◌, ℕ, ◌≤◌, ◌==◌, ◌+◌, inl, inr, Bool, true, false, not, ◌&&◌, cond, List, [], ◌∷◌, ◌++◌, Ordering, Less, Equal, Greater, Option, Some, None, Result, Ok, Err, refl, sym, ap, subst, ◌∙◌, arith, length, suc}
use Rattle.std.proofs.lemmas.Bool.Decides.{nat_tests}
use Rattle.std.proofs.lemmas.List.Elements.{Contains-append_left, Contains-append_right, Contains-append_cases}
use Rattle.std.proofs.lemmas.Map.{lookup-none}
use Rattle.std.proofs.lemmas.Map.Entries.{none_below_head}
use Rattle.std.proofs.lemmas.Map.Keys.{sorted_head, sorted_tail}
use Rattle.std.specs.Prelude.{◌⊎◌, ⊤, is_some, OnErr, IfSome}
use Rattle.std.specs.BTreeMap.{is_at}
use Rattle.std.specs.List.{Contains, AllByRecursion}
use Rattle.std.specs.List.Sorted.{IsStrictlySortedBy}
use Rattle.std.specs.Map.{keys_of}
use Rattle.std.specs.Option.{option_map, option_or}
use Rattle.std.specs.Ordering.{is_eq, is_le, ordering_reverse}
use Rattle.tl_definitions.proofs.Lists.{contains_none, contains_here, contains_there, contains_cases, contains_mapped, all_of, all_by}
use Rattle.tl_pieces.proofs.MoveLemmas.{moves}
use Rattle.tl_pieces.proofs.KeyLemmas.{key_exact, key_self, key_total, owner_le}
use Rattle.tl_pieces.proofs.OwnerLemmas.{owners_later}
use Rattle.tl_pieces.proofs.ReadyLemmas.{either_then, either_none}
use Rattle.tl_pieces.specs.declared.key.PieceKey.{PieceKey}
use Rattle.tl_pieces.specs.Keys.{key_cmp, value_at, change, before, owned_by, Rises, IsNotBefore}
use Rattle.tl_pieces.specs.Pieces.{Piece, Board, Pass, IsBoard, opening_of, piece_at, result_of, live_of, exit_of, exit_before, last_exit, left_by, entry_for, with_pieces, with_result, IsGood, Follows, IsWanted, ChainsFrom, IsChainTo, IsFirst, IsFirstWanted, IsSettled, HasTrueEntry}
use Rattle.tl_check.proofs.StateLaws.{shown_same}
use Rattle.tl_check.specs.States.{SameSpan}
use Rattle.tl_board.specs.Recheck.{IsStale, ChecksThese, Rechecks}
use Rattle.tl_board.specs.Spans.{SpansData, standing, manager_in, ChecksFirst}
use Rattle.tl_board.specs.Windows.{with_checked}
use Rattle.tl_board.proofs.CheckLemmas.{lookup_change, first_there}
use Rattle.tl_board.proofs.CoverLemmas.{some_of, at_found}

-- ---- keys

-- A key is one of these, or none of them.
is_among : (key : PieceKey) (keys : List PieceKey) → Contains keys key ⊎ (Contains keys key → ⊥)
is_among key [] = inr (contains_none key)
is_among key (k ∷ keys) = go (is_at (key_cmp k) key) refl (is_among key keys)
  where
    go : (b : Bool) → is_at (key_cmp k) key ≡ b → Contains keys key ⊎ (Contains keys key → ⊥) → Contains (k ∷ keys) key ⊎ (Contains (k ∷ keys) key → ⊥)
    go true at rest = inl (subst (Contains (k ∷ keys)) (key_exact k key at) (contains_here k keys))
    go false at (inl there) = inl (contains_there k keys key there)
    go false at (inr away) = inr (λ h. elim (contains_cases k keys key h) [
      | inl is ↦ (let never : false ≡ true = sym at ∙ ap (λ x. is_at (key_cmp k) x) (sym is) ∙ ap is_eq (key_self k) in cc)
      | inr there ↦ away there
    ])

-- No key is before itself.
unequal : (x y : PieceKey) → key_cmp x y ≡ Less → x ≡ y → ⊥
unequal x y less is = let never : Less ≡ Equal = sym less ∙ ap (key_cmp x) (sym is) ∙ key_self x in cc

apart : (x y : PieceKey) → (x ≡ y → ⊥) → is_at (key_cmp x) y ≡ false
apart x y differ = go (is_at (key_cmp x) y) refl
  where
    go : (b : Bool) → is_at (key_cmp x) y ≡ b → b ≡ false
    go true at = absurd (differ (key_exact x y at))
    go false at = refl

-- a later key at the end
pushed : (keys : List PieceKey) (k : PieceKey) → IsStrictlySortedBy key_cmp keys → AllByRecursion (λ x. key_cmp x k ≡ Less) keys → IsStrictlySortedBy key_cmp (keys ++ k ∷ [])
unfolding IsStrictlySortedBy
pushed [] k s a = (tt, tt)
pushed (x ∷ keys) k s a = (over keys s.0, pushed keys k s.1 a.1)
  where
    over : (ks : List PieceKey) → AllByRecursion (λ y. key_cmp x y ≡ Less) ks → AllByRecursion (λ y. key_cmp x y ≡ Less) (ks ++ k ∷ [])
    over [] b = (a.0, tt)
    over (y ∷ ks) b = (b.0, over ks b.1)

-- Keys that rise are at most as many as those, rising too, among which they are.
pub as_few : (xs ys : List PieceKey) → IsStrictlySortedBy key_cmp xs → IsStrictlySortedBy key_cmp ys → ((k : PieceKey) → Contains xs k → Contains ys k) → length xs ≤ length ys
as_few [] ys s r h = omega arith
as_few (x ∷ xs) [] s r h = absurd (contains_none x (h x (contains_here x xs)))
as_few (x ∷ xs) (y ∷ ys) s r h = elim (contains_cases y ys x (h x (contains_here x xs))) [
  | inl is ↦ (let rest : length xs ≤ length ys = as_few xs ys (sorted_tail key_cmp x xs s) (sorted_tail key_cmp y ys r) (λ k there. later k (λ yk. unequal x k (above k there) (sym is ∙ yk)) (h k (contains_there x xs k there))) in omega (arith, rest))
  | inr there ↦ (let rest : length (x ∷ xs) ≤ length ys = as_few (x ∷ xs) ys s (sorted_tail key_cmp y ys r) (λ k among. later k (λ yk. elim (contains_cases x xs k among) [
    | inl xk ↦ unequal y x (higher x there) (yk ∙ sym xk)
    | inr further ↦ unequal y k (key_total.trans y x k (higher x there) (above k further)) yk
  ]) (h k among)) in omega (arith, rest))
]
  where
    above : (k : PieceKey) → Contains xs k → key_cmp x k ≡ Less
    above k there = all_of (λ q. key_cmp x q ≡ Less) xs (sorted_head key_cmp x xs s) k there

    higher : (k : PieceKey) → Contains ys k → key_cmp y k ≡ Less
    higher k there = all_of (λ q. key_cmp y q ≡ Less) ys (sorted_head key_cmp y ys r) k there

    later : (k : PieceKey) → (y ≡ k → ⊥) → Contains (y ∷ ys) k → Contains ys k
    later k differ among = elim (contains_cases y ys k among) [ inl is ↦ absurd (differ is) | inr there ↦ there ]

-- ---- what stands before a piece

module _ {S : Type 0} where
  -- There is nothing before, or it has an exit.
  abbrev HasExit : Option (ℕ × Option S) → Type 0
  HasExit None = ⊤
  HasExit (Some l) = is_some l.1 ≡ true

  exit_there : (os : List (ℕ × S)) (l : Option (ℕ × Option S)) (o : ℕ) → HasExit l → is_some (opening_of o os) ≡ true → is_some (exit_before os l o) ≡ true
  exit_there os None o h own = own
  exit_there os (Some l) o h own = elim (l.0 == o) as (λ b. is_some (cond b l.1 (opening_of o os)) ≡ true) [ true ↦ h | false ↦ own ]

module _ {S R : Type 0} where
  -- the first is one of them
  first_among : (P : Option (ℕ × Option S) → PieceKey → Piece S R → Type 0) (Q : PieceKey → Type 0) (l : Option (ℕ × Option S)) (es : List (PieceKey × Piece S R)) (k : PieceKey)
      → AllByRecursion Q (keys_of es) → IsFirst P l es (Some k) → Q k
  first_among P Q l [] k a h = cc
  first_among P Q l (e ∷ es) k a (inl h) = let is : e.0 ≡ k = cc in subst Q is a.0
  first_among P Q l (e ∷ es) k a (inr h) = first_among P Q (left_by e.0 e.1) es k a.1 h.1

  -- what stands before a list is of no later owner than its pieces
  abbrev IsPast : Option (ℕ × Option S) → List (PieceKey × Piece S R) → Type 0
  IsPast None es = ⊤
  IsPast (Some l) es = AllByRecursion (λ (k : PieceKey). l.0 ≤ k.owner) (keys_of es)

  module _ (os : List (ℕ × S)) (k : PieceKey) where
    -- what a job for the key is to start from, as it is seen from some way on
    abbrev entry_from : Option (ℕ × Option S) → List (PieceKey × Piece S R) → Option S
    entry_from l es = option_or (last_exit k.owner (before k es)) (exit_before os l k.owner)

    entry_on : (l : Option (ℕ × Option S)) (e : PieceKey × Piece S R) (es : List (PieceKey × Piece S R)) → IsPast l (e ∷ es) → key_cmp k e.0 ≡ Greater → is_some e.1.result ≡ true → entry_from l (e ∷ es) ≡ entry_from (left_by e.0 e.1) es
    entry_on l e es past gt some =
        ap (λ o. option_or (last_exit k.owner (cond (true && not (is_le o)) (e ∷ before k es) (before k es))) (exit_before os l k.owner)) gt
        ∙ elim (e.0.owner == k.owner) as (λ b. (e.0.owner == k.owner) ≡ b → option_or (option_or (last_exit k.owner (before k es)) (cond b (exit_of e.1.result) None)) (exit_before os l k.owner)
        ≡ option_or (last_exit k.owner (before k es)) (cond b (exit_of e.1.result) (opening_of k.owner os))) [
          | true ↦ λ _. own e.1.result some
          | false ↦ λ other. either_none (last_exit k.owner (before k es)) (exit_before os l k.owner) ∙ ap (option_or (last_exit k.owner (before k es))) (opens l past other)
        ] refl
      where
        own : (x : Option (Pass S R)) → is_some x ≡ true → option_or (option_or (last_exit k.owner (before k es)) (exit_of x)) (exit_before os l k.owner) ≡ option_or (last_exit k.owner (before k es)) (exit_of x)
        own None h = cc
        own (Some r) h = either_then (last_exit k.owner (before k es)) r.exit (exit_before os l k.owner)

        opens : (l : Option (ℕ × Option S)) → IsPast l (e ∷ es) → (e.0.owner == k.owner) ≡ false → exit_before os l k.owner ≡ opening_of k.owner os
        opens None p other = refl
        opens (Some l) p other =
            let high : l.0 ≤ e.0.owner = p.0 in
            let low : e.0.owner ≤ k.owner = owner_le e.0 k gt in
            let differ : (l.0 == k.owner) ≡ false = grind (arith, nat_tests) in
            ap (λ b. cond b l.1 (opening_of k.owner os)) differ

    none_before : (es : List (PieceKey × Piece S R)) → AllByRecursion (λ y. key_cmp k y ≡ Less) (keys_of es) → before k es ≡ []
    none_before [] a = refl
    none_before (e ∷ es) a = ap (λ o. cond (true && not (is_le o)) (e ∷ before k es) (before k es)) a.0 ∙ none_before es a.1

    entry_here : (l : Option (ℕ × Option S)) (e : PieceKey × Piece S R) (es : List (PieceKey × Piece S R)) → Rises (e ∷ es) → k ≡ e.0 → entry_from l (e ∷ es) ≡ exit_before os l e.0.owner
    entry_here l e es s is =
        ap (λ t. option_or (last_exit k.owner t) (exit_before os l k.owner)) alone ∙ ap (λ (x : PieceKey). exit_before os l x.owner) is
      where
        above : AllByRecursion (λ y. key_cmp k y ≡ Less) (keys_of es)
        above = subst (λ (x : PieceKey). AllByRecursion (λ y. key_cmp x y ≡ Less) (keys_of es)) (sym is) (sorted_head key_cmp e.0 (keys_of es) s)

        alone : before k (e ∷ es) ≡ []
        alone = ap (λ o. cond (true && not (is_le o)) (e ∷ before k es) (before k es)) (ap (key_cmp k) (sym is) ∙ key_self k) ∙ none_before es above

    result_here : (e : PieceKey × Piece S R) (es : List (PieceKey × Piece S R)) → k ≡ e.0 → result_of (value_at k (e ∷ es)) ≡ e.1.result
    result_here e es is = ap (λ o. result_of (cond (is_eq o) (Some e.1) (value_at k es))) (ap (key_cmp k) (sym is) ∙ key_self k)

    result_on : (e : PieceKey × Piece S R) (es : List (PieceKey × Piece S R)) → key_cmp k e.0 ≡ Greater → result_of (value_at k (e ∷ es)) ≡ result_of (value_at k es)
    result_on e es gt = ap (λ o. result_of (cond (is_eq o) (Some e.1) (value_at k es))) gt

  -- A change of the key's piece is not seen from there or before.
  pub before_changed : (q k : PieceKey) (f : Piece S R → Piece S R) (es : List (PieceKey × Piece S R)) → IsNotBefore q k → before q (change k f es) ≡ before q es
  before_changed q k f [] le = refl
  before_changed q k f (e ∷ es) le = elim (is_at (key_cmp k) e.0) as (λ b. is_at (key_cmp k) e.0 ≡ b → before q (cond b ((e.0, f e.1) ∷ es) (e ∷ change k f es)) ≡ before q (e ∷ es)) [
    | true ↦ λ at. (let low : is_le (key_cmp q e.0) ≡ true = ap (λ x. is_le (key_cmp q x)) (sym (key_exact k e.0 at)) ∙ le in
        ap (λ b. cond (true && not b) ((e.0, f e.1) ∷ before q es) (before q es)) low ∙ sym (ap (λ b. cond (true && not b) (e ∷ before q es) (before q es)) low))
    | false ↦ λ _. ap (λ t. cond (true && not (is_le (key_cmp q e.0))) (e ∷ t) t) (before_changed q k f es le)
  ] refl

  -- ---- wanted, and settled

  module _ (same : S → S → Type 0) where
    good_has : (b : Option S) (x : Option (Pass S R)) → IsGood same b x → is_some (exit_of x) ≡ true
    good_has b None h = absurd h
    good_has b (Some r) h = refl

    follows_good : (b : Option S) (x : Option (Pass S R)) → Follows same b x → IsGood same b x
    follows_good None x h = absurd h
    follows_good (Some s) x h = h

    good_follows : (b : Option S) (x : Option (Pass S R)) → is_some b ≡ true → IsGood same b x → Follows same b x
    good_follows None x some h = cc
    good_follows (Some s) x some h = h

    unwanted_has : (b : Option S) (x : Option (Pass S R)) → ((IsGood same b x → ⊥) → ⊥) → is_some x ≡ true
    unwanted_has b None u = absurd (u (λ x. x))
    unwanted_has b (Some r) u = refl

    follows_has : (b : Option S) (x : Option (Pass S R)) → Follows same b x → is_some x ≡ true
    follows_has None x h = absurd h
    follows_has (Some s) None h = absurd h
    follows_has (Some s) (Some r) h = refl

    module _ (os : List (ℕ × S)) where
      -- The first that is wanted has no result, or one that doesn't begin with what a job for it is to start from.
      first_stale : (k : PieceKey) (l : Option (ℕ × Option S)) (es : List (PieceKey × Piece S R)) → Rises es → IsPast l es → IsFirst (IsWanted same os) l es (Some k) → IsGood same (entry_from os k l es) (result_of (value_at k es)) → ⊥
      first_stale k l [] s p h g = cc
      first_stale k l (e ∷ es) s p (inl first) g =
          let is : k ≡ e.0 = (let x = first.1 in cc) in
          first.0 (subst (λ b. IsGood same b e.1.result) (entry_here os k l e es s is) (subst (IsGood same (entry_from os k l (e ∷ es))) (result_here os k e es is) g))
      first_stale k l (e ∷ es) s p (inr first) g =
          first_stale k (left_by e.0 e.1) es (sorted_tail key_cmp e.0 (keys_of es) s) (owners_later e.0 es (sorted_head key_cmp e.0 (keys_of es) s)) first.1
          (subst (λ b. IsGood same b (result_of (value_at k es))) (entry_on os k l e es p gt (unwanted_has (exit_before os l e.0.owner) e.1.result first.0)) (subst (IsGood same (entry_from os k l (e ∷ es))) (result_on os k e es gt) g))
        where
          gt : key_cmp k e.0 ≡ Greater
          gt = key_total.antisymm k e.0 ∙ ap ordering_reverse (first_among (IsWanted same os) (λ y. key_cmp e.0 y ≡ Less) (left_by e.0 e.1) es k (sorted_head key_cmp e.0 (keys_of es) s) first.1)

      -- A ticket that stays or ends makes no other piece the first that is wanted.
      wanted_alike : (k : PieceKey) (r : Pass S R) (l : Option (ℕ × Option S)) (es : List (PieceKey × Piece S R)) (found : Option PieceKey) → IsFirst (IsWanted same os) l (change k (with_checked r) es) found
          → IsFirst (IsWanted same os) l (change k (with_result r) es) found
      wanted_alike k r l [] found h = h
      wanted_alike k r l (e ∷ es) found h =
          elim (is_at (key_cmp k) e.0) as (λ b. IsFirst (IsWanted same os) l (cond b ((e.0, with_checked r e.1) ∷ es) (e ∷ change k (with_checked r) es)) found
          → IsFirst (IsWanted same os) l (cond b ((e.0, with_result r e.1) ∷ es) (e ∷ change k (with_result r) es)) found) [
            | true ↦ λ own. own
            | false ↦ λ other. elim other [ inl here ↦ inl here | inr later ↦ inr (later.0, wanted_alike k r (left_by e.0 e.1) es found later.1) ]
          ] h

      -- Where all stand in a chain, each begins with what a job for it is to start from.
      each_follows : (k : PieceKey) (l : Option (ℕ × Option S)) (es : List (PieceKey × Piece S R)) → Rises es → IsPast l es → ChainsFrom same os l es → is_some (value_at k es) ≡ true
          → Follows same (entry_from os k l es) (result_of (value_at k es))
      each_follows k l [] s p h there = cc
      each_follows k l (e ∷ es) s p h there =
          go (λ among. each_follows k (left_by e.0 e.1) es (sorted_tail key_cmp e.0 (keys_of es) s) (owners_later e.0 es (sorted_head key_cmp e.0 (keys_of es) s)) h.1 among) (key_cmp k e.0) refl
        where
          go : (is_some (value_at k es) ≡ true → Follows same (entry_from os k (left_by e.0 e.1) es) (result_of (value_at k es))) → (o : Ordering) → key_cmp k e.0 ≡ o
              → Follows same (entry_from os k l (e ∷ es)) (result_of (value_at k (e ∷ es)))
          go later Less lt =
              let none : value_at k (e ∷ es) ≡ None = lookup-none (is_at (key_cmp k)) (e ∷ es) (none_below_head key_total k e es s lt) in
              let never : false ≡ true = sym (ap is_some none) ∙ there in cc
          go later Equal eq =
              let is : k ≡ e.0 = key_exact k e.0 (ap is_eq eq) in
              subst (Follows same (entry_from os k l (e ∷ es))) (sym (result_here os k e es is)) (subst (λ b. Follows same b e.1.result) (sym (entry_here os k l e es s is)) h.0)
          go later Greater gt =
              subst (Follows same (entry_from os k l (e ∷ es))) (sym (result_on os k e es gt))
              (subst (λ b. Follows same b (result_of (value_at k es))) (sym (entry_on os k l e es p gt (follows_has (exit_before os l e.0.owner) e.1.result h.0)))
              (later (sym (ap (λ o. is_some (cond (is_eq o) (Some e.1) (value_at k es))) gt) ∙ there)))

      -- Where none is wanted, it can't be that they stand in no chain.
      none_parted : (l : Option (ℕ × Option S)) (es : List (PieceKey × Piece S R)) → HasExit l → AllByRecursion (λ e. is_some (opening_of e.0.owner os) ≡ true) es → IsFirst (IsWanted same os) l es None → (ChainsFrom same os l es → ⊥) → ⊥
      none_parted l [] x own h parted = parted tt
      none_parted l (e ∷ es) x own (inl h) parted = let never : None ≡ Some e.0 = h.1 in cc
      none_parted l (e ∷ es) x own (inr h) parted =
          h.0 (λ good. none_parted (left_by e.0 e.1) es (good_has (exit_before os l e.0.owner) e.1.result good) own.1 h.1
          (λ chain. parted (good_follows (exit_before os l e.0.owner) e.1.result (exit_there os l e.0.owner x own.0) good, chain)))

-- ---- in the middle of it

module _ {S R : Type 0} (same : S → S → Type 0) where
  -- These windows were checked so far, and all that are wanted stand after them.
  pub record IsUnderWay (keys : List PieceKey) (old now : Board S R) : Type 0 where
    pub checked : ChecksThese same keys old now
    pub board : IsBoard now
    pub passed : (key next : PieceKey) → Contains keys key → IsFirstWanted same now (Some next) → key_cmp key next ≡ Less

  pub none_checked : (b : Board S R) → ChecksThese same [] b b
  unfolding IsStrictlySortedBy
  none_checked b = record {
    openings = refl;
    there = λ key. refl;
    tickets = λ key h. absurd (contains_none key h);
    rise = tt;
    stale = λ key h. absurd (contains_none key h);
    begins = λ key h. absurd (contains_none key h);
    true_entries = λ key h. absurd (contains_none key h);
    stays = λ key away. refl;
  }

  pub begun : (b : Board S R) → IsBoard b → IsUnderWay [] b b
  begun b is = record {
    checked = none_checked b;
    board = is;
    passed = λ key next h. absurd (contains_none key h);
  }

  -- ---- one more

  module _ (keys : List PieceKey) (old now new : Board S R) (way : IsUnderWay keys old now) (k : PieceKey) (r : Pass S R) (alike : same r.entry r.entry) (first : IsFirstWanted same now (Some k))
      (ready : HasTrueEntry same now k) (entry : entry_for k now ≡ Some r.entry) (is : new ≡ with_pieces now (change k (with_checked r) now.pieces)) where
    openings : new.openings ≡ now.openings
    openings = ap (λ (b : Board S R). b.openings) is

    found : (q : PieceKey) → piece_at q new ≡ cond (is_at (key_cmp q) k) (option_map (with_checked r) (piece_at q now)) (piece_at q now)
    found q = ap (λ (b : Board S R). piece_at q b) is ∙ lookup_change k (with_checked r) q now.pieces

    other : (q : PieceKey) → (q ≡ k → ⊥) → piece_at q new ≡ piece_at q now
    other q differ = found q ∙ ap (λ b. cond b (option_map (with_checked r) (piece_at q now)) (piece_at q now)) (apart q k differ)

    here : piece_at k new ≡ option_map (with_checked r) (piece_at k now)
    here = found k ∙ ap (λ b. cond b (option_map (with_checked r) (piece_at k now)) (piece_at k now)) (ap is_eq (key_self k))

    as_before : {A : Type 0} (f : Option (Piece S R) → A) → ((x : Option (Piece S R)) → f (option_map (with_checked r) x) ≡ f x) → (q : PieceKey) → f (piece_at q new) ≡ f (piece_at q now)
    as_before f kept q = ap f (found q) ∙ elim (is_at (key_cmp q) k) as (λ b. f (cond b (option_map (with_checked r) (piece_at q now)) (piece_at q now)) ≡ f (piece_at q now)) [ true ↦ kept (piece_at q now) | false ↦ refl ]

    still_some : (x : Option (Piece S R)) → is_some (option_map (with_checked r) x) ≡ is_some x
    still_some None = refl
    still_some (Some x) = refl

    no_ticket : (x : Option (Piece S R)) → live_of (option_map (with_checked r) x) ≡ None
    no_ticket None = refl
    no_ticket (Some x) = refl

    -- what stands before the piece or an earlier one
    same_entry : (q : PieceKey) → IsNotBefore q k → entry_for q new ≡ entry_for q now
    same_entry q le = ap (entry_for q) is ∙ ap (λ t. option_or (last_exit q.owner t) (opening_of q.owner now.openings)) (before_changed q k (with_checked r) now.pieces le)

    still_true : (q : PieceKey) → IsNotBefore q k → HasTrueEntry same now q → HasTrueEntry same new q
    still_true q le known s opens =
        let front : before q new.pieces ≡ before q now.pieces = ap (λ (b : Board S R). before q b.pieces) is ∙ before_changed q k (with_checked r) now.pieces le in
        let from = known s (sym (ap (opening_of q.owner) openings) ∙ opens) in
        (from.0, same_entry q le ∙ from.1, subst (λ t. IsChainTo same s (owned_by q.owner t) from.0) (sym front) from.2)

    below : (q : PieceKey) → Contains keys q → key_cmp q k ≡ Less
    below q h = way.passed q k h first

    not_yet : Contains keys k → ⊥
    not_yet h = unequal k k (below k h) refl

    there : is_some (piece_at k now) ≡ true
    there = first_there (IsWanted same now.openings) None now.pieces k first

    stale : IsStale same old new k
    stale = record {
      there = sym (way.checked.there k) ∙ there;
      parted = λ f. first_stale same now.openings k None now.pieces way.board.keys tt first
          (follows_good same (entry_for k now) (result_of (piece_at k now))
          (subst (λ b. Follows same b (result_of (piece_at k now))) (same_entry k (ap is_le (key_self k)))
          (subst (λ x. Follows same (entry_for k new) (result_of x)) (sym (way.checked.stays k not_yet)) f)));
    }

    begins : Follows same (entry_for k new) (result_of (piece_at k new))
    begins =
        subst (λ b. Follows same b (result_of (piece_at k new))) (sym (same_entry k (ap is_le (key_self k)) ∙ entry))
        (subst (λ x. Follows same (Some r.entry) (result_of x)) (sym here) (go (piece_at k now) there))
      where
        go : (x : Option (Piece S R)) → is_some x ≡ true → Follows same (Some r.entry) (result_of (option_map (with_checked r) x))
        go None some = cc
        go (Some x) some = alike

    change_keys : (es : List (PieceKey × Piece S R)) → keys_of (change k (with_checked r) es) ≡ keys_of es
    change_keys [] = refl
    change_keys (e ∷ es) = elim (is_at (key_cmp k) e.0) as (λ b. keys_of (cond b ((e.0, with_checked r e.1) ∷ es) (e ∷ change k (with_checked r) es)) ≡ keys_of (e ∷ es)) [
      | true ↦ refl
      | false ↦ ap (λ ks. e.0 ∷ ks) (change_keys es)
    ]

    change_all : (P : PieceKey → Type 0) (es : List (PieceKey × Piece S R)) → AllByRecursion (λ e. P e.0) es → AllByRecursion (λ e. P e.0) (change k (with_checked r) es)
    change_all P [] a = tt
    change_all P (e ∷ es) a = elim (is_at (key_cmp k) e.0) as (λ b. AllByRecursion (λ x. P x.0) (cond b ((e.0, with_checked r e.1) ∷ es) (e ∷ change k (with_checked r) es))) [
      | true ↦ a
      | false ↦ (a.0, change_all P es a.1)
    ]

    board : IsBoard new
    board = subst (λ (b : Board S R). IsBoard b) (sym is) (record {
      owners = way.board.owners;
      keys = subst (IsStrictlySortedBy key_cmp) (sym (change_keys now.pieces)) way.board.keys;
      owned = change_all (λ x. is_some (opening_of x.owner now.openings) ≡ true) now.pieces way.board.owned;
    })

    further : (next : PieceKey) → IsFirstWanted same new (Some next) → key_cmp k next ≡ Less
    further next wanted =
        moves same now.openings k next r r.entry alike None now.pieces way.board.keys tt entry first
        (wanted_alike same now.openings k r None now.pieces (Some next) (subst (λ (b : Board S R). IsFirstWanted same b (Some next)) is wanted))

    -- The last of the keys, or one of those before it.
    among : (P : PieceKey → Type 0) → ((q : PieceKey) → Contains keys q → P q) → P k → (q : PieceKey) → Contains (keys ++ k ∷ []) q → P q
    among P earlier last q h = elim (Contains-append_cases keys (k ∷ []) q h) [
      | inl one ↦ earlier q one
      | inr one ↦ elim (contains_cases k [] q one) [ inl e ↦ subst P e last | inr none ↦ absurd (contains_none q none) ]
    ]

    pub one_more : IsUnderWay (keys ++ k ∷ []) old new
    one_more = record {
      checked = record {
        openings = openings ∙ way.checked.openings;
        there = λ q. as_before is_some still_some q ∙ way.checked.there q;
        tickets = among (λ q. live_of (piece_at q new) ≡ None) (λ q h. ap live_of (other q (unequal q k (below q h))) ∙ way.checked.tickets q h)
            (ap live_of here ∙ no_ticket (piece_at k now));
        rise = pushed keys k way.checked.rise (all_by (λ q. key_cmp q k ≡ Less) keys below);
        stale = among (IsStale same old new) (λ q h. (let known = way.checked.stale q h in record {
          there = known.there;
          parted = λ f. known.parted (subst (λ b. Follows same b (result_of (piece_at q old))) (same_entry q (ap is_le (below q h))) f);
        })) stale;
        begins = among (λ q. Follows same (entry_for q new) (result_of (piece_at q new))) (λ q h.
            subst (λ b. Follows same b (result_of (piece_at q new))) (sym (same_entry q (ap is_le (below q h))))
            (subst (λ x. Follows same (entry_for q now) (result_of x)) (sym (other q (unequal q k (below q h)))) (way.checked.begins q h))) begins;
        true_entries = among (HasTrueEntry same new) (λ q h. still_true q (ap is_le (below q h)) (way.checked.true_entries q h)) (still_true k (ap is_le (key_self k)) ready);
        stays = λ q away. other q (λ e. away (Contains-append_right keys (k ∷ []) q (subst (Contains (k ∷ [])) (sym e) (contains_here k []))))
            ∙ way.checked.stays q (λ h. away (Contains-append_left keys (k ∷ []) q h));
      };
      board = board;
      passed = λ q next h wanted. among (λ x. key_cmp x next ≡ Less) (λ x one. key_total.trans x k next (below x one) (further next wanted)) (further next wanted) q h;
    }

  -- ---- how many, and the end

  pub few : (keys : List PieceKey) (old now : Board S R) → IsBoard old → IsUnderWay keys old now → length keys ≤ length old.pieces
  few keys old now is way =
      subst (λ n. length keys ≤ n) (as_long old.pieces) (as_few keys (keys_of old.pieces) way.checked.rise is.keys (λ k h. (let piece = some_of (piece_at k old) (way.checked.stale k h).there in
      contains_mapped (λ (e : PieceKey × Piece S R). e.0) old.pieces (k, piece.0) (at_found old k piece.0 piece.1))))
    where
      as_long : (es : List (PieceKey × Piece S R)) → length (keys_of es) ≡ length es
      as_long [] = refl
      as_long (e ∷ es) = ap suc (as_long es)

  -- Where all are not settled, one is wanted.
  pub some_wanted : (b : Board S R) (found : Option PieceKey) → IsBoard b → IsFirstWanted same b found → (IsSettled same b → ⊥) → (k : PieceKey) × (found ≡ Some k)
  some_wanted b None is first parted = absurd (none_parted same b.openings None b.pieces tt is.owned first parted)
  some_wanted b (Some k) is first parted = (k, refl)

  pub ended : (keys : List PieceKey) (count : ℕ) (old now : Board S R) → IsUnderWay keys old now → count ≡ length keys → IsSettled same now → Rechecks same old now count
  ended keys count old now way number settled = record {
    keys = keys;
    checked = way.checked;
    all = λ k stale. elim (is_among k keys) [
      | inl h ↦ h
      | inr away ↦ absurd (stale.parted (subst (λ x. Follows same (entry_for k now) (result_of x)) (way.checked.stays k away)
          (each_follows same now.openings k None now.pieces way.board.keys tt settled (way.checked.there k ∙ stale.there))))
    ];
    number = number;
    settled = settled;
  }

-- ---- windows of managers

-- One more window is checked.
pub record OneMore (keys : List PieceKey) (start old new : SpansData) : Type 0 where
  pub key : PieceKey
  pub way : IsUnderWay SameSpan (keys ++ key ∷ []) start.board new.board
  pub log : new.log ≡ old.log

none_found : (A : Type 0) (key : PieceKey) → None ≡ Some key → A
none_found A key is = cc

pub checks_one : (keys : List PieceKey) (start old new : SpansData) (found : Option PieceKey) → IsUnderWay SameSpan keys start.board old.board → (IsSettled SameSpan old.board → ⊥) → IsFirstWanted SameSpan old.board found
    → IfSome found (HasTrueEntry SameSpan old.board) → ChecksFirst old found new → OneMore keys start old new
checks_one keys start old new None way parted first ready checked = (let none = some_wanted SameSpan old.board None way.board first parted in none_found (OneMore keys start old new) none.0 none.1)
checks_one keys start old new (Some key) way parted first ready checked = record {
  key = key;
  way = one_more SameSpan keys start.board old.board new.board way key checked.result (shown_same (manager_in (standing old) key.owner) checked.result.entry checked.result.entry checked.of_window.begins.0 checked.of_window.begins.0 refl)
      first ready checked.entry (ap (λ (s : SpansData). s.board) checked.rest);
  log = ap (λ (s : SpansData). s.log) checked.rest;
}

pub one_longer : (keys : List PieceKey) (key : PieceKey) → length (keys ++ key ∷ []) ≡ length keys + 1
one_longer [] key = refl
one_longer (k ∷ keys) key = let rest : length (keys ++ key ∷ []) ≡ length keys + 1 = one_longer keys key in omega (arith, rest)

pub in_error : {A E : Type 0} (r : Result A E) (P : Type 0) → P → OnErr r P
in_error (Ok x) P p = tt
in_error (Err e) P p = p
