-- Rows told beat by beat.
use Rattle.std.proofs.Common.{◌≡◌, inl, inr, ℕ, zero, suc, ◌+◌, ◌<◌, ◌≤◌, ◌==◌, ◌&&◌, ◌||◌, Bool, true, false, cond, List, [], ◌∷◌, ◌++◌, length, map, take, get_or, refl, sym, ap, subst, ◌∙◌, arith, append_assoc}
use Rattle.std.specs.Prelude.{filter, reverse}
use Rattle.std.specs.Cmp.{unsigned_tied}
use Rattle.std.specs.List.{Contains, list_any}
use Rattle.std.specs.Ordering.{nat_cmp}
use Rattle.std.specs.BTreeMap.{is_at}
use Rattle.std.proofs.lemmas.List.{append-nil, map-append}
use Rattle.std.proofs.lemmas.List.Elements.{Contains-append_left, Contains-append_right}
use Rattle.std.proofs.lemmas.Option.{slice_get-get_or}
use Rattle.std.proofs.lemmas.Bool.Decides.{nat_tests}
use Rattle.tl_tables.specs.declared.Chan.{Chan}
use Rattle.tl_tables.specs.declared.Chan.TheVariants as chan
use Rattle.tl_tables.specs.Messages.{same_chan}
use Rattle.tl_beats.specs.declared.Placed.{Placed}
use Rattle.tl_beats.specs.declared.Row.{Row}
use Rattle.tl_definitions.specs.Rules.{Manager}
use Rattle.tl_definitions.specs.Breaks.{row_of}
use Rattle.tl_definitions.proofs.Lists.{contains_here, contains_there, contains_cases, contains_none, contains_kept, onto, onto_reverse}
use Rattle.tl_rows.specs.declared.telling.Told.{Told}
use Rattle.tl_rows.specs.Telling.{is_of, told_of, told_after, BrokenRowsAreTold}
use Rattle.tl_rows.proofs.PassedLaws.{take_next}

-- ---- one row more

take_more : {X : Type 0} (xs : List X) (n : ℕ) (d : X) → n < length xs → take (n + 1) xs ≡ take n xs ++ get_or xs n d ∷ []
take_more xs n d within = ap (λ k. take k xs) (let e : n + 1 ≡ suc n = omega arith in e) ∙ take_next xs n (get_or xs n d) (slice_get-get_or xs n d within)

any_more : {X : Type 0} (f : X → Bool) (xs : List X) (x : X) → list_any f (xs ++ x ∷ []) ≡ cond (f x) true (list_any f xs)
any_more f [] x = elim (f x) as (λ b. (b || false) ≡ cond b true false) [ true ↦ refl | false ↦ refl ]
any_more f (y ∷ xs) x =
    ap (λ b. f y || b) (any_more f xs x)
    ∙ elim (f y) as (λ b. (b || cond (f x) true (list_any f xs)) ≡ cond (f x) true (b || list_any f xs)) [
      | true ↦ elim (f x) as (λ b. true ≡ cond b true true) [ true ↦ refl | false ↦ refl ]
      | false ↦ refl
    ]

pub cycle_more : (rows : List Row) (n : ℕ) (d : Row) (cycle : ℕ) (new old : Bool) → n < length rows → new ≡ cond (is_at (nat_cmp (get_or rows n d).cycle) cycle) true old
    → old ≡ list_any (λ row. row.cycle == cycle) (take n rows) → new ≡ list_any (λ row. row.cycle == cycle) (take (n + 1) rows)
cycle_more rows n d cycle new old within is known =
    is ∙ ap (λ b. cond b true old) (unsigned_tied (get_or rows n d).cycle cycle) ∙ ap (cond ((get_or rows n d).cycle == cycle) true) known
    ∙ sym (ap (list_any (λ row. row.cycle == cycle)) (take_more rows n d within) ∙ any_more (λ row. row.cycle == cycle) (take n rows) (get_or rows n d))

filter_more : {X : Type 0} (p : X → Bool) (xs : List X) (x : X) → filter p (xs ++ x ∷ []) ≡ filter p xs ++ cond (p x) (x ∷ []) []
filter_more p [] x = refl
filter_more p (y ∷ xs) x =
    elim (p y) as (λ b. cond b (y ∷ filter p (xs ++ x ∷ [])) (filter p (xs ++ x ∷ [])) ≡ cond b (y ∷ filter p xs) (filter p xs) ++ cond (p x) (x ∷ []) []) [
      | true ↦ ap (λ ys. y ∷ ys) (filter_more p xs x)
      | false ↦ filter_more p xs x
    ]

module _ {X Y : Type 0} (f : X → Y) (p : X → Bool) (front items : List Y) (xs : List X) (n : ℕ) (d : X) (within : n < length xs)
    (known : items ≡ front ++ map f (filter p (take n xs))) where
  kept : (b : Bool) → p (get_or xs n d) ≡ b → front ++ map f (filter p (take (n + 1) xs)) ≡ items ++ map f (cond b (get_or xs n d ∷ []) [])
  kept b is =
      ap (λ ys. front ++ map f (filter p ys)) (take_more xs n d within)
      ∙ ap (λ ys. front ++ map f ys) (filter_more p (take n xs) (get_or xs n d) ∙ ap (λ c. filter p (take n xs) ++ cond c (get_or xs n d ∷ []) []) is)
      ∙ ap (λ ys. front ++ ys) (map-append f (filter p (take n xs)) (cond b (get_or xs n d ∷ []) []))
      ∙ sym (append_assoc front (map f (filter p (take n xs))) (map f (cond b (get_or xs n d ∷ []) [])))
      ∙ ap (λ ys. ys ++ map f (cond b (get_or xs n d ∷ []) [])) (sym known)

  pub row_told : (y : Y) → p (get_or xs n d) ≡ true → y ≡ f (get_or xs n d) → items ++ y ∷ [] ≡ front ++ map f (filter p (take (n + 1) xs))
  row_told y is same = ap (λ z. items ++ z ∷ []) same ∙ sym (kept true is)

  pub row_passed : p (get_or xs n d) ≡ false → items ≡ front ++ map f (filter p (take (n + 1) xs))
  row_passed is = sym (append-nil items) ∙ sym (kept false is)

pub take_all : {X : Type 0} (xs : List X) (n : ℕ) → length xs ≤ n → take n xs ≡ xs
take_all [] zero h = refl
take_all [] (suc n) h = refl
take_all (x ∷ xs) zero h = absurd (omega arith)
take_all (x ∷ xs) (suc n) h = ap (λ ys. x ∷ ys) (take_all xs n (omega arith))

-- ---- one beat more

pub told_next : (m : Manager) (rows : List Row) (before after : List Placed) (p : Placed) (left rest : List Placed) (items new total : List Told) → left ≡ p ∷ rest → p ∷ before ≡ after
    → new ≡ items ++ map (told_of m before p) (filter (is_of p) rows) → items ++ told_after m rows before left ≡ total → new ++ told_after m rows after rest ≡ total
told_next m rows before after p left rest items new total is passed told known =
    ap (λ ys. ys ++ told_after m rows after rest) told
    ∙ append_assoc items (map (told_of m before p) (filter (is_of p) rows)) (told_after m rows after rest)
    ∙ ap (λ bs. items ++ (map (told_of m before p) (filter (is_of p) rows) ++ told_after m rows bs rest)) (sym passed)
    ∙ ap (λ bs. items ++ told_after m rows before bs) (sym is)
    ∙ known

-- A beat in a cycle without rows has none.
none_of : (p : Placed) (rows : List Row) → list_any (λ row. row.cycle == p.beat.cycle) rows ≡ false → filter (is_of p) rows ≡ []
none_of p [] h = refl
none_of p (row ∷ rows) h =
    elim (row.cycle == p.beat.cycle) as (λ b. (b || list_any (λ r. r.cycle == p.beat.cycle) rows) ≡ false
    → cond (((row.link == p.link) && b) && same_chan row.chan p.beat.chan) (row ∷ filter (is_of p) rows) (filter (is_of p) rows) ≡ []) [
      | true ↦ λ g. cc
      | false ↦ λ g. elim (row.link == p.link) as (λ b. cond ((b && false) && same_chan row.chan p.beat.chan) (row ∷ filter (is_of p) rows) (filter (is_of p) rows) ≡ []) [
        | true ↦ none_of p rows g
        | false ↦ none_of p rows g
      ]
    ] h

pub untold : (m : Manager) (rows : List Row) (before : List Placed) (p : Placed) (items : List Told) → list_any (λ row. row.cycle == p.beat.cycle) rows ≡ false
    → items ≡ items ++ map (told_of m before p) (filter (is_of p) rows)
untold m rows before p items none = sym (ap (λ kept. items ++ map (told_of m before p) kept) (none_of p rows none) ∙ append-nil items)

-- ---- rows that are told

same_itself : (c : Chan) → same_chan c c ≡ true
same_itself chan.A = refl
same_itself chan.B = refl
same_itself chan.C = refl
same_itself chan.D = refl
same_itself chan.E = refl

own_row : (p : Placed) (row : Row) → row ≡ row_of p row.rule → is_of p row ≡ true
own_row p row is =
    let own : is_of p (row_of p row.rule) ≡ true =
    (let link : (p.link == p.link) ≡ true = grind (arith, nat_tests) in let cycle : (p.beat.cycle == p.beat.cycle) ≡ true = grind (arith, nat_tests) in
    ap (λ b. (b && (p.beat.cycle == p.beat.cycle)) && same_chan p.beat.chan p.beat.chan) link ∙ ap (λ b. b && same_chan p.beat.chan p.beat.chan) cycle ∙ same_itself p.beat.chan) in
    subst (λ r. is_of p r ≡ true) (sym is) own

contains_map : {X Y : Type 0} (f : X → Y) (xs : List X) (x : X) → Contains xs x → Contains (map f xs) (f x)
contains_map f [] x h = absurd (contains_none x h)
contains_map f (y ∷ xs) x h = elim (contains_cases y xs x h) [
  | inl e ↦ subst (λ z. Contains (map f (y ∷ xs)) (f z)) e (contains_here (f y) (map f xs))
  | inr r ↦ contains_there (f y) (map f xs) (f x) (contains_map f xs x r)
]

told_here : (m : Manager) (rows : List Row) (row : Row) (before earlier later : List Placed) (p : Placed) → Contains rows row → is_of p row ≡ true
    → Contains (told_after m rows before (earlier ++ p ∷ later)) (told_of m (onto before earlier) p row)
told_here m rows row before [] later p has own =
    Contains-append_left (map (told_of m before p) (filter (is_of p) rows)) (told_after m rows (p ∷ before) later) (told_of m before p row)
    (contains_map (told_of m before p) (filter (is_of p) rows) row (contains_kept (is_of p) rows row has own))
told_here m rows row before (q ∷ earlier) later p has own =
    Contains-append_right (map (told_of m before q) (filter (is_of q) rows)) (told_after m rows (q ∷ before) (earlier ++ p ∷ later)) (told_of m (onto (q ∷ before) earlier) p row)
    (told_here m rows row (q ∷ before) earlier later p has own)

pub broken_rows_are_told : BrokenRowsAreTold
broken_rows_are_told m beats rows row has broken =
    let earlier : List Placed = broken.0 in
    let later : List Placed = broken.1 in
    let p : Placed = broken.2 in (
      earlier,
      later,
      p,
      broken.3,
      subst (λ bs. Contains (told_after m rows [] bs) (told_of m (reverse earlier) p row)) (sym broken.3)
          (subst (λ bs. Contains (told_after m rows [] (earlier ++ p ∷ later)) (told_of m bs p row)) (onto_reverse [] earlier)
          (told_here m rows row [] earlier later p has (own_row p row broken.5))),
    )
