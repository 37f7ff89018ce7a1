-- There is one list of rows by link, and that of the reports of shares is the report of all.
use Rattle.std.proofs.Common.{◌≡◌, ℕ, suc, ◌+◌, ◌<◌, ◌≤◌, ◌==◌, ◌⊎◌, inl, inr, Bool, true, false, cond, List, [], ◌∷◌, ◌++◌, length, nat_lt, refl, sym, ap, subst, ◌∙◌, arith, zero-le, suc-le-suc}
use Rattle.std.specs.Prelude.{count_by, filter, map}
use Rattle.std.specs.declared.cmp.Ordering.{Ordering}
use Rattle.std.specs.declared.cmp.Ordering.TheVariants.{Less}
use Rattle.std.specs.Ordering.{nat_cmp, ordering_then, is_lt}
use Rattle.std.specs.FinMap.{nat_cmp-IsAntisymmetric}
use Rattle.std.specs.List.{Contains, AllByRecursion}
use Rattle.std.specs.List.Sorted.{IsStrictlySortedBy, IsNonDecreasingBy, IsStableByKey, ties}
use Rattle.std.proofs.lemmas.Bool.Decides.{nat_tests}
use Rattle.std.proofs.lemmas.List.{append-nil}
use Rattle.std.proofs.lemmas.List.Elements.{filter-append, filter_agree}
use Rattle.std.proofs.lemmas.List.Sums.{sum_by-cons}
use Rattle.tl_topology.specs.Regions.{Area}
use Rattle.tl_topology.specs.Topology.{Topology}
use Rattle.tl_beats.specs.declared.Row.{Row}
use Rattle.tl_beats.specs.declared.watch.Watch.{Watch}
use Rattle.tl_definitions.specs.Positions.{Recorded}
use Rattle.tl_definitions.specs.Report.{IsReport, key_order}
use Rattle.tl_definitions.proofs.Lists.{contains_none, contains_here, contains_there, contains_cases, contains_kept, kept_from, mapped_from, none_kept, kept_order, all_by, all_of}
use Rattle.tl_capture.proofs.PresentLemmas.{less_cases, less_is}
use Rattle.tl_check.specs.Captured.{captures_with}
use Rattle.tl_formats.specs.Merging.{IsByLink}
use Rattle.tl_formats.specs.Parts.{Share, has_link, own_rows, lines_in, IsPart, IsPartition, AreParts, TellLinks, PartsMakeTheWhole}
use Rattle.tl_formats.proofs.PartLaws.{kept_anyway, kept_never, parts_are_apart, row_below}

-- ---- rows by link

pub itself : (n : ℕ) → (n == n) ≡ true
itself n = grind (arith, nat_tests)

abbrev tail_of : {X : Type 0} → List X → List X
tail_of [] = []
tail_of (x ∷ xs) = xs

both_dropped : {X : Type 0} (b : Bool) (x y : X) (xs ys : List X) → cond b (x ∷ xs) xs ≡ cond b (y ∷ ys) ys → xs ≡ ys
both_dropped true x y xs ys e = ap tail_of e
both_dropped false x y xs ys e = e

abbrev pub Rises : {X : Type 0} → (X → ℕ) → List X → Type 0
Rises of [] = Unit {0}
Rises of (x ∷ xs) = AllByRecursion (λ y. of x ≤ of y) xs × Rises of xs

tie_is : (m n : ℕ) → ties (λ x y. is_lt (nat_cmp x y)) m n ≡ (n == m)
tie_is m n = grind (arith, nat_tests)

module _ {X : Type 0} (of : X → ℕ) where
  pub risen : (xs : List X) → IsNonDecreasingBy of xs → Rises of xs
  risen [] h = tt
  risen (x ∷ xs) h = (
    all_by (λ y. of x ≤ of y) xs (λ y c. subst (λ z. of x ≤ of z) c.2 (h 0 (suc c.0) y (omega arith) (let within : c.0 < length xs = c.1 in omega arith))),
    risen xs (λ i j d le lt. h (suc i) (suc j) d (omega (arith, le)) (omega (arith, lt))),
  )

  abbrev pub on : ℕ → X → Bool
  on link x = of x == link

  first_least : (x y : X) (ys : List X) → AllByRecursion (λ z. of y ≤ of z) ys → Contains (y ∷ ys) x → of y ≤ of x
  first_least x y ys up h = elim (contains_cases y ys x h) [
    | inl is ↦ (let same : of y ≡ of x = ap of is in omega arith)
    | inr there ↦ all_of (λ z. of y ≤ of z) ys up x there
  ]

  one_by_link : (xs ys : List X) → Rises of xs → Rises of ys → ((link : ℕ) → filter (on link) xs ≡ filter (on link) ys) → xs ≡ ys
  one_by_link [] [] up down same = refl
  one_by_link [] (y ∷ ys) up down same = absurd (contains_none y (subst (λ zs. Contains zs y) (sym (same (of y))) (contains_kept (on (of y)) (y ∷ ys) y (contains_here y ys) (itself (of y)))))
  one_by_link (x ∷ xs) [] up down same = absurd (contains_none x (subst (λ zs. Contains zs x) (same (of x)) (contains_kept (on (of x)) (x ∷ xs) x (contains_here x xs) (itself (of x)))))
  one_by_link (x ∷ xs) (y ∷ ys) up down same =
      let here : Contains (y ∷ ys) x = (kept_from (on (of x)) (y ∷ ys) x (subst (λ zs. Contains zs x) (same (of x)) (contains_kept (on (of x)) (x ∷ xs) x (contains_here x xs) (itself (of x))))).0 in
      let there : Contains (x ∷ xs) y = (kept_from (on (of y)) (x ∷ xs) y (subst (λ zs. Contains zs y) (sym (same (of y))) (contains_kept (on (of y)) (y ∷ ys) y (contains_here y ys) (itself (of y))))).0 in
      let least : of y ≤ of x = first_least x y ys down.0 here in
      let most : of x ≤ of y = first_least y x xs up.0 there in
      let links : of y ≡ of x = omega arith in
      let one : (of y == of x) ≡ true = ap (λ n. n == of x) links ∙ itself (of x) in
      let front : x ∷ filter (on (of x)) xs ≡ y ∷ filter (on (of x)) ys =
      ap (λ b. cond b (x ∷ filter (on (of x)) xs) (filter (on (of x)) xs)) (sym (itself (of x))) ∙ same (of x) ∙ ap (λ b. cond b (y ∷ filter (on (of x)) ys) (filter (on (of x)) ys)) one in
      let head : x ≡ y = cc in
      let tail : xs ≡ ys = one_by_link xs ys up.1 down.1 (λ link. both_dropped (of x == link) x y (filter (on link) xs) (filter (on link) ys)
      (same link ∙ ap (λ n. cond (n == link) (y ∷ filter (on link) ys) (filter (on link) ys)) links)) in
      cc

  -- what a stable sort by link leaves

  abbrev by_link : X → X → Bool
  by_link x y = is_lt (nat_cmp (of x) (of y))

  -- A row of the link, if the list has one.
  row_on : (link : ℕ) (xs : List X) → ((x : X) × (of x ≡ link)) ⊎ (filter (on link) xs ≡ [])
  row_on link [] = inr refl
  row_on link (x ∷ xs) = elim (of x == link) as (λ b. (of x == link) ≡ b → ((x : X) × (of x ≡ link)) ⊎ (cond b (x ∷ filter (on link) xs) (filter (on link) xs) ≡ [])) [
    | true ↦ λ t. (let is : of x ≡ link = grind (arith, nat_tests) in inl (x, is))
    | false ↦ λ e. row_on link xs
  ] refl

  -- The rows of a link that has a row.
  same_of : (xs ys : List X) → IsStableByKey of nat_cmp xs ys → (x : X) → filter (on (of x)) ys ≡ filter (on (of x)) xs
  same_of xs ys stable x =
      filter_agree (on (of x)) (ties by_link x) (λ y. sym (tie_is (of x) (of y))) ys ∙ stable x
      ∙ filter_agree (ties by_link x) (on (of x)) (λ y. tie_is (of x) (of y)) xs

  same_on : (xs ys : List X) → IsStableByKey of nat_cmp xs ys → (link : ℕ) → filter (on link) ys ≡ filter (on link) xs
  same_on xs ys stable link = elim (row_on link ys) [
    | inl p ↦ subst (λ n. filter (on n) ys ≡ filter (on n) xs) p.1 (same_of xs ys stable p.0)
    | inr none ↦ elim (row_on link xs) [
      | inl p ↦ subst (λ n. filter (on n) ys ≡ filter (on n) xs) p.1 (same_of xs ys stable p.0)
      | inr also ↦ none ∙ sym also
    ]
  ]

  pub sorted_by_link : (xs ys : List X) → IsNonDecreasingBy of ys → IsStableByKey of nat_cmp xs ys → IsByLink of xs ys
  sorted_by_link xs ys up stable = record {
    rises = up;
    same = same_on xs ys stable;
  }

-- ---- lines, each of something of a link

module _ {X Y : Type 0} (line : X → Y) (from : X → ℕ) (to : Y → ℕ) where
  abbrev Tell : List X → Type 0
  Tell xs = (x : X) → Contains xs x → to (line x) ≡ from x

  rest_tells : (x : X) (xs : List X) → Tell (x ∷ xs) → Tell xs
  rest_tells x xs known y c = known y (contains_there x xs y c)

  pub lines_rise : (xs : List X) → Tell xs → Rises from xs → Rises to (map line xs)
  lines_rise [] known up = tt
  lines_rise (x ∷ xs) known up = (
    all_by (λ y. to (line x) ≤ to y) (map line xs) (λ y c. let at = mapped_from line xs y c in
        let le : from x ≤ from at.0 = all_of (λ z. from x ≤ from z) xs up.0 at.0 at.1 in
        let lines : to (line x) ≤ to (line at.0) = omega (arith, le, known x (contains_here x xs), known at.0 (contains_there x xs at.0 at.1)) in
        subst (λ (z : Y). to (line x) ≤ to z) at.2 lines),
    lines_rise xs (rest_tells x xs known) up.1,
  )

  -- The lines of one link.
  pub lines_at : (link : ℕ) (xs : List X) → Tell xs → filter (on to link) (map line xs) ≡ map line (filter (on from link) xs)
  lines_at link [] known = refl
  lines_at link (x ∷ xs) known =
      ap (λ n. cond (n == link) (line x ∷ filter (on to link) (map line xs)) (filter (on to link) (map line xs))) (known x (contains_here x xs))
      ∙ elim (from x == link) as (λ b. cond b (line x ∷ filter (on to link) (map line xs)) (filter (on to link) (map line xs)) ≡ map line (cond b (x ∷ filter (on from link) xs) (filter (on from link) xs))) [
        | true ↦ ap (λ ys. line x ∷ ys) (lines_at link xs (rest_tells x xs known))
        | false ↦ lines_at link xs (rest_tells x xs known)
      ]

-- ---- the report of all

first_le : (m n : ℕ) (rest : Ordering) → ordering_then (nat_cmp m n) rest ≡ Less → m ≤ n
first_le m n rest h = elim (less_cases (nat_cmp m n) rest h) [
  | inl less ↦ (let lt = less_is m n less in omega (arith, lt))
  | inr tie ↦ (let same = nat_cmp-IsAntisymmetric m n tie.0 in omega (arith, same))
]

abbrev row_link : Row → ℕ
row_link row = row.link

abbrev at : ℕ → Row → Bool
at link row = row.link == link

rows_rise : (rows : List Row) → IsStrictlySortedBy key_order rows → Rises row_link rows
unfolding IsStrictlySortedBy
rows_rise [] s = tt
rows_rise (x ∷ rows) s = (
  all_by (λ (y : Row). x.link ≤ y.link) rows (λ y c. first_le x.link y.link _ (all_of (λ z. key_order x z ≡ Less) rows s.0 y c)),
  rows_rise rows s.1,
)

-- Those of a share, where it has the link, and where it hasn't.
share_has : (topo : Topology) (share : Share) (link : ℕ) (rows : List Row) → has_link topo share link ≡ true → filter (at link) (own_rows topo share rows) ≡ filter (at link) rows
share_has topo share link rows t = kept_anyway (at link) (λ (row : Row). has_link topo share row.link) rows
    (λ row h. let same : row.link ≡ link = grind (arith, nat_tests) in ap (has_link topo share) same ∙ t)

share_lacks : (topo : Topology) (share : Share) (link : ℕ) (rows : List Row) → has_link topo share link ≡ false → filter (at link) (own_rows topo share rows) ≡ []
share_lacks topo share link rows e = kept_never (at link) (λ (row : Row). has_link topo share row.link) rows
    (λ row h. let same : row.link ≡ link = grind (arith, nat_tests) in ap (has_link topo share) same ∙ e)

module _ (topo : Topology) (fs : List Recorded) (regions : List (List (ℕ × Area))) (watches : List (ℕ × Watch)) (whole : List Row) (is : IsReport (captures_with topo fs regions watches) whole) where
  abbrev Of : List Share → List (List Row) → Type 0
  Of shares parts = AreParts topo fs regions watches shares parts

  -- A row of a share is one of the whole.
  own_in_whole : (share : Share) (row : Row) → Contains (own_rows topo share whole) row → Contains whole row
  own_in_whole share row c = (kept_from (λ (row : Row). has_link topo share row.link) whole row c).0

  pub part_in_whole : (shares : List Share) (parts : List (List Row)) → Of shares parts → (part : List Row) → Contains parts part → (row : Row) → Contains part row → Contains whole row
  part_in_whole [] [] h part c row k = absurd (contains_none part c)
  part_in_whole [] (first ∷ parts) h part c row k = absurd h
  part_in_whole (share ∷ shares) [] h part c row k = absurd h
  part_in_whole (share ∷ shares) (first ∷ parts) h part c row k = elim (contains_cases first parts part c) [
    | inl e ↦ own_in_whole share row (subst (λ rows. Contains rows row) (sym e ∙ parts_are_apart topo fs regions watches share whole first is h.0) k)
    | inr there ↦ part_in_whole shares parts h.1 part there row k
  ]

  module _ {X : Type 0} (line : Row → X) (of : X → ℕ) (known : TellLinks line of whole) (link : ℕ) where
    abbrev all : List X
    all = map line (filter (at link) whole)

    abbrev has : Share → Bool
    has share = has_link topo share link

    part_at : (share : Share) (part : List Row) → IsPart topo fs regions watches share part → filter (on of link) (map line part) ≡ map line (filter (at link) (own_rows topo share whole))
    part_at share part p = ap (λ rows. filter (on of link) (map line rows)) (parts_are_apart topo fs regions watches share whole part is p)
        ∙ lines_at line row_link of link (own_rows topo share whole) (λ row c. known row (own_in_whole share row c))

    abbrev NoneHere : List Share → List (List Row) → Type 0
    NoneHere shares parts = Of shares parts → count_by has shares ≡ 0 → filter (on of link) (lines_in line parts) ≡ []

    none_here : (shares : List Share) (parts : List (List Row)) → NoneHere shares parts
    none_here [] [] h n = refl
    none_here [] (part ∷ parts) h n = absurd h
    none_here (share ∷ shares) [] h n = absurd h
    none_here (share ∷ shares) (part ∷ parts) h n = elim (has share) as (λ b. has share ≡ b → cond b 1 0 + count_by has shares ≡ 0 → filter (on of link) (lines_in line (part ∷ parts)) ≡ []) [
      | true ↦ λ t m. absurd (let more : 1 + count_by has shares ≡ 0 = m in omega arith)
      | false ↦ λ e m. (let less : 0 + count_by has shares ≡ 0 = m in let rest : count_by has shares ≡ 0 = omega arith in
          filter-append (on of link) (map line part) (lines_in line parts)
          ∙ ap (λ ys. ys ++ filter (on of link) (lines_in line parts)) (part_at share part h.0 ∙ ap (map line) (share_lacks topo share link whole e))
          ∙ none_here shares parts h.1 rest)
    ] refl (sym (sum_by-cons (λ (s : Share). cond (has s) 1 0) share shares) ∙ n)

    one_here : (shares : List Share) (parts : List (List Row)) → Of shares parts → count_by has shares ≡ 1 → filter (on of link) (lines_in line parts) ≡ all
    one_here [] [] h n = absurd (let none : 0 ≡ 1 = n in omega arith)
    one_here [] (part ∷ parts) h n = absurd h
    one_here (share ∷ shares) [] h n = absurd h
    one_here (share ∷ shares) (part ∷ parts) h n = elim (has share) as (λ b. has share ≡ b → cond b 1 0 + count_by has shares ≡ 1 → filter (on of link) (lines_in line (part ∷ parts)) ≡ all) [
      | true ↦ λ t m. (let more : 1 + count_by has shares ≡ 1 = m in let rest : count_by has shares ≡ 0 = omega arith in
          filter-append (on of link) (map line part) (lines_in line parts)
          ∙ ap (λ ys. ys ++ filter (on of link) (lines_in line parts)) (part_at share part h.0 ∙ ap (map line) (share_has topo share link whole t))
          ∙ ap (λ ys. all ++ ys) (none_here shares parts h.1 rest) ∙ append-nil all)
      | false ↦ λ e m. (let less : 0 + count_by has shares ≡ 1 = m in let rest : count_by has shares ≡ 1 = omega arith in
          filter-append (on of link) (map line part) (lines_in line parts)
          ∙ ap (λ ys. ys ++ filter (on of link) (lines_in line parts)) (part_at share part h.0 ∙ ap (map line) (share_lacks topo share link whole e))
          ∙ one_here shares parts h.1 rest)
    ] refl (sym (sum_by-cons (λ (s : Share). cond (has s) 1 0) share shares) ∙ n)

    -- A link without rows has none in any part.
    never_here : filter (at link) whole ≡ [] → (shares : List Share) (parts : List (List Row)) → Of shares parts → filter (on of link) (lines_in line parts) ≡ []
    never_here none [] [] h = refl
    never_here none [] (part ∷ parts) h = absurd h
    never_here none (share ∷ shares) [] h = absurd h
    never_here none (share ∷ shares) (part ∷ parts) h =
        let own : filter (at link) (own_rows topo share whole) ≡ [] =
        kept_order (at link) (λ (row : Row). has_link topo share row.link) whole ∙ ap (filter (λ (row : Row). has_link topo share row.link)) none in
        filter-append (on of link) (map line part) (lines_in line parts)
        ∙ ap (λ ys. ys ++ filter (on of link) (lines_in line parts)) (part_at share part h.0 ∙ ap (map line) own)
        ∙ never_here none shares parts h.1

    whole_at : filter (on of link) (map line whole) ≡ all
    whole_at = lines_at line row_link of link whole known

    same_here : (shares : List Share) (parts : List (List Row)) → Of shares parts → IsPartition topo shares → filter (on of link) (lines_in line parts) ≡ filter (on of link) (map line whole)
    same_here shares parts h cut = elim (nat_lt link (length topo.links)) as (λ b. nat_lt link (length topo.links) ≡ b → filter (on of link) (lines_in line parts) ≡ filter (on of link) (map line whole)) [
      | true ↦ λ t. (let below : link < length topo.links = grind (arith, nat_tests) in one_here shares parts h (cut link below) ∙ sym whole_at)
      | false ↦ λ e. (let past : length topo.links ≤ link = grind (arith, nat_tests) in
          let none : filter (at link) whole ≡ [] = none_kept (at link) whole (λ row k. let below : row.link < length topo.links = row_below topo fs regions watches row ((is.members row).0 k) in grind (arith, nat_tests)) in
          never_here none shares parts h ∙ sym (whole_at ∙ ap (map line) none))
    ] refl

  -- Lines that rise by link, and are those of the parts on each link, are those of the whole.
  pub lines_of_whole : {X : Type 0} (line : Row → X) (of : X → ℕ) → TellLinks line of whole → (shares : List Share) (parts : List (List Row)) → Of shares parts → IsPartition topo shares → (merged : List X)
      → Rises of merged → ((link : ℕ) → filter (on of link) merged ≡ filter (on of link) (lines_in line parts)) → merged ≡ map line whole
  lines_of_whole line of known shares parts h cut merged up same =
      one_by_link of merged (map line whole) up (lines_rise line row_link of whole known (rows_rise whole is.rises))
      (λ link. same link ∙ same_here line of known link shares parts h cut)

pub parts_make_the_whole : {X : Type 0} → PartsMakeTheWhole X
parts_make_the_whole line of topo fs regions watches shares whole parts merged known cut is h by =
    lines_of_whole topo fs regions watches whole is line of known shares parts h cut merged (risen of merged by.rises) by.same
