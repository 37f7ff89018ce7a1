-- One capture more.
use Rattle.std.proofs.Common.{◌≡◌, ℕ, suc, ◌+◌, ◌<◌, ◌≤◌, ◌⊎◌, inl, inr, List, [], ◌∷◌, ◌++◌, length, drop, get_or, Option, Some, None, Bor, nat_lt, sym, ap, subst, ◌∙◌, arith}
use Rattle.std.specs.List.{Contains}
use Rattle.std.specs.Option.{IfSome, option_map_or, unwrap_or}
use Rattle.std.specs.Prelude.{is_some, ◌↔◌}
use Rattle.std.proofs.Math.ListN.{drop_of_length-le}
use Rattle.std.proofs.Math.Seq.{drop-cons}
use Rattle.std.proofs.lemmas.Bool.Decides.{nat_tests}
use Rattle.std.proofs.lemmas.List.Elements.{Contains-append_left, Contains-append_right, Contains-append_cases}
use Rattle.std.proofs.lemmas.Option.{slice_get-get_or, slice_get_past}
use Rattle.tl_topology.specs.Regions.{Area, areas_of}
use Rattle.tl_topology.specs.Topology.{Topology}
use Rattle.tl_beats.specs.declared.Row.{Row}
use Rattle.tl_beats.specs.declared.watch.Watch.{Watch}
use Rattle.tl_definitions.proofs.Lists.{contains_none, contains_here, contains_there, contains_cases}
use Rattle.tl_definitions.specs.Captures.{captures_from}
use Rattle.tl_definitions.specs.Positions.{Recorded}
use Rattle.tl_definitions.specs.Report.{Capture, Finds, FindsIn, IsReport}
use Rattle.tl_check.proofs.CaptureLaws.{capture_with}
use Rattle.tl_check.specs.Captured.{areas_at, watch_capture, watch_captures}
use Rattle.tl_check.specs.Found.{AreFound}

-- What one capture finds, and what the others do.
finds_cases : (c : Capture) (cs : List Capture) (row : Row) → FindsIn (c ∷ cs) row → Finds c row ⊎ FindsIn cs row
finds_cases c cs row found = elim (contains_cases c cs found.0 found.1) [
  | inl is ↦ inl (subst (λ x. Finds x row) (sym is) found.2)
  | inr there ↦ inr (found.0, there, found.2)
]

finds_none : (row : Row) → FindsIn [] row → ⊥
finds_none row found = contains_none found.0 found.1

pub finds_alone : (c : Capture) (row : Row) → FindsIn (c ∷ []) row → Finds c row
finds_alone c row found = elim (finds_cases c [] row found) [ inl here ↦ here | inr none ↦ absurd (finds_none row none) ]

module _ (c : Capture) (cs : List Capture) (old found new : List Row) (put : new ≡ old ++ found) (is : IsReport (c ∷ []) found) (row : Row) where
  still : (All : Type 0) → (Contains old row ⊎ FindsIn (c ∷ cs) row → All) → Contains new row ⊎ FindsIn cs row → All
  still All known h = elim h [
    | inl a ↦ elim (Contains-append_cases old found row (subst (λ rows. Contains rows row) put a)) [
      | inl before ↦ known (inl before)
      | inr here ↦ known (inr (c, contains_here c cs, finds_alone c row ((is.members row).0 here)))
    ]
    | inr rest ↦ known (inr (rest.0, contains_there c cs rest.0 rest.1, rest.2))
  ]

  also : Contains old row ⊎ FindsIn (c ∷ cs) row → Contains new row ⊎ FindsIn cs row
  also h = elim h [
    | inl before ↦ inl (subst (λ rows. Contains rows row) (sym put) (Contains-append_left old found row before))
    | inr a ↦ elim (finds_cases c cs row a) [
      | inl here ↦ inl (subst (λ rows. Contains rows row) (sym put) (Contains-append_right old found row ((is.members row).1 (c, contains_here c [], here))))
      | inr rest ↦ inr rest
    ]
  ]

  pub next_capture : (All : Type 0) → ((Contains old row ⊎ FindsIn (c ∷ cs) row) ↔ All) → ((Contains new row ⊎ FindsIn cs row) ↔ All)
  next_capture All known = (still All known.0, λ a. also (known.1 a))

-- Before the first, and after the last.
pub first_capture : (cs : List Capture) (row : Row) → (Contains [] row ⊎ FindsIn cs row) ↔ FindsIn cs row
first_capture cs row = (λ h. elim h [ inl none ↦ absurd (contains_none row none) | inr found ↦ found ], λ found. inr found)

pub last_capture : (rows : List Row) (row : Row) (All : Type 0) → ((Contains rows row ⊎ FindsIn [] row) ↔ All) → (Contains rows row ↔ All)
last_capture rows row All known = (λ h. known.0 (inl h), λ a. elim (known.1 a) [ inl h ↦ h | inr none ↦ absurd (finds_none row none) ])

-- ---- the captures that are left

module _ (topo : Topology) (regions : ℕ → List Area) (fs : List Recorded) (k : ℕ) (rows : List Row) where
  pub one_manager_less : k < length topo.managers → (row : Row) (All : Type 0)
      → ((Contains rows row ⊎ FindsIn (captures_from topo regions fs k (drop k topo.managers)) row) ↔ All)
      → ((Contains rows row ⊎ FindsIn (capture_with topo regions fs k ∷ captures_from topo regions fs (k + 1) (drop (k + 1) topo.managers)) row) ↔ All)
  one_manager_less below row All known =
      let next : k + 1 ≡ suc k = omega arith in
      let first : drop k topo.managers ≡ get_or topo.managers k ([], 0) ∷ drop (k + 1) topo.managers = drop-cons topo.managers k ([], 0) below ∙ ap (λ n. get_or topo.managers k ([], 0) ∷ drop n topo.managers) (sym next) in
      subst (λ (managers : List (List ℕ × ℕ)). (Contains rows row ⊎ FindsIn (captures_from topo regions fs k managers) row) ↔ All) first known

  pub no_manager_left : length topo.managers ≤ k → (row : Row) (All : Type 0)
      → ((Contains rows row ⊎ FindsIn (captures_from topo regions fs k (drop k topo.managers)) row) ↔ All) → (Contains rows row ↔ All)
  no_manager_left past row All known =
      let none : drop k topo.managers ≡ [] = drop_of_length-le topo.managers past in
      last_capture rows row All (subst (λ (managers : List (List ℕ × ℕ)). (Contains rows row ⊎ FindsIn (captures_from topo regions fs k managers) row) ↔ All) none known)

module _ (topo : Topology) (fs : List Recorded) (watches : List (ℕ × Watch)) (k : ℕ) (rows : List Row) where
  pub one_watch_less : (e : ℕ × Watch) → e ≡ get_or watches k e → k < length watches → (row : Row) (All : Type 0)
      → ((Contains rows row ⊎ FindsIn (watch_captures topo fs (drop k watches)) row) ↔ All)
      → ((Contains rows row ⊎ FindsIn (watch_capture topo fs e ∷ watch_captures topo fs (drop (k + 1) watches)) row) ↔ All)
  one_watch_less e at below row All known =
      let next : suc k ≡ k + 1 = omega arith in
      let first : drop k watches ≡ e ∷ drop (k + 1) watches =
      drop-cons watches k e below ∙ ap (λ n. get_or watches k e ∷ drop n watches) next ∙ ap (λ x. x ∷ drop (k + 1) watches) (sym at) in
      subst (λ ws. (Contains rows row ⊎ FindsIn (watch_captures topo fs ws) row) ↔ All) first known

  pub no_watch_left : length watches ≤ k → (row : Row) (All : Type 0)
      → ((Contains rows row ⊎ FindsIn (watch_captures topo fs (drop k watches)) row) ↔ All) → (Contains rows row ↔ All)
  no_watch_left past row All known =
      let none : drop k watches ≡ [] = drop_of_length-le watches past in
      last_capture rows row All (subst (λ ws. (Contains rows row ⊎ FindsIn (watch_captures topo fs ws) row) ↔ All) none known)

-- What is read of the regions of all managers at a number, or none, is what the manager has.
pub own_areas : (regions : List (List (ℕ × Area))) (k : ℕ) (got : Option (Bor (List (ℕ × Area)))) (none own : Bor (List (ℕ × Area)))
    → own ≡ unwrap_or got none → none.now ≡ [] → is_some got ≡ nat_lt k (length regions) → IfSome got (λ x. x.now ≡ get_or regions k x.now)
    → areas_of own.now ≡ areas_at regions k
own_areas regions k None none own is empty test at =
    let past : length regions ≤ k = grind (arith, nat_tests) in
    ap (λ (r : Bor (List (ℕ × Area))). areas_of r.now) is ∙ ap areas_of empty ∙ sym (ap (λ found. option_map_or areas_of found []) (slice_get_past regions k past))
own_areas regions k (Some x) none own is empty test at =
    let below : k < length regions = grind (arith, nat_tests) in
    ap (λ (r : Bor (List (ℕ × Area))). areas_of r.now) is ∙ ap areas_of at
    ∙ sym (ap (λ found. option_map_or areas_of found []) (slice_get-get_or regions k x.now below))

-- ---- managers and monitors together

finds_left : (cs ds : List Capture) (row : Row) → FindsIn cs row → FindsIn (cs ++ ds) row
finds_left cs ds row found = (found.0, Contains-append_left cs ds found.0 found.1, found.2)

finds_right : (cs ds : List Capture) (row : Row) → FindsIn ds row → FindsIn (cs ++ ds) row
finds_right cs ds row found = (found.0, Contains-append_right cs ds found.0 found.1, found.2)

pub both_found : (cs ds : List Capture) (old found rows sorted : List Row) → AreFound cs old → AreFound ds found → rows ≡ old ++ found
    → ((row : Row) → Contains sorted row ↔ Contains rows row) → AreFound (cs ++ ds) sorted
both_found cs ds old found rows sorted first second put same row = (
  (λ h. elim (Contains-append_cases old found row (subst (λ rs. Contains rs row) put ((same row).0 h))) [
    | inl a ↦ finds_left cs ds row ((first row).0 a)
    | inr b ↦ finds_right cs ds row ((second row).0 b)
  ]),
  (λ is. (same row).1 (subst (λ rs. Contains rs row) (sym put) (elim (Contains-append_cases cs ds is.0 is.1) [
    | inl a ↦ Contains-append_left old found row ((first row).1 (is.0, a, is.2))
    | inr b ↦ Contains-append_right old found row ((second row).1 (is.0, b, is.2))
  ]))),
)
