-- How far links have come.
use Rattle.std.proofs.Common.{◌≡◌, ℕ, ◌<◌, ◌≤◌, inl, inr, Bool, true, false, ◌&&◌, ◌||◌, List, [], ◌∷◌, Option, Some, None, refl, sym, ap, subst, ◌∙◌, arith}
use Rattle.std.specs.Prelude.{◌==◌, nat_le}
use Rattle.std.specs.Option.{option_map_or}
use Rattle.std.specs.List.{Contains, list_any, list_all}
use Rattle.std.proofs.lemmas.Bool.Decides.{nat_tests}
use Rattle.tl_definitions.specs.Positions.{Recorded}
use Rattle.tl_definitions.proofs.Lists.{contains_none, contains_here, contains_there, contains_cases}
use Rattle.tl_capture.specs.Present.{put_in}
use Rattle.tl_capture.proofs.GatherLemmas.{or_left, or_right}
use Rattle.tl_capture.proofs.PutLemmas.{put_from}
use Rattle.tl_capture.proofs.TouchLemmas.{put_has, put_here}
use Rattle.tl_capture.proofs.WalkLemmas.{both}
use Rattle.tl_stream.specs.Fronts.{front_at, has_reached, is_covered, is_complete, IsNewest, IsFrontOf}
use Rattle.tl_stream.specs.declared.front.Front.{Front}

-- ---- tests of lists

module _ {X : Type 0} where
  pub any_by : (p : X → Bool) (xs : List X) (x : X) → Contains xs x → p x ≡ true → list_any p xs ≡ true
  any_by p [] x h t = absurd (contains_none x h)
  any_by p (y ∷ xs) x h t = elim (contains_cases y xs x h) [
    | inl is ↦ or_left (p y) (list_any p xs) (ap p is ∙ t)
    | inr there ↦ or_right (p y) (list_any p xs) (any_by p xs x there t)
  ]

  pub any_from : (p : X → Bool) (xs : List X) → list_any p xs ≡ true → (x : X) × Contains xs x × (p x ≡ true)
  any_from p [] h = let wrong : false ≡ true = h in cc
  any_from p (y ∷ xs) h = elim (p y) as (λ t. p y ≡ t → (t || list_any p xs) ≡ true → (x : X) × Contains (y ∷ xs) x × (p x ≡ true)) [
    | true ↦ λ e g. (y, contains_here y xs, e)
    | false ↦ λ e g. (let known = any_from p xs g in (known.0, contains_there y xs known.0 known.1, known.2))
  ] refl h

  pub any_none : (p : X → Bool) (xs : List X) → ((x : X) → Contains xs x → p x ≡ false) → list_any p xs ≡ false
  any_none p xs none = elim (list_any p xs) as (λ t. list_any p xs ≡ t → t ≡ false) [
    | true ↦ λ e. (let known = any_from p xs e in sym known.2 ∙ none known.0 known.1)
    | false ↦ λ e. refl
  ] refl

  pub every : (p : X → Bool) (xs : List X) → list_all p xs ≡ true → (x : X) → Contains xs x → p x ≡ true
  every p [] h x c = absurd (contains_none x c)
  every p (y ∷ xs) h x c = let each = both (p y) (list_all p xs) h in elim (contains_cases y xs x c) [
    | inl is ↦ sym (ap p is) ∙ each.0
    | inr there ↦ every p xs each.1 x there
  ]

  pub all_by_each : (p : X → Bool) (xs : List X) → ((x : X) → Contains xs x → p x ≡ true) → list_all p xs ≡ true
  all_by_each p [] h = refl
  all_by_each p (x ∷ xs) h = ap (λ t. t && list_all p xs) (h x (contains_here x xs)) ∙ all_by_each p xs (λ y c. h y (contains_there x xs y c))

  pub same_all : (p q : X → Bool) (xs : List X) → ((x : X) → Contains xs x → p x ≡ q x) → list_all p xs ≡ list_all q xs
  same_all p q [] h = refl
  same_all p q (x ∷ xs) h = ap (λ t. t && list_all p xs) (h x (contains_here x xs)) ∙ ap (λ t. q x && t) (same_all p q xs (λ y c. h y (contains_there x xs y c)))

-- ---- fronts and fragments

-- A link has a fragment that ends with a cycle or after it exactly where its front has reached the cycle.
covered_by : (fs : List Recorded) (link cycle : ℕ) (front : Option Front) → IsFrontOf link fs front → is_covered fs cycle link ≡ option_map_or (λ (f : Front). nat_le cycle f.last) front false
covered_by fs link cycle None none = any_none (λ (f : Recorded). f.link == link && nat_le cycle f.last) fs (λ f h. elim (f.link == link) as (λ t. (f.link == link) ≡ t → (t && nat_le cycle f.last) ≡ false) [
  | true ↦ λ of. (let same : f.link ≡ link = grind (arith, nat_tests) in absurd (none f h same))
  | false ↦ λ of. refl
] refl)
covered_by fs link cycle (Some front) newest = elim (nat_le cycle front.last) as (λ t. nat_le cycle front.last ≡ t → is_covered fs cycle link ≡ t) [
  | true ↦ λ e. (let of : newest.one.0.link ≡ link = newest.one.2 in let last : newest.one.0.last ≡ front.last = newest.one.4 in
      let test : (newest.one.0.link == link && nat_le cycle newest.one.0.last) ≡ true = grind (arith, nat_tests) in
      any_by (λ (f : Recorded). f.link == link && nat_le cycle f.last) fs newest.one.0 newest.one.1 test)
  | false ↦ λ e. any_none (λ (f : Recorded). f.link == link && nat_le cycle f.last) fs (λ f h. elim (f.link == link) as (λ t. (f.link == link) ≡ t → (t && nat_le cycle f.last) ≡ false) [
    | true ↦ λ of. (let same : f.link ≡ link = grind (arith, nat_tests) in let lower : f.last ≤ front.last = newest.ranges f h same in
        let late : nat_le cycle f.last ≡ false = grind (arith, nat_tests) in late)
    | false ↦ λ of. refl
  ] refl)
] refl

pub covered_is_reached : (fs : List Recorded) (fronts : List (Option Front)) (link cycle : ℕ) → IsFrontOf link fs (front_at fronts link) → is_covered fs cycle link ≡ has_reached fronts cycle link
covered_is_reached fs fronts link cycle is = covered_by fs link cycle (front_at fronts link) is

-- A cycle is complete for links exactly where all their fronts have reached it.
pub complete_is_reached : (fs : List Recorded) (fronts : List (Option Front)) (links : List ℕ) (cycle : ℕ) → ((link : ℕ) → IsFrontOf link fs (front_at fronts link))
    → is_complete links fs cycle ≡ list_all (has_reached fronts cycle) links
complete_is_reached fs fronts links cycle are = same_all (is_covered fs cycle) (has_reached fronts cycle) links (λ link h. covered_is_reached fs fronts link cycle (are link))

-- ---- one fragment more

-- It is newer than all of its link.
abbrev pub IsNewer : List Recorded → Recorded → Type 0
IsNewer fs f = (g : Recorded) → Contains fs g → g.link ≡ f.link → (g.number < f.number) × (g.last < f.first)

-- A cycle that is covered stays so,
pub covered_stays : (fs : List Recorded) (f : Recorded) (cycle link : ℕ) → is_covered fs cycle link ≡ true → is_covered (put_in f fs) cycle link ≡ true
covered_stays fs f cycle link h =
    let known = any_from (λ (g : Recorded). g.link == link && nat_le cycle g.last) fs h in
    any_by (λ (g : Recorded). g.link == link && nat_le cycle g.last) (put_in f fs) known.0 (put_has f fs known.0 known.1) known.2

pub complete_stays : (links : List ℕ) (fs : List Recorded) (f : Recorded) (cycle : ℕ) → is_complete links fs cycle ≡ true → is_complete links (put_in f fs) cycle ≡ true
complete_stays links fs f cycle h = all_by_each (is_covered (put_in f fs) cycle) links (λ link c. covered_stays fs f cycle link (every (is_covered fs cycle) links h link c))

-- and on other links nothing is covered with it.
pub covered_elsewhere : (fs : List Recorded) (f : Recorded) (cycle link : ℕ) → (f.link ≡ link → ⊥) → is_covered (put_in f fs) cycle link ≡ is_covered fs cycle link
covered_elsewhere fs f cycle link other = elim (is_covered fs cycle link) as (λ t. is_covered fs cycle link ≡ t → is_covered (put_in f fs) cycle link ≡ t) [
  | true ↦ λ e. covered_stays fs f cycle link e
  | false ↦ λ e. any_none (λ (g : Recorded). g.link == link && nat_le cycle g.last) (put_in f fs) (λ g h. elim (put_from f fs g h) [
    | inl same ↦ elim (g.link == link) as (λ t. (g.link == link) ≡ t → (t && nat_le cycle g.last) ≡ false) [
      | true ↦ λ of. (let is : g.link ≡ link = grind (arith, nat_tests) in absurd (other (ap (λ (r : Recorded). r.link) same ∙ is)))
      | false ↦ λ of. refl
    ] refl
    | inr there ↦ elim (g.link == link && nat_le cycle g.last) as (λ t. (g.link == link && nat_le cycle g.last) ≡ t → t ≡ false) [
      | true ↦ λ yes. sym (any_by (λ (r : Recorded). r.link == link && nat_le cycle r.last) fs g there yes) ∙ e
      | false ↦ λ yes. refl
    ] refl
  ])
] refl

pub complete_elsewhere : (links : List ℕ) (fs : List Recorded) (f : Recorded) (cycle : ℕ) → (Contains links f.link → ⊥) → is_complete links (put_in f fs) cycle ≡ is_complete links fs cycle
complete_elsewhere links fs f cycle none = same_all (is_covered (put_in f fs) cycle) (is_covered fs cycle) links (λ link h. covered_elsewhere fs f cycle link (λ same. none (subst (Contains links) (sym same) h)))

-- It is the newest of its link,
pub newest_is : (fs : List Recorded) (f : Recorded) (front : Front) → IsNewer fs f → front.number ≡ f.number → front.last ≡ f.last → f.first ≤ f.last → IsNewest f.link (put_in f fs) front
newest_is fs f front newer number last order = record {
  one = (f, put_here f fs, refl, sym number, sym last);
  numbers = λ g h of. elim (put_from f fs g h) [
    | inl same ↦ (let own : f.number ≡ g.number = ap (λ (r : Recorded). r.number) same in omega (arith, own, number))
    | inr there ↦ (let less : g.number < f.number = (newer g there of).0 in omega (arith, less, number))
  ];
  ranges = λ g h of. elim (put_from f fs g h) [
    | inl same ↦ (let own : f.last ≡ g.last = ap (λ (r : Recorded). r.last) same in omega (arith, own, last))
    | inr there ↦ (let less : g.last < f.first = (newer g there of).1 in omega (arith, less, last, order))
  ];
}

-- and the fronts of other links stay.
pub front_elsewhere : (fs : List Recorded) (f : Recorded) (link : ℕ) (front : Option Front) → (f.link ≡ link → ⊥) → IsFrontOf link fs front → IsFrontOf link (put_in f fs) front
front_elsewhere fs f link None other none = λ g h of. elim (put_from f fs g h) [
  | inl same ↦ other (ap (λ (r : Recorded). r.link) same ∙ of)
  | inr there ↦ none g there of
]
front_elsewhere fs f link (Some front) other newest = record {
  one = (newest.one.0, put_has f fs newest.one.0 newest.one.1, newest.one.2, newest.one.3, newest.one.4);
  numbers = λ g h of. elim (put_from f fs g h) [
    | inl same ↦ absurd (other (ap (λ (r : Recorded). r.link) same ∙ of))
    | inr there ↦ newest.numbers g there of
  ];
  ranges = λ g h of. elim (put_from f fs g h) [
    | inl same ↦ absurd (other (ap (λ (r : Recorded). r.link) same ∙ of))
    | inr there ↦ newest.ranges g there of
  ];
}
