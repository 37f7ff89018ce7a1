-- Beats of links that pass a test, put in order.
use Rattle.std.proofs.Common.{◌≡◌, ℕ, ◌<◌, ◌⊎◌, inl, inr, Bool, true, false, List, [], ◌∷◌, ◌++◌, refl, subst, arith}
use Rattle.std.specs.Prelude.{filter, ◌==◌, ◌||◌}
use Rattle.std.specs.declared.cmp.Ordering.TheVariants.{Less}
use Rattle.std.specs.Ordering.{nat_cmp}
use Rattle.std.specs.List.{Contains, list_any}
use Rattle.std.specs.List.Sorted.{IsStrictlySortedBy, IsPermutation}
use Rattle.std.proofs.lemmas.Bool.Decides.{nat_tests}
use Rattle.std.proofs.lemmas.List.Elements.{Contains-append_left, Contains-append_right, Contains-append_cases}
use Rattle.std.proofs.lemmas.List.Kept.{IsStrictlySortedBy-filter}
use Rattle.std.proofs.lemmas.List.Sorted.{Contains-permutation, IsPermutation-sym}
use Rattle.tl_beats.specs.declared.Placed.{Placed}
use Rattle.tl_definitions.specs.Positions.{Recorded, placed_beats, all_placed, position_order, AreInOrder, beats_of_all}
use Rattle.tl_definitions.proofs.Lists.{contains_none, contains_here, contains_there, contains_kept, kept_from, all_of}
use Rattle.tl_definitions.proofs.OrderLaws.{then_less, below}
use Rattle.tl_definitions.proofs.PositionLaws.{beats_are_in_order, position_total}
use Rattle.tl_definitions.proofs.RisingLaws.{strict_both}
use Rattle.tl_definitions.proofs.ReportLaws.{strict_one}
use Rattle.tl_capture.specs.Ranges.{AreRanges}
use Rattle.tl_capture.proofs.OrderLemmas.{link_order, link_total, apart_by_link, moved_apart, strict_from}
use Rattle.tl_capture.proofs.PresentLemmas.{ranges_kept, placed_strict, beats_rise, placed_is_of, placed_from_some, some_placed, less_is}

-- ---- the beats of a window of one link, and of links one after the other

abbrev pub own : (Placed → Bool) → ℕ → List Recorded → List Placed
own keep link fs = filter keep (all_placed (filter (λ f. f.link == link) fs))

abbrev pub pushed : (Placed → Bool) → List ℕ → List Recorded → List Placed
pushed keep [] fs = []
pushed keep (link ∷ links) fs = own keep link fs ++ pushed keep links fs

abbrev pub of_links : List ℕ → Recorded → Bool
of_links links f = list_any (λ link. f.link == link) links

-- What it is to be a beat of the window of these links.
abbrev pub IsOne : (Placed → Bool) → List ℕ → List Recorded → Placed → Type 0
IsOne keep links fs p = (keep p ≡ true) × ((f : Recorded) × Contains fs f × (of_links links f ≡ true) × Contains (placed_beats f) p)

pub gathered_from : (keep : Placed → Bool) (links : List ℕ) (fs : List Recorded) (p : Placed) → Contains (filter keep (beats_of_all links fs)) p → IsOne keep links fs p
gathered_from keep links fs p h =
    let kept = kept_from (keep) (beats_of_all links fs) p h in
    (kept.1, ((beats_are_in_order links fs).1 p).0 kept.0)

pub gathered_has : (keep : Placed → Bool) (links : List ℕ) (fs : List Recorded) (p : Placed) → IsOne keep links fs p → Contains (filter keep (beats_of_all links fs)) p
gathered_has keep links fs p h = contains_kept (keep) (beats_of_all links fs) p (((beats_are_in_order links fs).1 p).1 h.1) h.0

own_from : (keep : Placed → Bool) (link : ℕ) (fs : List Recorded) (p : Placed) → Contains (own keep link fs) p → (keep p ≡ true) × ((f : Recorded) × Contains fs f × ((f.link == link) ≡ true) × Contains (placed_beats f) p)
own_from keep link fs p h =
    let kept = kept_from (keep) (all_placed (filter (λ (f : Recorded). f.link == link) fs)) p h in
    let found = placed_from_some (filter (λ (f : Recorded). f.link == link) fs) p kept.0 in
    let of = kept_from (λ (f : Recorded). f.link == link) fs found.0 found.1 in
    (kept.1, (found.0, of.0, of.1, found.2))

own_has : (keep : Placed → Bool) (link : ℕ) (fs : List Recorded) (p : Placed) (f : Recorded) → keep p ≡ true → Contains fs f → (f.link == link) ≡ true → Contains (placed_beats f) p → Contains (own keep link fs) p
own_has keep link fs p f lies has of at =
    contains_kept (keep) (all_placed (filter (λ (f : Recorded). f.link == link) fs)) p
    (some_placed (filter (λ (f : Recorded). f.link == link) fs) f p (contains_kept (λ (f : Recorded). f.link == link) fs f has of) at) lies

pub or_left : (s t : Bool) → s ≡ true → (s || t) ≡ true
or_left true t h = refl
or_left false t h = cc

pub or_right : (s t : Bool) → t ≡ true → (s || t) ≡ true
or_right true t h = refl
or_right false t h = h

or_cases : (s t : Bool) → (s || t) ≡ true → (s ≡ true) ⊎ (t ≡ true)
or_cases true t h = inl refl
or_cases false t h = inr h

pub pushed_from : (keep : Placed → Bool) (links : List ℕ) (fs : List Recorded) (p : Placed) → Contains (pushed keep links fs) p → IsOne keep links fs p
pushed_from keep [] fs p h = absurd (contains_none p h)
pushed_from keep (link ∷ links) fs p h = elim (Contains-append_cases (own keep link fs) (pushed keep links fs) p h) [
  | inl here ↦ (let found = own_from keep link fs p here in
      (found.0, (found.1.0, found.1.1, or_left (found.1.0.link == link) (of_links links found.1.0) found.1.2, found.1.3)))
  | inr there ↦ (let found = pushed_from keep links fs p there in
      (found.0, (found.1.0, found.1.1, or_right (found.1.0.link == link) (of_links links found.1.0) found.1.2, found.1.3)))
]

pub pushed_has : (keep : Placed → Bool) (links : List ℕ) (fs : List Recorded) (p : Placed) → IsOne keep links fs p → Contains (pushed keep links fs) p
pushed_has keep [] fs p h = let of : of_links [] h.1.0 ≡ true = h.1.2 in let wrong : false ≡ true = of in cc
pushed_has keep (link ∷ links) fs p h = elim (or_cases (h.1.0.link == link) (of_links links h.1.0) h.1.2) [
  | inl here ↦ Contains-append_left (own keep link fs) (pushed keep links fs) p (own_has keep link fs p h.1.0 h.0 h.1.1 here h.1.3)
  | inr there ↦ Contains-append_right (own keep link fs) (pushed keep links fs) p (pushed_has keep links fs p (h.0, (h.1.0, h.1.1, there, h.1.3)))
]

-- A beat's link is one of the links.
pub link_of_any : (links : List ℕ) (n : ℕ) → list_any (λ link. n == link) links ≡ true → Contains links n
link_of_any [] n h = let wrong : false ≡ true = h in cc
link_of_any (link ∷ links) n h = elim (or_cases (n == link) (list_any (λ link. n == link) links) h) [
  | inl here ↦ (let same : link ≡ n = grind (arith, nat_tests) in subst (Contains (link ∷ links)) same (contains_here link links))
  | inr there ↦ contains_there link links n (link_of_any links n there)
]

pub pushed_rise : (keep : Placed → Bool) (links : List ℕ) (fs : List Recorded) → AreRanges fs → IsStrictlySortedBy nat_cmp links → IsStrictlySortedBy link_order (pushed keep links fs)
unfolding IsStrictlySortedBy
pushed_rise keep [] fs is s = tt
pushed_rise keep (link ∷ links) fs is s =
    let of_link : Recorded → Bool = λ f. f.link == link in
    strict_both link_order link_total (own keep link fs) (pushed keep links fs)
    (IsStrictlySortedBy-filter link_order (keep) (all_placed (filter of_link fs)) (placed_strict (filter of_link fs) (ranges_kept of_link fs is)))
    (pushed_rise keep links fs is s.1)
    (λ p q h g. let one = own_from keep link fs p h in let two = pushed_from keep links fs q g in
    let here = placed_is_of one.1.0.link one.1.0.number 2 one.1.0.beats p one.1.3 in
    let there = placed_is_of two.1.0.link two.1.0.number 2 two.1.0.beats q two.1.3 in
    let test : (one.1.0.link == link) ≡ true = one.1.2 in
    let same : one.1.0.link ≡ link = grind (arith, nat_tests) in
    let lower : link < two.1.0.link = less_is link two.1.0.link (all_of (λ n. nat_cmp link n ≡ Less) links s.0 two.1.0.link (link_of_any links two.1.0.link two.1.2)) in
    let first : p.link ≡ one.1.0.link = here.0 in let second : q.link ≡ two.1.0.link = there.0 in
    then_less (nat_cmp p.link q.link) _ (below p.link q.link (omega arith)))

-- What was pushed, put in order in place, is the beats of the window.
pub gathered : (keep : Placed → Bool) (links : List ℕ) (fs : List Recorded) (before after : List Placed) → AreRanges fs → IsStrictlySortedBy nat_cmp links → before ≡ pushed keep links fs
    → IsPermutation before after → AreInOrder after → after ≡ filter keep (beats_of_all links fs)
gathered keep links fs before after is s same moved order =
    let from : IsPermutation (pushed keep links fs) after = subst (λ ps. IsPermutation ps after) same moved in
    let apart = moved_apart (pushed keep links fs) after from (apart_by_link (pushed keep links fs) (pushed_rise keep links fs is s)) in
    strict_one position_order position_total after (filter keep (beats_of_all links fs)) (strict_from after order apart)
    (IsStrictlySortedBy-filter position_order (keep) (beats_of_all links fs) (beats_rise links fs is))
    (λ p. (
      (λ h. gathered_has keep links fs p (pushed_from keep links fs p (Contains-permutation after (pushed keep links fs) p (IsPermutation-sym (pushed keep links fs) after from) h))),
      (λ h. Contains-permutation (pushed keep links fs) after p from (pushed_has keep links fs p (gathered_from keep links fs p h))),
    ))
