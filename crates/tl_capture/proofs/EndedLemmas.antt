-- Fragments of a link that end by a cycle.
use Rattle.std.proofs.Common.{◌≡◌, ℕ, ◌<◌, ◌≤◌, inl, inr, true, false, cond, not, ◌&&◌, List, [], ◌∷◌, length, Option, Some, None, refl, sym, ap, subst, ◌∙◌, arith}
use Rattle.std.specs.Prelude.{filter, ◌==◌, nat_le, slice_get}
use Rattle.std.specs.Option.{option_map}
use Rattle.std.specs.declared.cmp.Ordering.TheVariants.{Less}
use Rattle.std.specs.Ordering.{nat_cmp}
use Rattle.std.specs.List.{Contains}
use Rattle.std.specs.List.Sorted.{IsStrictlySortedBy}
use Rattle.std.proofs.lemmas.Bool.Decides.{nat_tests}
use Rattle.std.proofs.lemmas.List.Elements.{All-tail, All-contains}
use Rattle.tl_definitions.specs.Positions.{Recorded}
use Rattle.tl_definitions.proofs.Lists.{contains_none, contains_here, contains_cases, contains_kept, kept_from, kept_order, none_kept, all_of}
use Rattle.tl_capture.specs.Present.{range_order, is_of, IsCapture, IsPresent, of_link, without, ends_by, without_ended}
use Rattle.tl_capture.specs.Ranges.{AreRanges}
use Rattle.tl_capture.proofs.EntryLemmas.{all_kept}
use Rattle.tl_capture.proofs.PresentLemmas.{less_cases, less_is, ranges_tail}
use Rattle.tl_capture.proofs.NumberLemmas.{one_number, kept_fewer}

abbrev pub first_number : ℕ → ℕ → List Recorded → Option ℕ
first_number link cycle fs = option_map (λ (f : Recorded). f.number) (slice_get (filter (ends_by link cycle) fs) 0)

-- ---- the first of a link

-- No fragment of a link ends before its first.
pub first_is_least : (link : ℕ) (fs : List Recorded) (f : Recorded) → AreRanges fs → slice_get (of_link link fs) 0 ≡ Some f → (x : Recorded) → Contains fs x → (x.link == link) ≡ true → f.last ≤ x.last
unfolding IsStrictlySortedBy
first_is_least link [] f is h x has of = absurd (contains_none x has)
first_is_least link (g ∷ fs) f is h x has of = elim (g.link == link) as (λ t. (g.link == link) ≡ t → slice_get (cond t (g ∷ of_link link fs) (of_link link fs)) 0 ≡ Some f → f.last ≤ x.last) [
  | true ↦ λ t e. (let same : g ≡ f = cc in let last : g.last ≡ f.last = ap (λ (r : Recorded). r.last) same in
      elim (contains_cases g fs x has) [
        | inl here ↦ (let own : g.last ≡ x.last = ap (λ (r : Recorded). r.last) here in omega arith)
        | inr there ↦ elim (less_cases (nat_cmp g.link x.link) (nat_cmp g.last x.first) (all_of (λ y. range_order g y ≡ Less) fs is.apart.0 x there)) [
          | inl by_link ↦ (let lt = less_is g.link x.link by_link in let here : g.link ≡ link = grind (arith, nat_tests) in let other : x.link ≡ link = grind (arith, nat_tests) in omega arith)
          | inr by_range ↦ (let lt = less_is g.last x.first by_range.1 in let order = (All-contains IsCapture fs x (All-tail IsCapture g fs is.each) there).order in omega (arith, lt, order, last))
        ]
      ])
  | false ↦ λ t e. elim (contains_cases g fs x has) [
    | inl here ↦ (let wrong : true ≡ false = sym of ∙ ap (λ (r : Recorded). r.link == link) (sym here) ∙ t in cc)
    | inr there ↦ first_is_least link fs f (ranges_tail g fs is) e x there of
  ]
] refl h

-- It is the first that ends by a cycle, where it does,
pub first_ends : (link cycle : ℕ) (fs : List Recorded) (f : Recorded) → slice_get (of_link link fs) 0 ≡ Some f → nat_le f.last cycle ≡ true → slice_get (filter (ends_by link cycle) fs) 0 ≡ Some f
first_ends link cycle [] f h ends = cc
first_ends link cycle (g ∷ fs) f h ends = elim (g.link == link) as (λ t. slice_get (cond t (g ∷ of_link link fs) (of_link link fs)) 0 ≡ Some f
    → slice_get (cond (t && nat_le g.last cycle) (g ∷ filter (ends_by link cycle) fs) (filter (ends_by link cycle) fs)) 0 ≡ Some f) [
      | true ↦ λ e. (let same : g ≡ f = cc in let own : nat_le g.last cycle ≡ true = ap (λ (r : Recorded). nat_le r.last cycle) same ∙ ends in
          ap (λ t. slice_get (cond t (g ∷ filter (ends_by link cycle) fs) (filter (ends_by link cycle) fs)) 0) own ∙ e)
      | false ↦ λ e. first_ends link cycle fs f e ends
    ] h

-- and else none does.
pub none_ends : (link cycle : ℕ) (fs : List Recorded) (f : Recorded) → AreRanges fs → slice_get (of_link link fs) 0 ≡ Some f → nat_le f.last cycle ≡ false → filter (ends_by link cycle) fs ≡ []
none_ends link cycle fs f is h later = none_kept (ends_by link cycle) fs (λ x has. elim (x.link == link) as (λ t. (x.link == link) ≡ t → (t && nat_le x.last cycle) ≡ false) [
  | true ↦ λ of. (let least = first_is_least link fs f is h x has of in grind (arith, nat_tests))
  | false ↦ λ of. refl
] refl)

pub none_there : (link cycle : ℕ) (fs : List Recorded) → slice_get (of_link link fs) 0 ≡ None → filter (ends_by link cycle) fs ≡ []
none_there link cycle [] h = refl
none_there link cycle (g ∷ fs) h = elim (g.link == link) as (λ t. slice_get (cond t (g ∷ of_link link fs) (of_link link fs)) 0 ≡ None
    → cond (t && nat_le g.last cycle) (g ∷ filter (ends_by link cycle) fs) (filter (ends_by link cycle) fs) ≡ []) [
      | true ↦ λ e. cc
      | false ↦ λ e. none_there link cycle fs e
    ] h

-- ---- those that end go one after the other

first_has : (fs : List Recorded) (f : Recorded) → slice_get fs 0 ≡ Some f → Contains fs f
first_has [] f h = cc
first_has (g ∷ fs) f h = let same : g ≡ f = cc in subst (Contains (g ∷ fs)) same (contains_here g fs)

some_number : (o : Option Recorded) (number : ℕ) → option_map (λ (f : Recorded). f.number) o ≡ Some number → (f : Recorded) × (o ≡ Some f) × (f.number ≡ number)
some_number None number h = cc
some_number (Some f) number h = (f, refl, (let e : Some f.number ≡ Some number = h in cc))

no_number : (o : Option Recorded) → option_map (λ (f : Recorded). f.number) o ≡ None → o ≡ None
no_number None h = refl
no_number (Some f) h = cc

-- The one that goes.
ended : (link cycle number : ℕ) (fs : List Recorded) → first_number link cycle fs ≡ Some number → (f : Recorded) × Contains fs f × (ends_by link cycle f ≡ true) × (is_of link number f ≡ true)
ended link cycle number fs h =
    let known = some_number (slice_get (filter (ends_by link cycle) fs) 0) number h in
    let kept = kept_from (ends_by link cycle) fs known.0 (first_has (filter (ends_by link cycle) fs) known.0 known.1) in
    let ends : ends_by link cycle known.0 ≡ true = kept.1 in
    let same : known.0.number ≡ number = known.2 in
    let of : is_of link number known.0 ≡ true = grind (arith, nat_tests) in
    (known.0, kept.0, kept.1, of)

pub fewer_ended : (link cycle number : ℕ) (fs : List Recorded) → first_number link cycle fs ≡ Some number → length (without link number fs) < length fs
fewer_ended link cycle number fs h = let known = ended link cycle number fs h in kept_fewer (λ f. not (is_of link number f)) fs known.0 known.1 (ap not known.3)

pub ended_without : (link cycle number : ℕ) (fs : List Recorded) → IsPresent fs → first_number link cycle fs ≡ Some number → without_ended link cycle (without link number fs) ≡ without_ended link cycle fs
ended_without link cycle number fs is h =
    let known = ended link cycle number fs h in
    kept_order (λ f. not (ends_by link cycle f)) (λ f. not (is_of link number f)) fs
    ∙ all_kept (λ f. not (is_of link number f)) (without_ended link cycle fs) (λ x has.
    let kept = kept_from (λ f. not (ends_by link cycle f)) fs x has in
    elim (is_of link number x) as (λ t. is_of link number x ≡ t → not t ≡ true) [
      | true ↦ λ of. (let first : is_of link number known.0 ≡ true = known.3 in let alike : is_of known.0.link known.0.number x ≡ true = grind (arith, nat_tests) in
          let same = one_number fs is.numbers known.0 x known.1 kept.0 alike in
          let wrong : true ≡ false = sym kept.1 ∙ ap (λ (f : Recorded). not (ends_by link cycle f)) (sym same) ∙ ap not known.2 in cc)
      | false ↦ λ of. refl
    ] refl)

pub ended_none : (link cycle : ℕ) (fs : List Recorded) → first_number link cycle fs ≡ None → without_ended link cycle fs ≡ fs
ended_none link cycle fs h = all_kept (λ f. not (ends_by link cycle f)) fs (λ x has. elim (ends_by link cycle x) as (λ t. ends_by link cycle x ≡ t → not t ≡ true) [
  | true ↦ λ ends. absurd (nothing (filter (ends_by link cycle) fs) x (no_number (slice_get (filter (ends_by link cycle) fs) 0) h) (contains_kept (ends_by link cycle) fs x has ends))
  | false ↦ λ ends. refl
] refl)
  where
    nothing : (gs : List Recorded) (x : Recorded) → slice_get gs 0 ≡ None → Contains gs x → ⊥
    nothing [] x none has = contains_none x has
    nothing (g ∷ gs) x none has = cc
