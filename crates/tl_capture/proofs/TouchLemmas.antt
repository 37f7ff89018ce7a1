-- What fragments that come and go leave as it was in a window.
use Rattle.std.proofs.Common.{◌≡◌, ℕ, inl, inr, true, false, cond, not, List, [], ◌∷◌, Some, None, refl, sym, ap, subst, ◌∙◌, arith}
use Rattle.std.specs.Prelude.{◌==◌}
use Rattle.std.specs.Ordering.{is_lt}
use Rattle.std.specs.List.{Contains}
use Rattle.std.proofs.lemmas.Bool.Decides.{nat_tests}
use Rattle.std.proofs.lemmas.List.Kept.{IsStrictlySortedBy-filter}
use Rattle.tl_beats.specs.declared.Placed.{Placed}
use Rattle.tl_definitions.specs.Positions.{Recorded, position_order, beats_of_all}
use Rattle.tl_definitions.proofs.Lists.{contains_none, contains_here, contains_there, contains_cases, contains_kept, kept_from, all_of}
use Rattle.tl_definitions.proofs.PositionLaws.{beats_are_in_order, beats_are_of_fragments, position_total}
use Rattle.tl_definitions.proofs.ReportLaws.{strict_one}
use Rattle.tl_capture.specs.Present.{IsPresent, range_order, is_of, numbered, put_in, without, cleared}
use Rattle.tl_capture.specs.Windows.{window_of, lies_in, beats_in}
use Rattle.tl_capture.specs.Touch.{Meets, WindowsAreTheirBeats, PutsAreLocal, TakesAreLocal, ClearsAreLocal}
use Rattle.tl_capture.proofs.PresentLemmas.{ranges_of, beats_rise}
use Rattle.tl_capture.proofs.PutLemmas.{put_from}
use Rattle.tl_capture.proofs.GatherLemmas.{link_of_any}
use Rattle.tl_capture.proofs.NumberLemmas.{found_from, one_number, present_kept, absent_all}

-- ---- the same beats

moved : (window : ℕ) (ps qs : List Placed) (p : Placed) → (window_of p.beat.cycle ≡ window → Contains ps p → Contains qs p) → Contains (beats_in window ps) p → Contains (beats_in window qs) p
moved window ps qs p over h =
    let kept = kept_from (lies_in window) ps p h in
    let test : (window_of p.beat.cycle == window) ≡ true = kept.1 in
    let same : window_of p.beat.cycle ≡ window = grind (arith, nat_tests) in
    contains_kept (lies_in window) qs p (over same kept.0) kept.1

pub windows_are_their_beats : WindowsAreTheirBeats
windows_are_their_beats links fs gs window is are same =
    let ps : List Placed = beats_of_all links fs in
    let qs : List Placed = beats_of_all links gs in
    strict_one position_order position_total (beats_in window ps) (beats_in window qs)
    (IsStrictlySortedBy-filter position_order (lies_in window) ps (beats_rise links fs (ranges_of fs is)))
    (IsStrictlySortedBy-filter position_order (lies_in window) qs (beats_rise links gs (ranges_of gs are)))
    (λ p. (moved window ps qs p (λ here. (same p here).0), moved window qs ps p (λ here. (same p here).1)))

-- ---- the same fragments

abbrev AreAlso : List ℕ → ℕ → List Recorded → List Recorded → Type 0
AreAlso links window fs gs = (f : Recorded) → Contains fs f → Meets links window f → Contains gs f

carried : (links : List ℕ) (window : ℕ) (fs gs : List Recorded) → AreAlso links window fs gs → (p : Placed) → window_of p.beat.cycle ≡ window → Contains (beats_of_all links fs) p → Contains (beats_of_all links gs) p
carried links window fs gs also p here h =
    let found = ((beats_are_in_order links fs).1 p).0 h in
    ((beats_are_in_order links gs).1 p).1 (found.0, also found.0 found.1 (link_of_any links found.0.link found.2, (p, found.3, here)), found.2, found.3)

same_fragments : (links : List ℕ) (window : ℕ) (fs gs : List Recorded) → IsPresent fs → IsPresent gs → AreAlso links window fs gs → AreAlso links window gs fs
    → beats_in window (beats_of_all links fs) ≡ beats_in window (beats_of_all links gs)
same_fragments links window fs gs is are also back =
    windows_are_their_beats links fs gs window is are (λ p here. (carried links window fs gs also p here, carried links window gs fs back p here))

-- ---- one comes

pub put_has : (f : Recorded) (fs : List Recorded) (x : Recorded) → Contains fs x → Contains (put_in f fs) x
put_has f [] x h = absurd (contains_none x h)
put_has f (g ∷ fs) x h = elim (is_lt (range_order f g)) as (λ b. Contains (cond b (f ∷ g ∷ fs) (g ∷ put_in f fs)) x) [
  | true ↦ contains_there f (g ∷ fs) x h
  | false ↦ elim (contains_cases g fs x h) [
    | inl is ↦ subst (Contains (g ∷ put_in f fs)) is (contains_here g (put_in f fs))
    | inr there ↦ contains_there g (put_in f fs) x (put_has f fs x there)
  ]
]

pub put_here : (f : Recorded) (fs : List Recorded) → Contains (put_in f fs) f
put_here f [] = contains_here f []
put_here f (g ∷ fs) = elim (is_lt (range_order f g)) as (λ b. Contains (cond b (f ∷ g ∷ fs) (g ∷ put_in f fs)) f) [
  | true ↦ contains_here f (g ∷ fs)
  | false ↦ contains_there g (put_in f fs) f (put_here f fs)
]

pub puts_are_local : PutsAreLocal
puts_are_local links f fs window is are none = same_fragments links window (put_in f fs) fs are is
    (λ g h meets. elim (put_from f fs g h) [ inl same ↦ absurd (none (subst (Meets links window) (sym same) meets)) | inr there ↦ there ])
    (λ g h meets. put_has f fs g h)

-- ---- one goes

pub some_of : (link number : ℕ) (fs : List Recorded) (f : Recorded) → IsPresent fs → Contains fs f → is_of link number f ≡ true → numbered link number fs ≡ Some f
some_of link number fs f is has of = elim (numbered link number fs) as (λ o. numbered link number fs ≡ o → o ≡ Some f) [
  | None ↦ λ none. (let no : is_of link number f ≡ false = all_of (λ g. is_of link number g ≡ false) fs (absent_all link number fs none) f has in
      let wrong : true ≡ false = sym of ∙ no in cc)
  | Some g ↦ λ found. (let known = found_from (is_of link number) fs g found in
      let test : is_of link number g ≡ true = known.1 in
      let alike : is_of f.link f.number g ≡ true = grind (arith, nat_tests) in
      ap Some (sym (one_number fs is.numbers f g has known.0 alike)))
] refl

pub takes_are_local : TakesAreLocal
takes_are_local links link number fs window is none = same_fragments links window (without link number fs) fs (present_kept (λ f. not (is_of link number f)) fs is) is
    (λ f h meets. (kept_from (λ g. not (is_of link number g)) fs f h).0)
    (λ f h meets. elim (is_of link number f) as (λ t. is_of link number f ≡ t → Contains (without link number fs) f) [
      | true ↦ λ of. absurd (none f (some_of link number fs f is h of) meets)
      | false ↦ λ of. contains_kept (λ g. not (is_of link number g)) fs f h (ap not of)
    ] refl)

-- ---- those of a link go

pub clears_are_local : ClearsAreLocal
clears_are_local links link fs window is none = same_fragments links window (cleared link fs) fs (present_kept (λ f. not (f.link == link)) fs is) is
    (λ f h meets. (kept_from (λ (g : Recorded). not (g.link == link)) fs f h).0)
    (λ f h meets. elim (f.link == link) as (λ t. (f.link == link) ≡ t → Contains (cleared link fs) f) [
      | true ↦ λ of. (let same : f.link ≡ link = grind (arith, nat_tests) in
          absurd (none (subst (Contains links) same meets.0) (meets.1.0, (beats_are_of_fragments link fs meets.1.0).1 (f, h, same, meets.1.1), meets.1.2)))
      | false ↦ λ of. contains_kept (λ (g : Recorded). not (g.link == link)) fs f h (ap not of)
    ] refl)
