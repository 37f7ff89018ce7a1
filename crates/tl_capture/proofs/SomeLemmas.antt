-- Whether some beat of links lies in a span.
use Rattle.std.proofs.Common.{◌≡◌, ℕ, ◌<◌, ◌≤◌, ◌^◌, Bool, true, false, cond, ltb, ◌+◌, List, [], ◌∷◌, ◌++◌, suc, drop, length, get_or, refl, sym, ap, subst, ◌∙◌, arith}
use Rattle.std.specs.Prelude.{filter, ◌==◌, ◌||◌}
use Rattle.std.specs.Bool.{Decides}
use Rattle.std.specs.List.{AllWithin, Contains, list_any}
use Rattle.std.proofs.Math.Seq.{drop-cons}
use Rattle.std.proofs.lemmas.Bool.Decides.{nat_tests}
use Rattle.std.proofs.lemmas.List.Folds.{list_any_at, list_any_none}
use Rattle.tl_beats.specs.Beats.{IsWellFormed}
use Rattle.tl_beats.specs.declared.Beat.{Beat}
use Rattle.tl_beats.specs.declared.Placed.{Placed}
use Rattle.tl_definitions.specs.Positions.{Recorded, placed_from, beats_of_all}
use Rattle.tl_definitions.proofs.Lists.{contains_none, contains_here, contains_kept, kept_from}
use Rattle.tl_capture.specs.Ranges.{has_some, span_beats}
use Rattle.tl_capture.specs.Spans.{IsSpan, holds}
use Rattle.tl_capture.specs.Windows.{window_of, is_within, HasBeat}
use Rattle.tl_capture.proofs.GatherLemmas.{own, pushed, pushed_from, pushed_has, gathered_from, gathered_has}
use Rattle.tl_capture.proofs.WalkLemmas.{read_all}

-- ---- of one fragment

pub some_between : (from to start end : ℕ) (beats : List Beat) (d : Beat) → end ≤ length beats → AllWithin (λ b. holds from to b ≡ false) beats 0 start → AllWithin (λ b. holds from to b ≡ true) beats start end
    → AllWithin (λ b. holds from to b ≡ false) beats end (length beats) → start ≤ end → ltb start end ≡ list_any (holds from to) beats
some_between from to start end beats d within before between behind order = elim (ltb start end) as (λ t. ltb start end ≡ t → t ≡ list_any (holds from to) beats) [
  | true ↦ λ e. (let lt : start < end = grind (arith, nat_tests) in sym (list_any_at (holds from to) beats start d (omega arith) (between start d (omega arith) lt)))
  | false ↦ λ e. (let same : start ≡ end = grind (arith, nat_tests) in sym (list_any_none (holds from to) beats (λ k d high. elim (ltb k start) as (λ t. ltb k start ≡ t → holds from to (get_or beats k d) ≡ false) [
    | true ↦ λ low. before k d (omega arith) (grind (arith, nat_tests))
    | false ↦ λ low. behind k d (grind (arith, nat_tests)) high
  ] refl)))
] refl

some_placed_from : (from to link number line : ℕ) (beats : List Beat) → has_some (filter (is_within from to) (placed_from link number line beats)) ≡ list_any (holds from to) beats
some_placed_from from to link number line [] = refl
some_placed_from from to link number line (b ∷ beats) =
    elim (holds from to b) as (λ t. has_some (cond t (record { link = link; fragment = number; line = line; beat = b } ∷ filter (is_within from to) (placed_from link number (line + 1) beats)) (filter (is_within from to) (placed_from link number (line + 1) beats))) ≡ (t || list_any (holds from to) beats)) [
      | true ↦ refl
      | false ↦ some_placed_from from to link number (line + 1) beats
    ]

pub some_placed : (from to : ℕ) (f : Recorded) → has_some (span_beats from to f) ≡ list_any (holds from to) f.beats
some_placed from to f = some_placed_from from to f.link f.number 2 f.beats

-- ---- of fragments

none_is_empty : {X : Type 0} (xs : List X) → has_some xs ≡ false → xs ≡ []
none_is_empty [] h = refl
none_is_empty (x ∷ xs) h = cc

some_in_front : {X : Type 0} (xs ys : List X) → has_some xs ≡ true → has_some (xs ++ ys) ≡ true
some_in_front [] ys h = cc
some_in_front (x ∷ xs) ys h = refl

-- What is read of fragments, where the first has no beat there, and where it has.
pub none_first : (from to : ℕ) (f : Recorded) (fs : List Recorded) → list_any (holds from to) f.beats ≡ false → read_all (span_beats from to) (f ∷ fs) ≡ read_all (span_beats from to) fs
none_first from to f fs none = ap (λ ps. ps ++ read_all (span_beats from to) fs) (none_is_empty (span_beats from to f) (some_placed from to f ∙ none))

pub some_first : (from to : ℕ) (f : Recorded) (fs : List Recorded) → list_any (holds from to) f.beats ≡ true → has_some (read_all (span_beats from to) (f ∷ fs)) ≡ true
some_first from to f fs some = some_in_front (span_beats from to f) (read_all (span_beats from to) fs) (some_placed from to f ∙ some)

-- ---- of links

pub next_left : {X : Type 0} (xs : List X) (n : ℕ) (d : X) → n < length xs → drop n xs ≡ get_or xs n d ∷ drop (n + 1) xs
next_left xs n d within = drop-cons xs n d within ∙ ap (λ k. get_or xs n d ∷ drop k xs) (let next : suc n ≡ n + 1 = omega arith in next)

pub some_at : (keep : Placed → Bool) (links : List ℕ) (i d : ℕ) (fs : List Recorded) → i < length links → has_some (own keep (get_or links i d) fs) ≡ true
    → pushed keep (drop i links) fs ≡ pushed keep links fs → true ≡ has_some (pushed keep links fs)
some_at keep links i d fs within some known =
    sym (some_in_front (own keep (get_or links i d) fs) (pushed keep (drop (i + 1) links) fs) some)
    ∙ ap (λ ls. has_some (pushed keep ls fs)) (sym (next_left links i d within)) ∙ ap has_some known

pub some_pushed : (window from to : ℕ) (links : List ℕ) (fs : List Recorded) → IsSpan window from to → Decides (has_some (pushed (is_within from to) links fs)) (HasBeat (beats_of_all links fs) window)
some_pushed window from to links fs is = (
  (λ h. first (pushed (is_within from to) links fs) refl h),
  (λ h. let p : Placed = h.0 in
      let same : window_of p.beat.cycle ≡ window = h.2 in
      let test : (window_of p.beat.cycle == window) ≡ true = grind (arith, nat_tests) in
      has (pushed (is_within from to) links fs) p (pushed_has (is_within from to) links fs p
      (let one = gathered_from (λ q. true) links fs p (all_in (beats_of_all links fs) p h.1) in (sym (is.exact p.beat.cycle) ∙ test, one.1)))),
)
  where
    all_in : (ps : List Placed) (p : Placed) → Contains ps p → Contains (filter (λ q. true) ps) p
    all_in ps p h = contains_kept (λ q. true) ps p h refl

    has : (ps : List Placed) (p : Placed) → Contains ps p → has_some ps ≡ true
    has [] p h = absurd (contains_none p h)
    has (q ∷ ps) p h = refl

    found : (p : Placed) → Contains (pushed (is_within from to) links fs) p → HasBeat (beats_of_all links fs) window
    found p h =
        let one = pushed_from (is_within from to) links fs p h in
        let test : (window_of p.beat.cycle == window) ≡ true = is.exact p.beat.cycle ∙ one.0 in
        (p, (kept_from (λ q. true) (beats_of_all links fs) p (gathered_has (λ q. true) links fs p (refl, one.1))).0, grind (arith, nat_tests))

    first : (ps : List Placed) → ps ≡ pushed (is_within from to) links fs → has_some ps ≡ true → HasBeat (beats_of_all links fs) window
    first [] same h = let wrong : false ≡ true = h in cc
    first (p ∷ ps) same h = found p (subst (λ qs. Contains qs p) same (contains_here p ps))

pub nowhere_in : (window : ℕ) (ps : List Placed) → ((p : Placed) → Contains ps p → IsWellFormed p.beat) → ((cycle : ℕ) → cycle < 2 ^ 64 → (window_of cycle == window) ≡ false) → Decides false (HasBeat ps window)
nowhere_in window ps formed none = (
  (λ h. let wrong : false ≡ true = h in cc),
  (λ h. let test : (window_of h.0.beat.cycle == window) ≡ false = none h.0.beat.cycle (formed h.0 h.1).cycle in
      let same : window_of h.0.beat.cycle ≡ window = h.2 in absurd (grind (arith, nat_tests))),
)
