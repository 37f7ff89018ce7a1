-- Windows and links of a manager's beats.
use Rattle.std.proofs.Common.{◌≡◌, ℕ, ◌<◌, ◌≤◌, ◌+◌, ◌^◌, inl, inr, Bool, true, false, cond, ◌&&◌, List, [], ◌∷◌, ◌++◌, get_or, refl, sym, ap, subst, ◌∙◌, arith}
use Rattle.std.specs.Prelude.{filter, reverse, ◌==◌, ◌↔◌, nat_lt, nat_le}
use Rattle.std.specs.declared.cmp.Ordering.{Ordering}
use Rattle.std.specs.declared.cmp.Ordering.TheVariants.{Less}
use Rattle.std.specs.Ordering.{nat_cmp, ordering_then}
use Rattle.tl_tables.specs.declared.Chan.{Chan}
use Rattle.tl_tables.specs.Messages.{chan_number, same_chan}
use Rattle.tl_definitions.specs.Heads.{before_on}
use Rattle.std.specs.List.{AllByRecursion, Contains, list_any}
use Rattle.std.specs.List.Sorted.{IsStrictlySortedBy}
use Rattle.std.proofs.lemmas.Bool.Decides.{nat_tests}
use Rattle.std.proofs.lemmas.List.Elements.{All-contains, Contains-get_or, Contains-append_left, Contains-append_right, Contains-append_cases}
use Rattle.std.proofs.lemmas.List.Kept.{IsStrictlySortedBy-filter}
use Rattle.tl_beats.specs.Beats.{IsWellFormed}
use Rattle.tl_beats.specs.Fragments.{AreBeats}
use Rattle.tl_beats.specs.declared.Beat.{Beat}
use Rattle.tl_beats.specs.declared.Placed.{Placed}
use Rattle.tl_definitions.specs.Positions.{Recorded, placed_from, placed_beats, all_placed, by_range, insert_by_range, position_order, beats_of, beats_of_all}
use Rattle.tl_definitions.proofs.Lists.{contains_none, contains_here, contains_there, contains_cases, contains_kept, kept_from, none_kept, all_of, all_by, onto, onto_reverse}
use Rattle.tl_definitions.proofs.OrderLaws.{then_less, tie_then_less, tied}
use Rattle.tl_definitions.proofs.PositionLaws.{beats_are_in_order, beats_are_of_fragments, position_total, positions_are_ordered}
use Rattle.tl_definitions.proofs.RisingLaws.{strict_both}
use Rattle.tl_definitions.proofs.ReportLaws.{strict_one}
use Rattle.tl_capture.specs.Present.{IsCapture, of_link, range_order}
use Rattle.tl_capture.specs.Ranges.{AreRanges}
use Rattle.tl_capture.specs.Spans.{IsSpan}
use Rattle.tl_capture.specs.Shares.{windows_from, windows_of_all}
use Rattle.tl_capture.specs.Windows.{window_of, lies_in, beats_in, is_within, beats_within, HasBeat, AreWindows, AreBeatsOf, joined, WindowsAreWhole, LinksAreKept, ChannelsAreKept, OneLinkIsItsOwn}
use Rattle.tl_capture.proofs.OrderLemmas.{link_order}
use Rattle.tl_capture.proofs.PresentLemmas.{placed_at, beats_rise, placed_is_of, placed_from_some, less_cases, less_is, ranges_of, ranges_tail, ranges_kept, placed_strict}
use Rattle.tl_capture.proofs.EntryLemmas.{all_kept, tie_then}
use Rattle.tl_capture.proofs.NumberLemmas.{same_kept}
use Rattle.tl_capture.proofs.GatherLemmas.{link_of_any, or_left, or_right}
use Rattle.tl_capture.proofs.ShareLemmas.{are_windows}
use Rattle.tl_capture.proofs.ShareLemmas.{from_rise as windows_strict}

-- ---- windows one after the other

joined_from : (windows : List ℕ) (ps : List Placed) (p : Placed) → Contains (joined windows ps) p → Contains ps p × Contains windows (window_of p.beat.cycle)
joined_from [] ps p h = absurd (contains_none p h)
joined_from (k ∷ windows) ps p h = elim (Contains-append_cases (beats_in k ps) (joined windows ps) p h) [
  | inl here ↦ (let kept = kept_from (lies_in k) ps p here in let test : (window_of p.beat.cycle == k) ≡ true = kept.1 in
      let same : k ≡ window_of p.beat.cycle = grind (arith, nat_tests) in
      (kept.0, subst (Contains (k ∷ windows)) same (contains_here k windows)))
  | inr there ↦ (let found = joined_from windows ps p there in (found.0, contains_there k windows (window_of p.beat.cycle) found.1))
]

joined_has : (windows : List ℕ) (ps : List Placed) (p : Placed) → Contains ps p → Contains windows (window_of p.beat.cycle) → Contains (joined windows ps) p
joined_has [] ps p h w = absurd (contains_none (window_of p.beat.cycle) w)
joined_has (k ∷ windows) ps p h w = elim (contains_cases k windows (window_of p.beat.cycle) w) [
  | inl here ↦ (let same : (window_of p.beat.cycle == k) ≡ true = grind (arith, nat_tests) in
      Contains-append_left (beats_in k ps) (joined windows ps) p (contains_kept (lies_in k) ps p h same))
  | inr there ↦ Contains-append_right (beats_in k ps) (joined windows ps) p (joined_has windows ps p h there)
]

lower_window : (a b : ℕ) → window_of a < window_of b → a < b
lower_window a b h = omega arith

joined_rise : (windows : List ℕ) (ps : List Placed) → IsStrictlySortedBy nat_cmp windows → IsStrictlySortedBy position_order ps → IsStrictlySortedBy position_order (joined windows ps)
unfolding IsStrictlySortedBy
joined_rise [] ps w s = tt
joined_rise (k ∷ windows) ps w s = strict_both position_order position_total (beats_in k ps) (joined windows ps)
    (IsStrictlySortedBy-filter position_order (lies_in k) ps s) (joined_rise windows ps w.1 s)
    (λ p q h g. let test : (window_of p.beat.cycle == k) ≡ true = (kept_from (lies_in k) ps p h).1 in
    let same : window_of p.beat.cycle ≡ k = grind (arith, nat_tests) in
    let lower : k < window_of q.beat.cycle = less_is k (window_of q.beat.cycle) (all_of (λ n. nat_cmp k n ≡ Less) windows w.0 (window_of q.beat.cycle) (joined_from windows ps q g).1) in
    positions_are_ordered.by_cycle p q (lower_window p.beat.cycle q.beat.cycle (omega arith)))

pub windows_are_whole : WindowsAreWhole
windows_are_whole links fs windows is are =
    let ps : List Placed = beats_of_all links fs in
    let strict = beats_rise links fs (ranges_of fs is) in
    strict_one position_order position_total (joined windows ps) ps (joined_rise windows ps are.rise strict) strict
    (λ p. ((λ h. (joined_from windows ps p h).0), (λ h. joined_has windows ps p h ((are.members (window_of p.beat.cycle)).1 (p, h, refl)))))

-- ---- the fragments of a link stand in the order of their ranges

insert_front : (f : Recorded) (fs : List Recorded) → f.first ≤ f.last → AllByRecursion (λ g. range_order f g ≡ Less) fs → ((g : Recorded) → Contains fs g → f.link ≡ g.link) → insert_by_range f fs ≡ f ∷ fs
insert_front f [] order less same = refl
insert_front f (g ∷ fs) order less same =
    let link = same g (contains_here g fs) in
    let test : nat_lt f.first g.first ≡ true = elim (less_cases (nat_cmp f.link g.link) (nat_cmp f.last g.first) less.0) [
      | inl by_link ↦ (let lt = less_is f.link g.link by_link in absurd (omega arith))
      | inr by_range ↦ (let lt = less_is f.last g.first by_range.1 in let up : f.first < g.first = omega arith in grind (arith, nat_tests))
    ] in
    ap (λ t. cond t (f ∷ g ∷ fs) (g ∷ insert_by_range f fs)) test

in_range_order : (link : ℕ) (fs : List Recorded) → AreRanges fs → ((g : Recorded) → Contains fs g → g.link ≡ link) → by_range fs ≡ fs
unfolding IsStrictlySortedBy
in_range_order link [] are same = refl
in_range_order link (f ∷ fs) are same =
    ap (insert_by_range f) (in_range_order link fs (ranges_tail f fs are) (λ g h. same g (contains_there f fs g h)))
    ∙ insert_front f fs (All-contains IsCapture (f ∷ fs) f are.each (contains_here f fs)).order are.apart.0 (λ g h. same f (contains_here f fs) ∙ sym (same g (contains_there f fs g h)))

pub own_beats : (link : ℕ) (fs : List Recorded) → AreRanges fs → beats_of link fs ≡ all_placed (of_link link fs)
own_beats link fs are = ap all_placed (in_range_order link (of_link link fs) (ranges_kept (λ f. f.link == link) fs are) (λ g h.
    let test : (g.link == link) ≡ true = (kept_from (λ (f : Recorded). f.link == link) fs g h).1 in grind (arith, nat_tests)))

-- One link's beats, in order by link, are in the order of positions.
by_position : (ps : List Placed) (link : ℕ) → ((p : Placed) → Contains ps p → p.link ≡ link) → IsStrictlySortedBy link_order ps → IsStrictlySortedBy position_order ps
unfolding IsStrictlySortedBy
by_position [] link same s = tt
by_position (p ∷ ps) link same s = (
  all_by (λ q. position_order p q ≡ Less) ps (λ q h. one_link p q (same p (contains_here p ps) ∙ sym (same q (contains_there p ps q h))) (all_of (λ x. link_order p x ≡ Less) ps s.0 q h)),
  by_position ps link (λ q h. same q (contains_there p ps q h)) s.1,
)
  where
    one_link : (p q : Placed) → p.link ≡ q.link → link_order p q ≡ Less → position_order p q ≡ Less
    one_link p q same less =
        let cycle : Ordering = nat_cmp p.beat.cycle q.beat.cycle in
        let channel : Ordering = nat_cmp (chan_number p.beat.chan) (chan_number q.beat.chan) in
        let rest : ordering_then cycle channel ≡ Less = sym (tie_then (nat_cmp p.link q.link) (ordering_then cycle channel) (tied p.link q.link same)) ∙ less in
        elim (less_cases cycle channel rest) [
          | inl first ↦ then_less cycle (ordering_then channel (nat_cmp p.link q.link)) first
          | inr next ↦ tie_then_less cycle (ordering_then channel (nat_cmp p.link q.link)) next.0 (then_less channel (nat_cmp p.link q.link) next.1)
        ]

pub own_strict : (link : ℕ) (fs : List Recorded) → AreRanges fs → IsStrictlySortedBy position_order (beats_of link fs)
own_strict link fs are = subst (IsStrictlySortedBy position_order) (sym (own_beats link fs are)) (by_position (all_placed (of_link link fs)) link
    (λ p h. let found = placed_from_some (of_link link fs) p h in
    let test : (found.0.link == link) ≡ true = (kept_from (λ (f : Recorded). f.link == link) fs found.0 found.1).1 in
    let here = (placed_is_of found.0.link found.0.number 2 found.0.beats p found.2).0 in
    let there : found.0.link ≡ link = grind (arith, nat_tests) in here ∙ there)
    (placed_strict (of_link link fs) (ranges_kept (λ f. f.link == link) fs are)))

any_link : (links : List ℕ) (n : ℕ) → Contains links n → list_any (λ link. n == link) links ≡ true
any_link [] n h = absurd (contains_none n h)
any_link (link ∷ links) n h = elim (contains_cases link links n h) [
  | inl is ↦ (let same : (n == link) ≡ true = grind (arith, nat_tests) in or_left (n == link) (list_any (λ link. n == link) links) same)
  | inr there ↦ or_right (n == link) (list_any (λ link. n == link) links) (any_link links n there)
]

pub links_are_kept : LinksAreKept
links_are_kept links fs link is has =
    let are = ranges_of fs is in
    strict_one position_order position_total (filter (λ (p : Placed). p.link == link) (beats_of_all links fs)) (beats_of link fs)
    (IsStrictlySortedBy-filter position_order (λ (p : Placed). p.link == link) (beats_of_all links fs) (beats_rise links fs are)) (own_strict link fs are)
    (λ p. (
      (λ h. let kept = kept_from (λ (q : Placed). q.link == link) (beats_of_all links fs) p h in
          let found = ((beats_are_in_order links fs).1 p).0 kept.0 in
          let here = (placed_is_of found.0.link found.0.number 2 found.0.beats p found.3).0 in
          let test : (p.link == link) ≡ true = kept.1 in
          let same : p.link ≡ link = grind (arith, nat_tests) in
          (beats_are_of_fragments link fs p).1 (found.0, found.1, sym here ∙ same, found.3)),
      (λ h. let found = (beats_are_of_fragments link fs p).0 h in
          let here = (placed_is_of found.0.link found.0.number 2 found.0.beats p found.3).0 in
          let same : p.link ≡ link = here ∙ found.2 in
          let test : (p.link == link) ≡ true = grind (arith, nat_tests) in
          contains_kept (λ (q : Placed). q.link == link) (beats_of_all links fs) p
          (((beats_are_in_order links fs).1 p).1 (found.0, found.1, any_link links found.0.link (subst (Contains links) (sym found.2) has), found.3)) test),
    ))

pub one_link_is_its_own : OneLinkIsItsOwn
one_link_is_its_own link fs is =
    sym (all_kept (λ (p : Placed). p.link == link) (beats_of_all (link ∷ []) fs) (λ p h.
    let found = ((beats_are_in_order (link ∷ []) fs).1 p).0 h in
    let here = (placed_is_of found.0.link found.0.number 2 found.0.beats p found.3).0 in
    let there : found.0.link ≡ link = elim (contains_cases link [] found.0.link (link_of_any (link ∷ []) found.0.link found.2)) [ inl e ↦ sym e | inr r ↦ absurd (contains_none found.0.link r) ] in
    let same : p.link ≡ link = here ∙ there in grind (arith, nat_tests)))
    ∙ links_are_kept (link ∷ []) fs link is (contains_here link [])

-- ---- the beats of one channel of a link

on_one : (link : ℕ) (chan : Chan) (ps : List Placed) → before_on link chan (filter (λ (p : Placed). p.link == link) ps) ≡ before_on link chan ps
on_one link chan [] = refl
on_one link chan (p ∷ ps) =
    let own : List Placed = filter (λ (q : Placed). q.link == link) ps in
    elim (p.link == link) as (λ t. (p.link == link) ≡ t → before_on link chan (cond t (p ∷ own) own) ≡ cond (t && same_chan p.beat.chan chan) (p.beat ∷ before_on link chan ps) (before_on link chan ps)) [
      | true ↦ λ e. ap (λ t. cond (t && same_chan p.beat.chan chan) (p.beat ∷ before_on link chan own) (before_on link chan own)) e
          ∙ ap (λ bs. cond (same_chan p.beat.chan chan) (p.beat ∷ bs) bs) (on_one link chan ps)
      | false ↦ λ e. on_one link chan ps
    ] refl

kept_onto : {X : Type 0} (p : X → Bool) (before xs : List X) → filter p (onto before xs) ≡ onto (filter p before) (filter p xs)
kept_onto p before [] = refl
kept_onto p before (x ∷ xs) = kept_onto p (x ∷ before) xs
    ∙ elim (p x) as (λ t. onto (cond t (x ∷ filter p before) (filter p before)) (filter p xs) ≡ onto (filter p before) (cond t (x ∷ filter p xs) (filter p xs))) [ true ↦ refl | false ↦ refl ]

kept_reverse : {X : Type 0} (p : X → Bool) (xs : List X) → filter p (reverse xs) ≡ reverse (filter p xs)
kept_reverse p xs = ap (filter p) (sym (onto_reverse [] xs)) ∙ kept_onto p [] xs ∙ onto_reverse [] (filter p xs)

pub channels_are_kept : ChannelsAreKept
channels_are_kept links fs link chan is has =
    sym (on_one link chan (reverse (beats_of_all links fs))) ∙ ap (before_on link chan) (kept_reverse (λ (p : Placed). p.link == link) (beats_of_all links fs))
    ∙ ap (λ ps. before_on link chan (reverse ps)) (links_are_kept links fs link is has)

-- ---- spans and windows

pub whole : (ps : List Placed) → ((p : Placed) → Contains ps p → IsWellFormed p.beat) → beats_within 0 18446744073709551615 ps ≡ ps
whole ps formed = all_kept (is_within 0 18446744073709551615) ps (λ p h. in_all p.beat.cycle ((formed p h).cycle))
  where
    in_all : (cycle : ℕ) → cycle < 18446744073709551616 → (nat_le 0 cycle && nat_le cycle 18446744073709551615) ≡ true
    in_all cycle lt = grind (arith, nat_tests)

pub of_span : (window from to : ℕ) (ps : List Placed) → IsSpan window from to → beats_within from to ps ≡ beats_in window ps
of_span window from to ps is = same_kept (is_within from to) (lies_in window) ps (λ p h. sym (is.exact p.beat.cycle))

pub of_none : (window : ℕ) (ps : List Placed) → ((p : Placed) → Contains ps p → IsWellFormed p.beat) → ((cycle : ℕ) → cycle < 2 ^ 64 → (window_of cycle == window) ≡ false) → beats_in window ps ≡ []
of_none window ps formed none = none_kept (lies_in window) ps (λ p h. none p.beat.cycle (formed p h).cycle)

pub formed_of_all : (links : List ℕ) (fs : List Recorded) → AreRanges fs → (p : Placed) → Contains (beats_of_all links fs) p → IsWellFormed p.beat
formed_of_all links fs are p h =
    let found = ((beats_are_in_order links fs).1 p).0 h in
    let own = All-contains IsCapture fs found.0 are.each found.1 in
    All-contains IsWellFormed found.0.beats p.beat own.beats.formed (placed_is_of found.0.link found.0.number 2 found.0.beats p found.3).2

pub formed_of : (link : ℕ) (fs : List Recorded) → AreRanges fs → (p : Placed) → Contains (beats_of link fs) p → IsWellFormed p.beat
formed_of link fs are p h =
    let found = (beats_are_of_fragments link fs p).0 h in
    let own = All-contains IsCapture fs found.0 are.each found.1 in
    All-contains IsWellFormed found.0.beats p.beat own.beats.formed (placed_is_of found.0.link found.0.number 2 found.0.beats p found.3).2

pub kept_of : (keep : Placed → Bool) (links : List ℕ) (fs : List Recorded) → AreRanges fs → AreBeatsOf links (filter keep (beats_of_all links fs))
kept_of keep links fs are =
    let ps : List Placed = beats_of_all links fs in
    let from : (p : Placed) → Contains (filter keep ps) p → Contains ps p = λ p h. (kept_from keep ps p h).0 in record {
      rise = IsStrictlySortedBy-filter position_order keep ps (beats_rise links fs are);
      formed = λ k d within. formed_of_all links fs are (get_or (filter keep ps) k d) (from (get_or (filter keep ps) k d) (Contains-get_or (filter keep ps) k d within));
      linked = λ k d within.
          let p : Placed = get_or (filter keep ps) k d in
          let found = ((beats_are_in_order links fs).1 p).0 (from p (Contains-get_or (filter keep ps) k d within)) in
          let here = (placed_is_of found.0.link found.0.number 2 found.0.beats p found.3).0 in
          subst (Contains links) (sym here) (link_of_any links found.0.link found.2);
    }

-- ---- the windows that have beats

abbrev pub windows_pushed : List ℕ → List Recorded → List ℕ
windows_pushed [] fs = []
windows_pushed (link ∷ links) fs = windows_of_all (of_link link fs) ++ windows_pushed links fs

placed_there : (link number line : ℕ) (beats : List Beat) (b : Beat) → Contains beats b → (p : Placed) × Contains (placed_from link number line beats) p × (p.beat ≡ b)
placed_there link number line [] b h = absurd (contains_none b h)
placed_there link number line (x ∷ beats) b h = elim (contains_cases x beats b h) [
  | inl is ↦ (placed_at link number line x, contains_here (placed_at link number line x) (placed_from link number (line + 1) beats), is)
  | inr there ↦ (let known = placed_there link number (line + 1) beats b there in (known.0, contains_there (placed_at link number line x) (placed_from link number (line + 1) beats) known.0 known.1, known.2))
]

pub fragment_windows : (f : Recorded) → AreBeats f.first f.last f.beats → AreWindows (placed_beats f) (windows_from 0 f.beats)
fragment_windows f are = record {
  rise = windows_strict 0 f.beats;
  members = λ w. (
    (λ h. let known = (are_windows f.first f.last f.beats are w).0 h in
        let at = placed_there f.link f.number 2 f.beats known.0 known.1 in
        (at.0, at.1, ap (λ (b : Beat). window_of b.cycle) at.2 ∙ known.2)),
    (λ h. (are_windows f.first f.last f.beats are w).1 (h.0.beat, (placed_is_of f.link f.number 2 f.beats h.0 h.1).2, h.2)),
  );
}

of_all_from : (fs : List Recorded) (w : ℕ) → Contains (windows_of_all fs) w → (f : Recorded) × Contains fs f × Contains (windows_from 0 f.beats) w
of_all_from [] w h = absurd (contains_none w h)
of_all_from (f ∷ fs) w h = elim (Contains-append_cases (windows_from 0 f.beats) (windows_of_all fs) w h) [
  | inl here ↦ (f, contains_here f fs, here)
  | inr there ↦ (let known = of_all_from fs w there in (known.0, contains_there f fs known.0 known.1, known.2))
]

of_all_has : (fs : List Recorded) (w : ℕ) (f : Recorded) → Contains fs f → Contains (windows_from 0 f.beats) w → Contains (windows_of_all fs) w
of_all_has [] w f h g = absurd (contains_none f h)
of_all_has (x ∷ fs) w f h g = elim (contains_cases x fs f h) [
  | inl is ↦ Contains-append_left (windows_from 0 x.beats) (windows_of_all fs) w (subst (λ y. Contains (windows_from 0 y.beats) w) (sym is) g)
  | inr there ↦ Contains-append_right (windows_from 0 x.beats) (windows_of_all fs) w (of_all_has fs w f there g)
]

pushed_from : (links : List ℕ) (fs : List Recorded) (w : ℕ) → Contains (windows_pushed links fs) w → (f : Recorded) × Contains fs f × Contains links f.link × Contains (windows_from 0 f.beats) w
pushed_from [] fs w h = absurd (contains_none w h)
pushed_from (link ∷ links) fs w h = elim (Contains-append_cases (windows_of_all (of_link link fs)) (windows_pushed links fs) w h) [
  | inl here ↦ (let known = of_all_from (of_link link fs) w here in let kept = kept_from (λ (f : Recorded). f.link == link) fs known.0 known.1 in
      let test : (known.0.link == link) ≡ true = kept.1 in
      let same : link ≡ known.0.link = grind (arith, nat_tests) in
      (known.0, kept.0, subst (Contains (link ∷ links)) same (contains_here link links), known.2))
  | inr there ↦ (let known = pushed_from links fs w there in (known.0, known.1, contains_there link links known.0.link known.2, known.3))
]

pushed_has : (links : List ℕ) (fs : List Recorded) (w : ℕ) (f : Recorded) → Contains fs f → Contains links f.link → Contains (windows_from 0 f.beats) w → Contains (windows_pushed links fs) w
pushed_has [] fs w f h l g = absurd (contains_none f.link l)
pushed_has (link ∷ links) fs w f h l g = elim (contains_cases link links f.link l) [
  | inl is ↦ (let test : (f.link == link) ≡ true = grind (arith, nat_tests) in
      Contains-append_left (windows_of_all (of_link link fs)) (windows_pushed links fs) w (of_all_has (of_link link fs) w f (contains_kept (λ (x : Recorded). x.link == link) fs f h test) g))
  | inr there ↦ Contains-append_right (windows_of_all (of_link link fs)) (windows_pushed links fs) w (pushed_has links fs w f h there g)
]

pub pushed_windows : (links : List ℕ) (fs : List Recorded) → AreRanges fs → (w : ℕ) → Contains (windows_pushed links fs) w ↔ HasBeat (beats_of_all links fs) w
pushed_windows links fs are w = (
  (λ h. let known = pushed_from links fs w h in
      let own = All-contains IsCapture fs known.0 are.each known.1 in
      let at = ((fragment_windows known.0 own.beats).members w).0 known.3 in
      (at.0, ((beats_are_in_order links fs).1 at.0).1 (known.0, known.1, any_link links known.0.link known.2, at.1), at.2)),
  (λ h. let found = ((beats_are_in_order links fs).1 h.0).0 h.1 in
      let own = All-contains IsCapture fs found.0 are.each found.1 in
      pushed_has links fs w found.0 found.1 (link_of_any links found.0.link found.2) (((fragment_windows found.0 own.beats).members w).1 (h.0, found.3, h.2))),
)
