-- Where beats stand.
use Rattle.std.proofs.Common.{◌≡◌, ℕ, ◌+◌, ◌≤◌, ◌==◌, ◌⊎◌, inl, inr, Bool, true, false, cond, List, [], ◌∷◌, Some, refl, sym, ap, subst, ◌∙◌, arith, zero, suc}
use Rattle.std.specs.Prelude.{filter, nat_lt, slice_get}
use Rattle.std.specs.Option.{option_map}
use Rattle.std.specs.declared.cmp.Ordering.{Ordering}
use Rattle.std.specs.declared.cmp.Ordering.TheVariants.{Less, Equal, Greater}
use Rattle.std.specs.Ordering.{nat_cmp, ordering_then, is_lt}
use Rattle.std.specs.Cmp.{IsTotalOrder}
use Rattle.std.specs.FinMap.{nat_cmp-IsAntisymmetric}
use Rattle.std.specs.List.{list_any, Contains}
use Rattle.std.proofs.lemmas.Cmp.{then_total, on_total, nat_cmp_total, tied_itself}
use Rattle.std.proofs.lemmas.Bool.Decides.{nat_tests}
use Rattle.std.proofs.lemmas.List.Elements.{Contains-append_left, Contains-append_right, Contains-append_cases}
use Rattle.tl_tables.specs.Messages.{chan_number}
use Rattle.tl_beats.specs.declared.Beat.{Beat}
use Rattle.tl_beats.specs.declared.Placed.{Placed}
use Rattle.tl_definitions.specs.Positions.{position_order, lies_before, Recorded, placed_from, placed_beats, insert_by_range, by_range, all_placed, insert_in_order, in_order, PositionsAreOrdered, LinesAreIndexes, AreByRange, RangesRise, BeatsAreOfFragments, AreInOrder, BeatsAreInOrder}
use Rattle.tl_definitions.proofs.Lists.{contains_none, contains_here, contains_there, contains_cases, contains_kept, kept_from, all_of, all_by}
use Rattle.tl_definitions.proofs.OrderLaws.{tie_first, tie_rest, both_tie, then_less, tie_then_less, tied, below, one_chan}

pub position_total : IsTotalOrder position_order
position_total = then_total (on_total (λ (p : Placed). p.beat.cycle) nat_cmp_total) (then_total (on_total (λ (p : Placed). chan_number p.beat.chan) nat_cmp_total) (on_total (λ (p : Placed). p.link) nat_cmp_total))

-- The three parts of the order.
abbrev cycle_order : Placed → Placed → Ordering
cycle_order p q = nat_cmp p.beat.cycle q.beat.cycle

abbrev channel_order : Placed → Placed → Ordering
channel_order p q = nat_cmp (chan_number p.beat.chan) (chan_number q.beat.chan)

abbrev link_order : Placed → Placed → Ordering
link_order p q = nat_cmp p.link q.link

abbrev IsOnePosition : Placed → Placed → Type 0
IsOnePosition p q = (p.beat.cycle ≡ q.beat.cycle) × (p.beat.chan ≡ q.beat.chan) × (p.link ≡ q.link)

one_position : (p q : Placed) → position_order p q ≡ Equal → IsOnePosition p q
one_position p q tie =
    let rest = tie_rest (cycle_order p q) (ordering_then (channel_order p q) (link_order p q)) tie in (
      nat_cmp-IsAntisymmetric p.beat.cycle q.beat.cycle (tie_first (cycle_order p q) (ordering_then (channel_order p q) (link_order p q)) tie),
      one_chan p.beat.chan q.beat.chan (nat_cmp-IsAntisymmetric (chan_number p.beat.chan) (chan_number q.beat.chan) (tie_first (channel_order p q) (link_order p q) rest)),
      nat_cmp-IsAntisymmetric p.link q.link (tie_rest (channel_order p q) (link_order p q) rest),
    )

tied_there : (p q : Placed) → IsOnePosition p q → position_order p q ≡ Equal
tied_there p q same =
    both_tie (cycle_order p q) (ordering_then (channel_order p q) (link_order p q)) (tied p.beat.cycle q.beat.cycle same.0)
    (both_tie (channel_order p q) (link_order p q) (tied (chan_number p.beat.chan) (chan_number q.beat.chan) (ap chan_number same.1)) (tied p.link q.link same.2))

pub positions_are_ordered : PositionsAreOrdered
positions_are_ordered = record {
  total = position_total;
  ties = λ p q. (one_position p q, tied_there p q);
  by_cycle = λ p q h. then_less (cycle_order p q) (ordering_then (channel_order p q) (link_order p q)) (below p.beat.cycle q.beat.cycle h);
  by_channel = λ p q e h. tie_then_less (cycle_order p q) (ordering_then (channel_order p q) (link_order p q)) (tied p.beat.cycle q.beat.cycle e)
      (then_less (channel_order p q) (link_order p q) (below (chan_number p.beat.chan) (chan_number q.beat.chan) h));
  by_link = λ p q e c h. tie_then_less (cycle_order p q) (ordering_then (channel_order p q) (link_order p q)) (tied p.beat.cycle q.beat.cycle e)
      (tie_then_less (channel_order p q) (link_order p q) (tied (chan_number p.beat.chan) (chan_number q.beat.chan) (ap chan_number c)) (below p.link q.link h));
}

lines_from : (link number line k : ℕ) (beats : List Beat) → slice_get (placed_from link number line beats) k
    ≡ option_map (λ beat. record { link = link; fragment = number; line = line + k; beat = beat }) (slice_get beats k)
lines_from link number line k [] = refl
lines_from link number line zero (beat ∷ beats) =
    let same : line ≡ line + 0 = omega arith in
    ap (λ n. Some (record { link = link; fragment = number; line = n; beat = beat })) same
lines_from link number line (suc k) (beat ∷ beats) =
    let same : (line + 1) + k ≡ line + suc k = omega arith in
    lines_from link number (line + 1) k beats ∙ ap (λ n. option_map (λ b. record { link = link; fragment = number; line = n; beat = b }) (slice_get beats k)) same

pub lines_are_indexes : LinesAreIndexes
lines_are_indexes fragment k =
    let same : 2 + k ≡ k + 2 = omega arith in
    lines_from fragment.link fragment.number 2 k fragment.beats ∙ ap (λ n. option_map (λ b. record { link = fragment.link; fragment = fragment.number; line = n; beat = b }) (slice_get fragment.beats k)) same

-- Fragments that are put in the order of their ranges.
ranged_from : (f : Recorded) (gs : List Recorded) (x : Recorded) → Contains (insert_by_range f gs) x → (f ≡ x) ⊎ Contains gs x
ranged_from f [] x h = contains_cases f [] x h
ranged_from f (g ∷ gs) x h = elim (nat_lt f.first g.first) as (λ b. Contains (cond b (f ∷ g ∷ gs) (g ∷ insert_by_range f gs)) x → (f ≡ x) ⊎ Contains (g ∷ gs) x) [
  | true ↦ λ c. contains_cases f (g ∷ gs) x c
  | false ↦ λ c. elim (contains_cases g (insert_by_range f gs) x c) [
    | inl e ↦ inr (subst (Contains (g ∷ gs)) e (contains_here g gs))
    | inr r ↦ elim (ranged_from f gs x r) [ inl e ↦ inl e | inr k ↦ inr (contains_there g gs x k) ]
  ]
] h

ranged_has : (f : Recorded) (gs : List Recorded) (x : Recorded) → (f ≡ x) ⊎ Contains gs x → Contains (insert_by_range f gs) x
ranged_has f [] x h = elim h [ inl e ↦ subst (Contains (f ∷ [])) e (contains_here f []) | inr r ↦ contains_there f [] x r ]
ranged_has f (g ∷ gs) x h = elim (nat_lt f.first g.first) as (λ b. Contains (cond b (f ∷ g ∷ gs) (g ∷ insert_by_range f gs)) x) [
  | true ↦ elim h [ inl e ↦ subst (Contains (f ∷ g ∷ gs)) e (contains_here f (g ∷ gs)) | inr r ↦ contains_there f (g ∷ gs) x r ]
  | false ↦ elim h [
    | inl e ↦ contains_there g (insert_by_range f gs) x (ranged_has f gs x (inl e))
    | inr r ↦ elim (contains_cases g gs x r) [ inl e ↦ subst (Contains (g ∷ insert_by_range f gs)) e (contains_here g (insert_by_range f gs)) | inr k ↦ contains_there g (insert_by_range f gs) x (ranged_has f gs x (inr k)) ]
  ]
]

ranged_rises : (f : Recorded) (gs : List Recorded) → AreByRange gs → AreByRange (insert_by_range f gs)
ranged_rises f [] s = (tt, tt)
ranged_rises f (g ∷ gs) s = elim (nat_lt f.first g.first) as (λ b. nat_lt f.first g.first ≡ b → AreByRange (cond b (f ∷ g ∷ gs) (g ∷ insert_by_range f gs))) [
  | true ↦ λ e. let lt : f.first ≤ g.first = grind (arith, nat_tests) in
      ((lt, all_by (λ (x : Recorded). f.first ≤ x.first) gs (λ x h. let above : g.first ≤ x.first = all_of (λ (y : Recorded). g.first ≤ y.first) gs s.0 x h in omega arith)), s)
  | false ↦ λ e. let le : g.first ≤ f.first = grind (arith, nat_tests) in (
    all_by (λ (x : Recorded). g.first ≤ x.first) (insert_by_range f gs) (λ x h. elim (ranged_from f gs x h) [
      | inl is ↦ subst (λ (y : Recorded). g.first ≤ y.first) is le
      | inr k ↦ all_of (λ (y : Recorded). g.first ≤ y.first) gs s.0 x k
    ]),
    ranged_rises f gs s.1,
  )
] refl

ranges_hold : (fs : List Recorded) → AreByRange (by_range fs)
ranges_hold [] = tt
ranges_hold (f ∷ fs) = ranged_rises f (by_range fs) (ranges_hold fs)

range_from : (fs : List Recorded) (x : Recorded) → Contains (by_range fs) x → Contains fs x
range_from [] x h = h
range_from (f ∷ fs) x h = elim (ranged_from f (by_range fs) x h) [ inl e ↦ subst (Contains (f ∷ fs)) e (contains_here f fs) | inr k ↦ contains_there f fs x (range_from fs x k) ]

range_has : (fs : List Recorded) (x : Recorded) → Contains fs x → Contains (by_range fs) x
range_has [] x h = h
range_has (f ∷ fs) x h = elim (contains_cases f fs x h) [ inl e ↦ ranged_has f (by_range fs) x (inl e) | inr k ↦ ranged_has f (by_range fs) x (inr (range_has fs x k)) ]

pub ranges_rise : RangesRise
ranges_rise fragments = (ranges_hold fragments, λ f. ((λ h. range_from fragments f h), (λ h. range_has fragments f h)))

-- The beats of some fragments.
placed_from_some : (fs : List Recorded) (p : Placed) → Contains (all_placed fs) p → (f : Recorded) × Contains fs f × Contains (placed_beats f) p
placed_from_some [] p h = absurd (contains_none p h)
placed_from_some (f ∷ fs) p h = elim (Contains-append_cases (placed_beats f) (all_placed fs) p h) [
  | inl a ↦ (f, contains_here f fs, a)
  | inr b ↦ (let known = placed_from_some fs p b in (known.0, contains_there f fs known.0 known.1, known.2))
]

some_placed : (fs : List Recorded) (f : Recorded) (p : Placed) → Contains fs f → Contains (placed_beats f) p → Contains (all_placed fs) p
some_placed [] f p h g = absurd (contains_none f h)
some_placed (x ∷ fs) f p h g = elim (contains_cases x fs f h) [
  | inl e ↦ Contains-append_left (placed_beats x) (all_placed fs) p (subst (λ y. Contains (placed_beats y) p) (sym e) g)
  | inr r ↦ Contains-append_right (placed_beats x) (all_placed fs) p (some_placed fs f p r g)
]

pub beats_are_of_fragments : BeatsAreOfFragments
beats_are_of_fragments link fragments p =
    let own : List Recorded = filter (λ f. f.link == link) fragments in (
      (λ h. let found = placed_from_some (by_range own) p h in
          let kept = kept_from (λ (f : Recorded). f.link == link) fragments found.0 (range_from own found.0 found.1) in
          let test : (found.0.link == link) ≡ true = kept.1 in
          let same : found.0.link ≡ link = grind (arith, nat_tests) in
          (found.0, kept.0, same, found.2)),
      (λ r. let same : r.0.link ≡ link = r.2 in
          let test : (r.0.link == link) ≡ true = grind (arith, nat_tests) in
          some_placed (by_range own) r.0 p (range_has own r.0 (contains_kept (λ (f : Recorded). f.link == link) fragments r.0 r.1 test)) r.3),
    )

-- Beats that are put in the order of positions.
less_from : (o : Ordering) → is_lt o ≡ true → o ≡ Less
less_from Less h = refl
less_from Equal h = cc
less_from Greater h = cc

not_after : (p q r : Placed) → lies_before p q ≡ true → lies_before r q ≡ false → lies_before r p ≡ false
not_after p q r h g = elim (lies_before r p) as (λ t. lies_before r p ≡ t → t ≡ false) [
  | true ↦ λ e. let less = position_total.trans r p q (less_from (position_order r p) e) (less_from (position_order p q) h) in
      let wrong : true ≡ false = sym (ap is_lt less) ∙ g in cc
  | false ↦ λ e. refl
] refl

ordered_from : (p : Placed) (qs : List Placed) (x : Placed) → Contains (insert_in_order p qs) x → (p ≡ x) ⊎ Contains qs x
ordered_from p [] x h = contains_cases p [] x h
ordered_from p (q ∷ qs) x h = elim (lies_before p q) as (λ b. Contains (cond b (p ∷ q ∷ qs) (q ∷ insert_in_order p qs)) x → (p ≡ x) ⊎ Contains (q ∷ qs) x) [
  | true ↦ λ c. contains_cases p (q ∷ qs) x c
  | false ↦ λ c. elim (contains_cases q (insert_in_order p qs) x c) [
    | inl e ↦ inr (subst (Contains (q ∷ qs)) e (contains_here q qs))
    | inr r ↦ elim (ordered_from p qs x r) [ inl e ↦ inl e | inr k ↦ inr (contains_there q qs x k) ]
  ]
] h

ordered_has : (p : Placed) (qs : List Placed) (x : Placed) → (p ≡ x) ⊎ Contains qs x → Contains (insert_in_order p qs) x
ordered_has p [] x h = elim h [ inl e ↦ subst (Contains (p ∷ [])) e (contains_here p []) | inr r ↦ contains_there p [] x r ]
ordered_has p (q ∷ qs) x h = elim (lies_before p q) as (λ b. Contains (cond b (p ∷ q ∷ qs) (q ∷ insert_in_order p qs)) x) [
  | true ↦ elim h [ inl e ↦ subst (Contains (p ∷ q ∷ qs)) e (contains_here p (q ∷ qs)) | inr r ↦ contains_there p (q ∷ qs) x r ]
  | false ↦ elim h [
    | inl e ↦ contains_there q (insert_in_order p qs) x (ordered_has p qs x (inl e))
    | inr r ↦ elim (contains_cases q qs x r) [ inl e ↦ subst (Contains (q ∷ insert_in_order p qs)) e (contains_here q (insert_in_order p qs)) | inr k ↦ contains_there q (insert_in_order p qs) x (ordered_has p qs x (inr k)) ]
  ]
]

ordered_rises : (p : Placed) (qs : List Placed) → AreInOrder qs → AreInOrder (insert_in_order p qs)
ordered_rises p [] s = (tt, tt)
ordered_rises p (q ∷ qs) s = elim (lies_before p q) as (λ b. lies_before p q ≡ b → AreInOrder (cond b (p ∷ q ∷ qs) (q ∷ insert_in_order p qs))) [
  | true ↦ λ e. let itself : lies_before q q ≡ false = ap is_lt (tied_itself position_total q) in
      ((not_after p q q e itself, all_by (λ r. lies_before r p ≡ false) qs (λ r h. not_after p q r e (all_of (λ y. lies_before y q ≡ false) qs s.0 r h))), s)
  | false ↦ λ e. (
    all_by (λ r. lies_before r q ≡ false) (insert_in_order p qs) (λ r h. elim (ordered_from p qs r h) [
      | inl is ↦ subst (λ y. lies_before y q ≡ false) is e
      | inr k ↦ all_of (λ y. lies_before y q ≡ false) qs s.0 r k
    ]),
    ordered_rises p qs s.1,
  )
] refl

order_holds : (ps : List Placed) → AreInOrder (in_order ps)
order_holds [] = tt
order_holds (p ∷ ps) = ordered_rises p (in_order ps) (order_holds ps)

order_from : (ps : List Placed) (x : Placed) → Contains (in_order ps) x → Contains ps x
order_from [] x h = h
order_from (p ∷ ps) x h = elim (ordered_from p (in_order ps) x h) [ inl e ↦ subst (Contains (p ∷ ps)) e (contains_here p ps) | inr k ↦ contains_there p ps x (order_from ps x k) ]

order_has : (ps : List Placed) (x : Placed) → Contains ps x → Contains (in_order ps) x
order_has [] x h = h
order_has (p ∷ ps) x h = elim (contains_cases p ps x h) [ inl e ↦ ordered_has p (in_order ps) x (inl e) | inr k ↦ ordered_has p (in_order ps) x (inr (order_has ps x k)) ]

pub beats_are_in_order : BeatsAreInOrder
beats_are_in_order links fragments =
    let of_links : Recorded → Bool = λ f. list_any (λ link. f.link == link) links in
    let own : List Recorded = filter of_links fragments in (
      order_holds (all_placed own),
      λ p. (
        (λ h. let found = placed_from_some own p (order_from (all_placed own) p h) in
            let kept = kept_from of_links fragments found.0 found.1 in (found.0, kept.0, kept.1, found.2)),
        (λ r. order_has (all_placed own) p (some_placed own r.0 p (contains_kept of_links fragments r.0 r.1 r.2) r.3)),
      ),
    )
