-- What waits of a manager's links, and what was judged of it.
use Rattle.std.proofs.Common.{◌≡◌, ℕ, ◌<◌, ◌≤◌, ◌⊎◌, inl, inr, ◌==◌, true, false, cond, List, [], ◌∷◌, ◌++◌, append_assoc, append-nil, refl, sym, ap, subst, ◌∙◌, arith}
use Rattle.std.specs.List.{Contains}
use Rattle.std.specs.List.Sorted.{IsStrictlySortedBy}
use Rattle.std.specs.declared.cmp.Ordering.TheVariants.{Less}
use Rattle.std.proofs.lemmas.List.Elements.{Contains-append_right, Contains-append_cases, filter-append}
use Rattle.tl_topology.specs.Topology.{Topology}
use Rattle.tl_beats.specs.declared.Placed.{Placed}
use Rattle.tl_definitions.specs.Captures.{manager_beats}
use Rattle.tl_definitions.specs.Events.{Event, event_order, link_events, IsMerged}
use Rattle.tl_definitions.specs.Judging.{snapshot}
use Rattle.tl_definitions.specs.LinkPasses.{for_link, on_link}
use Rattle.tl_definitions.specs.Positions.{Recorded, beats_of, placed_beats}
use Rattle.tl_definitions.proofs.EventLaws.{uncached_links_are_quiet}
use Rattle.tl_definitions.proofs.LinkLaws.{itself, same_link}
use Rattle.tl_definitions.proofs.Lists.{contains_none, contains_here, contains_there, contains_cases, kept_from, all_of}
use Rattle.tl_definitions.proofs.PositionLaws.{positions_are_ordered}
use Rattle.tl_definitions.proofs.RisingLaws.{strict_both}
use Rattle.tl_capture.specs.Present.{IsPresent, put_in}
use Rattle.tl_capture.proofs.EntryLemmas.{all_kept}
use Rattle.tl_capture.proofs.LawLemmas.{links_are_kept, own_strict}
use Rattle.tl_capture.proofs.PresentLemmas.{ranges_of}
use Rattle.tl_capture.proofs.TouchLemmas.{put_has, put_here}
use Rattle.tl_check.specs.Apart.{opening}
use Rattle.tl_check.specs.Managers.{has_caches}
use Rattle.tl_check.proofs.CaptureLaws.{link_of_beat, linked_in}
use Rattle.tl_apart.specs.Told.{IsAfter, bare, clients, left_on, told_on, on, HasPassed, IsTold, ArePassed}
use Rattle.tl_apart.proofs.BeatLaws.{within, elsewhere, at_end}
use Rattle.tl_apart.proofs.EventLaws.{event_total, of_beats, rise}
use Rattle.tl_apart.proofs.NumberLaws.{same_or_not}
use Rattle.tl_apart.proofs.FragmentLaws.{events_append}

-- ---- lists in strict order

strict_back : (xs ys : List Event) → IsStrictlySortedBy event_order (xs ++ ys) → IsStrictlySortedBy event_order ys
unfolding IsStrictlySortedBy
strict_back [] ys s = s
strict_back (x ∷ xs) ys s = strict_back xs ys s.1

first_less : (x : Event) (xs : List Event) (y : Event) → IsStrictlySortedBy event_order (x ∷ xs) → Contains xs y → event_order x y ≡ Less
unfolding IsStrictlySortedBy
first_less x xs y s h = all_of (λ z. event_order x z ≡ Less) xs s.0 y h

one_rises : (x : Event) → IsStrictlySortedBy event_order (x ∷ [])
unfolding IsStrictlySortedBy
one_rises x = (tt, tt)

none_rise : IsStrictlySortedBy event_order []
unfolding IsStrictlySortedBy
none_rise = tt

-- ---- before the first fragment

pub none_told : (topo : Topology) (k : ℕ) → IsTold topo [] k (λ link. []) []
none_told topo k = record {
  rises = none_rise;
  own = λ e h. absurd (contains_none e h);
  each = λ link has. refl;
  before = λ e d link h has g. absurd (contains_none e h);
}

pub none_passed : (topo : Topology) (fs : List Recorded) (k : ℕ) → ArePassed topo fs k []
none_passed topo fs k e link h has caches = absurd (contains_none e h)

pub passed_next : (topo : Topology) (fs : List Recorded) (k : ℕ) (judged : List Event) (d : Event) → ArePassed topo fs k judged
    → ((n : ℕ) → Contains (clients topo k) n → has_caches topo n ≡ true → HasPassed fs n d.place.beat.cycle) → ArePassed topo fs k (judged ++ d ∷ [])
passed_next topo fs k judged d passed reached e n h own caches = elim (Contains-append_cases judged (d ∷ []) e h) [
  | inl a ↦ passed e n a own caches
  | inr b ↦ elim (contains_cases d [] e b) [ inl same ↦ subst (λ (x : Event). HasPassed fs n x.place.beat.cycle) same (reached n own caches) | inr none ↦ absurd (contains_none e none) ]
]

module _ (topo : Topology) (fs : List Recorded) (k : ℕ) (waiting after : ℕ → List Event) (judged : List Event) (is : IsPresent fs) (had : IsTold topo fs k waiting judged) where
  -- What waits of a link rises, and is of the link.
  waits_in_order : (link : ℕ) → Contains (clients topo k) link → IsStrictlySortedBy event_order (waiting link)
  waits_in_order link has = strict_back (on link judged) (waiting link) (subst (IsStrictlySortedBy event_order) (sym (had.each link has))
      (rise (bare topo k) (opening (bare topo k).exponent) (beats_of link fs) (own_strict link fs (ranges_of fs is))))

  pub of_link : (link : ℕ) (d : Event) → Contains (clients topo k) link → Contains (waiting link) d → d.place.link ≡ link
  of_link link d has h =
      let told : Contains (told_on topo fs k link) d = subst (λ es. Contains es d) (had.each link has) (Contains-append_right (on link judged) (waiting link) d h) in
      link_of_beat link fs d.place (of_beats (bare topo k) (opening (bare topo k).exponent) (beats_of link fs) d told)

  -- ---- the next that is judged

  module _ (link : ℕ) (d : Event) (rest : List Event) (has : Contains (clients topo k) link) (first : waiting link ≡ d ∷ rest) (here : after link ≡ rest)
      (there : (n : ℕ) → (n ≡ link → ⊥) → after n ≡ waiting n)
      (least : (n : ℕ) (e : Event) (more : List Event) → Contains (clients topo k) n → (n ≡ link → ⊥) → waiting n ≡ e ∷ more → event_order d e ≡ Less) where
    d_waits : Contains (waiting link) d
    d_waits = subst (λ es. Contains es d) (sym first) (contains_here d rest)

    at : d.place.link ≡ link
    at = of_link link d has d_waits

    still_waits : (n : ℕ) (e : Event) → Contains (after n) e → Contains (waiting n) e
    still_waits n e h = same_or_not n link (Contains (waiting n) e)
        (λ is. subst (λ i. Contains (waiting i) e) (sym is) (subst (λ es. Contains es e) (sym first) (contains_there d rest e (subst (λ es. Contains es e) here (subst (λ i. Contains (after i) e) is h)))))
        (λ other. subst (λ es. Contains es e) (there n other) h)

    above : (n : ℕ) (e : Event) → Contains (clients topo k) n → Contains (after n) e → event_order d e ≡ Less
    above n e own h = same_or_not n link (event_order d e ≡ Less)
        (λ is. first_less d rest e (subst (IsStrictlySortedBy event_order) first (waits_in_order link has)) (subst (λ es. Contains es e) here (subst (λ i. Contains (after i) e) is h)))
        (λ other. further other (waiting n) refl (subst (λ es. Contains es e) (there n other) h))
      where
        further : (n ≡ link → ⊥) → (es : List Event) → waiting n ≡ es → Contains es e → event_order d e ≡ Less
        further other [] w g = absurd (contains_none e g)
        further other (f ∷ es) w g = elim (contains_cases f es e g) [
          | inl same ↦ subst (λ x. event_order d x ≡ Less) same (least n f es own other w)
          | inr later ↦ event_total.trans d f e (least n f es own other w) (first_less f es e (subst (IsStrictlySortedBy event_order) w (waits_in_order n own)) later)
        ]

    each_next : (n : ℕ) → Contains (clients topo k) n → on n (judged ++ d ∷ []) ++ after n ≡ told_on topo fs k n
    each_next n own = same_or_not n link (on n (judged ++ d ∷ []) ++ after n ≡ told_on topo fs k n)
        (λ is. let kept : on n (d ∷ []) ≡ d ∷ [] = ap (λ b. cond b (d ∷ []) []) (ap (λ x. d.place.link == x) (is ∙ sym at) ∙ itself d.place.link) in
        ap (λ es. es ++ after n) (filter-append (λ e. e.place.link == n) judged (d ∷ []) ∙ ap (λ es. on n judged ++ es) kept)
        ∙ append_assoc (on n judged) (d ∷ []) (after n) ∙ ap (λ es. on n judged ++ d ∷ es) (ap after is ∙ here)
        ∙ ap (λ es. on n judged ++ es) (sym (ap waiting is ∙ first)) ∙ had.each n own)
        (λ other. let kept : on n (d ∷ []) ≡ [] = ap (λ b. cond b (d ∷ []) []) (not_same n other) in
        ap (λ es. es ++ after n) (filter-append (λ e. e.place.link == n) judged (d ∷ []) ∙ ap (λ es. on n judged ++ es) kept ∙ append-nil (on n judged))
        ∙ ap (λ es. on n judged ++ es) (there n other) ∙ had.each n own)
      where
        not_same : (n : ℕ) → (n ≡ link → ⊥) → (d.place.link == n) ≡ false
        not_same n other = elim (d.place.link == n) as (λ b. (d.place.link == n) ≡ b → b ≡ false) [
          | true ↦ λ e. absurd (other (sym (same_link d.place.link n e) ∙ at))
          | false ↦ λ e. refl
        ] refl

    pub told_next : IsTold topo fs k after (judged ++ d ∷ [])
    told_next = record {
      rises = strict_both event_order event_total judged (d ∷ []) had.rises (one_rises d) (λ x y h g. elim (contains_cases d [] y g) [
        | inl same ↦ subst (λ e. event_order x e ≡ Less) same (had.before x d link h has d_waits)
        | inr none ↦ absurd (contains_none y none)
      ]);
      own = λ e h. elim (Contains-append_cases judged (d ∷ []) e h) [
        | inl a ↦ had.own e a
        | inr b ↦ elim (contains_cases d [] e b) [ inl same ↦ subst (λ (x : Event). Contains (clients topo k) x.place.link) same (subst (Contains (clients topo k)) (sym at) has) | inr none ↦ absurd (contains_none e none) ]
      ];
      each = each_next;
      before = λ e x n h own g. elim (Contains-append_cases judged (d ∷ []) e h) [
        | inl a ↦ had.before e x n a own (still_waits n x g)
        | inr b ↦ elim (contains_cases d [] e b) [ inl same ↦ subst (λ y. event_order y x ≡ Less) same (above n x own g) | inr none ↦ absurd (contains_none e none) ]
      ];
    }

  -- Where the same waits, the same holds.
  pub told_alike : ((link : ℕ) → Contains (clients topo k) link → after link ≡ waiting link) → IsTold topo fs k after judged
  told_alike same = record {
    rises = had.rises;
    own = had.own;
    each = λ link has. ap (λ es. on link judged ++ es) (same link has) ∙ had.each link has;
    before = λ e d link h has g. had.before e d link h has (subst (λ es. Contains es d) (same link has) g);
  }

  -- ---- a fragment more

  module _ (f : Recorded) (there : IsPresent (put_in f fs)) (newer : IsAfter fs f) where
    abbrev with_it : List Recorded
    with_it = put_in f fs

    still_passed : (link cycle : ℕ) → HasPassed fs link cycle → HasPassed with_it link cycle
    still_passed link cycle had = (had.0, put_has f fs had.0 had.1, had.2, had.3)

    -- What it tells.
    abbrev new_told : List Event
    new_told = link_events (bare topo k) (left_on topo fs k f.link) (placed_beats f)

    -- One of another manager changes nothing.
    pub told_beside : ((link : ℕ) → Contains (clients topo k) link → f.link ≡ link → ⊥) → ((link : ℕ) → Contains (clients topo k) link → after link ≡ waiting link) → IsTold topo with_it k after judged
    told_beside beside same = record {
      rises = had.rises;
      own = had.own;
      each = λ link has. ap (λ es. on link judged ++ es) (same link has) ∙ had.each link has
          ∙ ap (link_events (bare topo k) (opening (bare topo k).exponent)) (sym (elsewhere fs f is there link (beside link has)));
      before = λ e d link h has g. had.before e d link h has (subst (λ es. Contains es d) (same link has) g);
    }

    pub passed_more : ArePassed topo fs k judged → ArePassed topo with_it k judged
    passed_more passed e n h own caches = still_passed n e.place.beat.cycle (passed e n h own caches)

    module _ (passed : ArePassed topo fs k judged) (has : Contains (clients topo k) f.link) (here : after f.link ≡ waiting f.link ++ new_told) (others : (n : ℕ) → Contains (clients topo k) n → (n ≡ f.link → ⊥) → after n ≡ waiting n) where
      all_told : told_on topo with_it k f.link ≡ told_on topo fs k f.link ++ new_told
      all_told = ap (link_events (bare topo k) (opening (bare topo k).exponent)) (at_end fs f is there newer)
          ∙ events_append (bare topo k) (opening (bare topo k).exponent) (beats_of f.link fs) (placed_beats f)

      -- A link without caches tells nothing.
      quiet : has_caches topo f.link ≡ false → new_told ≡ []
      quiet plain =
          let all : on_link f.link (placed_beats f) ≡ placed_beats f = all_kept (λ (p : Placed). p.link == f.link) (placed_beats f)
          (λ p h. let at = (within with_it f p there (put_here f fs) h).0 in ap (λ n. n == f.link) at ∙ itself f.link) in
          ap (link_events (bare topo k) (left_on topo fs k f.link)) (sym all) ∙ uncached_links_are_quiet (bare topo k) f.link (left_on topo fs k f.link) (placed_beats f) plain

      later : (e d : Event) → Contains judged e → Contains new_told d → event_order e d ≡ Less
      later e d h g = elim (has_caches topo f.link) as (λ b. has_caches topo f.link ≡ b → event_order e d ≡ Less) [
        | true ↦ λ caches. (let past = passed e f.link h has caches in
            let placed = within with_it f d.place there (put_here f fs) (of_beats (bare topo k) (left_on topo fs k f.link) (placed_beats f) d g) in
            let low : e.place.beat.cycle ≤ past.0.last = past.3 in
            let apart : past.0.last < f.first = newer past.0 past.1 past.2 in
            let high : f.first ≤ d.place.beat.cycle = placed.1 in
            positions_are_ordered.by_cycle e.place d.place (omega (arith, low, apart, high)))
        | false ↦ λ plain. absurd (contains_none d (subst (λ es. Contains es d) (quiet plain) g))
      ] refl

      waits : (n : ℕ) (d : Event) → Contains (clients topo k) n → Contains (after n) d → Contains (waiting n) d ⊎ Contains new_told d
      waits n d own h = same_or_not n f.link (Contains (waiting n) d ⊎ Contains new_told d)
          (λ same. Contains-append_cases (waiting n) new_told d (subst (λ es. Contains es d) (ap after same ∙ here ∙ ap (λ i. waiting i ++ new_told) (sym same)) h))
          (λ other. inl (subst (λ es. Contains es d) (others n own other) h))

      pub told_more : IsTold topo with_it k after judged
      told_more = record {
        rises = had.rises;
        own = had.own;
        each = λ n own. same_or_not n f.link (on n judged ++ after n ≡ told_on topo with_it k n)
            (λ same. ap (λ es. on n judged ++ es) (ap after same ∙ here ∙ ap (λ i. waiting i ++ new_told) (sym same)) ∙ sym (append_assoc (on n judged) (waiting n) new_told)
            ∙ ap (λ es. es ++ new_told) (had.each n own) ∙ ap (λ i. told_on topo fs k i ++ new_told) same ∙ sym all_told ∙ ap (told_on topo with_it k) (sym same))
            (λ other. ap (λ es. on n judged ++ es) (others n own other) ∙ had.each n own
            ∙ ap (link_events (bare topo k) (opening (bare topo k).exponent)) (sym (elsewhere fs f is there n (λ same. other (sym same)))));
        before = λ e d n h own g. elim (waits n d own g) [ inl old ↦ had.before e d n h own old | inr new ↦ later e d h new ];
      }

  -- ---- nothing waits any more

  module _ (none : (link : ℕ) → Contains (clients topo k) link → waiting link ≡ []) where
    abbrev beats : List Placed
    beats = manager_beats topo fs k

    client_of : (link : ℕ) (p : Placed) → Contains (on_link link beats) p → Contains (clients topo k) link
    client_of link p h =
        let kept = kept_from (λ (q : Placed). q.link == link) beats p h in
        subst (Contains (clients topo k)) (same_link p.link link kept.1) (linked_in topo fs is (clients topo k) p kept.0)

    of_client : (link : ℕ) → Contains (clients topo k) link → on link judged ≡ link_events (bare topo k) (for_link link (snapshot (bare topo k) [])) (on_link link beats)
    of_client link has =
        sym (append-nil (on link judged)) ∙ ap (λ es. on link judged ++ es) (sym (none link has)) ∙ had.each link has
        ∙ ap (link_events (bare topo k) (opening (bare topo k).exponent)) (sym (links_are_kept (clients topo k) fs link is has))

    pub all_merged : IsMerged (bare topo k) (snapshot (bare topo k) []) beats judged
    all_merged = record {
      rises = had.rises;
      each = λ link. elim (on link judged) as (λ es. on link judged ≡ es → on link judged ≡ link_events (bare topo k) (for_link link (snapshot (bare topo k) [])) (on_link link beats)) [
        | e ∷ es ↦ λ w. (let kept = kept_from (λ (x : Event). x.place.link == link) judged e (subst (λ xs. Contains xs e) (sym w) (contains_here e es)) in
            of_client link (subst (Contains (clients topo k)) (same_link e.place.link link kept.1) (had.own e kept.0)))
        | [] ↦ λ w. elim (on_link link beats) as (λ ps. on_link link beats ≡ ps → on link judged ≡ link_events (bare topo k) (for_link link (snapshot (bare topo k) [])) (on_link link beats)) [
          | p ∷ ps ↦ λ v. of_client link (client_of link p (subst (λ qs. Contains qs p) (sym v) (contains_here p ps)))
          | [] ↦ λ v. w ∙ ap (link_events (bare topo k) (for_link link (snapshot (bare topo k) []))) (sym v)
        ] refl
      ] refl;
    }
