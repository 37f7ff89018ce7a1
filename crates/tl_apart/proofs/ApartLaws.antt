-- One fragment more of links that are judged apart, and one event more of their managers.
use Rattle.std.proofs.Common.{◌≡◌, ℕ, ◌+◌, ◌<◌, ◌≤◌, inl, inr, ◌==◌, true, false, cond, List, [], ◌∷◌, ◌++◌, append-nil, Option, Some, None, length, set, refl, sym, ap, subst, ◌∙◌, arith}
use Rattle.std.specs.Prelude.{map, slice_get, nat_lt}
use Rattle.std.specs.List.{Contains}
use Rattle.std.specs.Option.{option_map_or}
use Rattle.std.specs.declared.cmp.Ordering.TheVariants.{Less}
use Rattle.std.proofs.lemmas.Bool.Decides.{nat_tests}
use Rattle.std.specs.Ordering.{is_lt}
use Rattle.std.proofs.lemmas.List.{length-set}
use Rattle.std.proofs.lemmas.Option.{same_Some, slice_get_within}
use Rattle.tl_topology.specs.Topology.{Topology}
use Rattle.tl_beats.specs.Fragments.{Frag}
use Rattle.tl_beats.specs.declared.Row.{Row}
use Rattle.tl_definitions.specs.Breaks.{row_of}
use Rattle.tl_definitions.specs.Events.{Event, event_order, event_rules, event_next, left_by_events, all_shown, link_events}
use Rattle.tl_definitions.specs.Judging.{snapshot}
use Rattle.tl_definitions.specs.LinkPasses.{link_judging}
use Rattle.tl_definitions.specs.Passes.{rows_judged, left_after}
use Rattle.tl_definitions.specs.Positions.{Recorded, beats_of, placed_beats}
use Rattle.tl_definitions.proofs.ChainLaws.{left_after-append}
use Rattle.tl_definitions.proofs.LinkLaws.{itself}
use Rattle.tl_definitions.proofs.Lists.{all_by}
use Rattle.tl_capture.specs.Present.{range_order, recorded, put_in, is_of, shares, IsCapture, IsPresent}
use Rattle.tl_capture.proofs.NumberLemmas.{present_put}
use Rattle.tl_capture.proofs.PutLemmas.{put_from}
use Rattle.tl_capture.proofs.TouchLemmas.{put_has, put_here}
use Rattle.tl_capture.proofs.WalkLemmas.{both}
use Rattle.tl_check.specs.Apart.{opening}
use Rattle.tl_apart.specs.Apart.{manager_of, rows_in, with_one, IsNewest, HasLeft, Knows, AreApart}
use Rattle.tl_apart.specs.Beside.{Takes}
use Rattle.tl_apart.specs.Feeds.{waiting, waiting_of, comes_after, newest_with, IsFirst}
use Rattle.tl_apart.specs.Holders as holders
use Rattle.tl_apart.specs.LinkJudge.{Shows}
use Rattle.tl_apart.specs.Told.{IsAfter, bare, clients, left_on, IsTold, ArePassed, AreFoundApart}
use Rattle.tl_apart.specs.FeedData.{FeedData}
use Rattle.tl_apart.specs.declared.feed.Newest.{Newest}
use Rattle.tl_apart.specs.declared.listener.Listener.{Listener}
use Rattle.tl_apart.proofs.BeatLaws.{elsewhere, at_end}
use Rattle.tl_apart.proofs.CaptureLaws.{manager_is}
use Rattle.tl_apart.proofs.EventLaws.{left_by_more}
use Rattle.tl_apart.proofs.FoundLaws.{fragment_more, event_more}
use Rattle.tl_apart.proofs.ListLaws.{get_set, get_other, count_set}
use Rattle.tl_apart.proofs.NumberLaws.{same_or_not}
use Rattle.tl_apart.proofs.RowLaws.{found_with}
use Rattle.tl_apart.proofs.ToldLaws.{told_alike, told_beside, told_more, told_next, passed_more}

-- ---- a fragment that comes after all of its link

module _ (fs : List Recorded) (link : ℕ) (f : Frag) (own : IsCapture (recorded link f)) (newest : Option Newest) (known : IsNewest fs link newest) (late : comes_after newest f ≡ true) where
  lower : (g : Recorded) → Contains fs g → g.link ≡ link → (g.number < f.number) × (g.last < f.first)
  lower g h same = go newest known late
    where
      go : (n : Option Newest) → IsNewest fs link n → comes_after n f ≡ true → (g.number < f.number) × (g.last < f.first)
      go None none t = absurd (none g h same)
      go (Some n) (most, there) t =
          let tests = both (nat_lt n.number f.number) (nat_lt n.last f.first) t in
          let number = tests.0 in
          let last = tests.1 in
          let below = most g h same in
          let one : g.number ≤ n.number = below.0 in
          let two : g.last ≤ n.last = below.1 in
          (grind (arith, nat_tests), grind (arith, nat_tests))

  pub is_after : IsAfter fs (recorded link f)
  is_after g h same = (lower g h same).1

  pub there : IsPresent fs → IsPresent (put_in (recorded link f) fs)
  there is = present_put (recorded link f) fs own is
      (all_by (λ g. is_of link f.number g ≡ false) fs (λ g h. same_or_not g.link link (is_of link f.number g ≡ false)
      (λ same. let less : g.number < f.number = (lower g h same).0 in grind (arith, nat_tests)) (λ other. grind (arith, nat_tests))))
      (all_by (λ g. shares link f.first f.last g ≡ false) fs (λ g h. same_or_not g.link link (shares link f.first f.last g ≡ false)
      (λ same. let less : g.last < f.first = (lower g h same).1 in grind (arith, nat_tests)) (λ other. grind (arith, nat_tests))))

  pub newest_now : IsNewest (put_in (recorded link f) fs) link (Some (newest_with f))
  newest_now = (
    λ g h same. elim (put_from (recorded link f) fs g h) [
      | inl is ↦ subst (λ (r : Recorded). (r.number ≤ f.number) × (r.last ≤ f.last)) is (omega arith, omega arith)
      | inr before ↦ (let low = lower g before same in let one : g.number < f.number = low.0 in let two : g.last < f.first = low.1 in let order : f.first ≤ f.last = own.order in (omega (arith, one), omega (arith, two, order)))
    ],
    (recorded link f, put_here (recorded link f) fs, refl, omega arith),
  )

  pub newest_beside : (n : ℕ) (other : Option Newest) → (n ≡ link → ⊥) → IsNewest fs n other → IsNewest (put_in (recorded link f) fs) n other
  newest_beside n None apart none = λ g h same. elim (put_from (recorded link f) fs g h) [
    | inl is ↦ apart (sym same ∙ ap (λ (r : Recorded). r.link) (sym is))
    | inr before ↦ none g before same
  ]
  newest_beside n (Some m) apart (most, had) = (
    λ g h same. elim (put_from (recorded link f) fs g h) [
      | inl is ↦ absurd (apart (sym same ∙ ap (λ (r : Recorded). r.link) (sym is)))
      | inr before ↦ most g before same
    ],
    (had.0, put_has (recorded link f) fs had.0 had.1, had.2, had.3),
  )

pub put_length : (f : Recorded) (fs : List Recorded) → length (put_in f fs) ≡ length fs + 1
put_length f [] = refl
put_length f (g ∷ fs) = elim (is_lt (range_order f g)) as (λ b. length (cond b (f ∷ g ∷ fs) (g ∷ put_in f fs)) ≡ length (g ∷ fs) + 1) [
  | true ↦ omega arith
  | false ↦ (let rest = put_length f fs in omega (arith, rest))
]

-- ---- of all links and managers

waiting_at : (feeds : List FeedData) (link : ℕ) (feed : FeedData) → slice_get feeds link ≡ Some feed → waiting_of feeds link ≡ waiting feed
waiting_at feeds link feed at = ap (λ o. option_map_or waiting o []) at

module _ (topo : Topology) (fs : List Recorded) (judged : ℕ → List Event) (feeds : List FeedData) (listeners : List Listener) (rows : List Row) (is : AreApart topo fs judged feeds listeners rows)
    (link : ℕ) (feed next : FeedData) (was : slice_get feeds link ≡ Some feed) where
  abbrev changed : List FeedData
  changed = set feeds link next

  now : slice_get changed link ≡ Some next
  now = get_set feeds link next (slice_get_within feeds link feed was)

  others : (n : ℕ) → (n ≡ link → ⊥) → slice_get changed n ≡ slice_get feeds n
  others n other = get_other feeds link n next other

  -- A fragment more.
  module _ (f : Frag) (takes : Takes topo link f feed next) (passed : (j : ℕ) → j < length topo.managers → ArePassed topo fs j (judged j)) where
    abbrev r : Recorded
    r = recorded link f

    abbrev k : ℕ
    k = manager_of topo link

    had_left : HasLeft topo fs link feed
    had_left = is.left link feed was

    present : IsPresent (put_in r fs)
    present = there fs link f takes.own feed.newest had_left.newest takes.late is.present

    after : IsAfter fs r
    after = is_after fs link f takes.own feed.newest had_left.newest takes.late

    left_there : left_on topo (put_in r fs) k link ≡ left_after (link_judging (bare topo k)) (left_on topo fs k link) (placed_beats r)
    left_there = ap (left_after (link_judging (bare topo k)) (opening (bare topo k).exponent)) (at_end fs r is.present present after)
        ∙ left_after-append (link_judging (bare topo k)) (opening (bare topo k).exponent) (beats_of link fs) (placed_beats r)

    left_beside : (n : ℕ) → (n ≡ link → ⊥) → left_on topo (put_in r fs) (manager_of topo n) n ≡ left_on topo fs (manager_of topo n) n
    left_beside n other = ap (left_after (link_judging (bare topo (manager_of topo n))) (opening (bare topo (manager_of topo n)).exponent)) (elsewhere fs r is.present present n (λ same. other (sym same)))

    left_now : HasLeft topo (put_in r fs) link next
    left_now = record {
      shows = subst (Shows (bare topo k).exponent next.judge) (sym left_there) (takes.shows (left_on topo fs k link) had_left.shows);
      newest = subst (IsNewest (put_in r fs) link) (sym takes.newest) (newest_now fs link f takes.own feed.newest had_left.newest takes.late);
    }

    left_more : (n : ℕ) (one : FeedData) → slice_get changed n ≡ Some one → HasLeft topo (put_in r fs) n one
    left_more n one at = same_or_not n link (HasLeft topo (put_in r fs) n one)
        (λ here. let this : next ≡ one = same_Some next one (sym now ∙ ap (slice_get changed) (sym here) ∙ at) in
        subst (HasLeft topo (put_in r fs) n) this (subst (λ m. HasLeft topo (put_in r fs) m next) (sym here) left_now))
        (λ other. let had = is.left n one (sym (others n other) ∙ at) in record {
          shows = subst (Shows (bare topo (manager_of topo n)).exponent one.judge) (sym (left_beside n other)) had.shows;
          newest = newest_beside fs link f takes.own feed.newest had_left.newest takes.late n one.newest other had.newest;
        })

    told_there : (j : ℕ) → j < length topo.managers → IsTold topo (put_in r fs) j (waiting_of changed) (judged j)
    told_there j low = same_or_not j k (IsTold topo (put_in r fs) j (waiting_of changed) (judged j))
        (λ here. subst (λ i. IsTold topo (put_in r fs) i (waiting_of changed) (judged i)) (sym here)
        (told_more topo fs k (waiting_of feeds) (waiting_of changed) (judged k) is.present (is.told k takes.managed) r present after (passed k takes.managed) takes.client
        (waiting_at changed link next now ∙ takes.waits (left_on topo fs k link) had_left.shows ∙ ap (λ es. es ++ link_events (bare topo k) (left_on topo fs k link) (placed_beats r)) (sym (waiting_at feeds link feed was)))
        (λ n own other. ap (λ o. option_map_or waiting o []) (others n other))))
        (λ other. told_beside topo fs j (waiting_of feeds) (waiting_of changed) (judged j) is.present (is.told j low) r present after
        (λ n own same. other (sym (manager_is topo j n own) ∙ ap (manager_of topo) (sym same)))
        (λ n own. ap (λ o. option_map_or waiting o []) (others n (λ same. other (sym (manager_is topo j n own) ∙ ap (manager_of topo) same)))))

    abbrev more : List Row
    more = rows_judged (link_judging (bare topo k)) (left_on topo fs k link) (placed_beats r)

    found_more : AreFoundApart topo (put_in r fs) judged (rows_in changed ++ rows)
    found_more = subst (λ rs. AreFoundApart topo (put_in r fs) judged (rows_in changed ++ rs)) (append-nil rows)
        (found_with feeds link feed next was more (takes.rows (left_on topo fs k link) had_left.shows) topo (put_in r fs) judged rows []
        (subst (AreFoundApart topo (put_in r fs) judged) (sym (append-nil ((rows_in feeds ++ rows) ++ more)))
        (fragment_more topo fs is.present judged (rows_in feeds ++ rows) is.found r present after k takes.managed takes.client more refl)))

    one_fragment : AreApart topo (put_in r fs) judged changed listeners rows
    one_fragment = record {
      present = present;
      links = length-set feeds link next ∙ is.links;
      left = left_more;
      managers = is.managers;
      known = is.known;
      told = told_there;
      found = found_more;
      counted = (let sum = count_set feeds link feed next was in let long = put_length r fs in let one = takes.count in let had = is.counted in omega (arith, sum, long, one, had));
    }

    still_passed : (j : ℕ) → j < length topo.managers → ArePassed topo (put_in r fs) j (judged j)
    still_passed j low = passed_more topo fs j (waiting_of feeds) (waiting_of changed) (judged j) is.present (is.told j low) r present after (passed j low)

    pub one_comes : AreApart topo (put_in r fs) judged changed listeners rows × ((j : ℕ) → j < length topo.managers → ArePassed topo (put_in r fs) j (judged j))
    one_comes = (one_fragment, still_passed)

  -- An event more.
  module _ (k : ℕ) (below : k < length topo.managers) (first : IsFirst feeds (clients topo k) link) (e : Event) (taken : waiting feed ≡ e ∷ waiting next)
      (rest : next ≡ record feed { waiting = next.waiting }) (listener heard : Listener) (knew : slice_get listeners k ≡ Some listener) (numbers : heard.clients ≡ listener.clients)
      (own : holders.clients_of heard.holders ≡ holders.clients_of listener.holders)
      (shows : holders.Shows heard.holders (event_next (left_by_events (all_shown (snapshot (bare topo k) [])) (judged k)) e)) (after : List Row)
      (put : after ≡ rows ++ map (row_of e.place) (event_rules (holders.clients_of listener.holders) (left_by_events (all_shown (snapshot (bare topo k) [])) (judged k)) e)) where
    abbrev later : ℕ → List Event
    later = with_one judged k e

    abbrev all_heard : List Listener
    all_heard = set listeners k heard

    knows : slice_get all_heard k ≡ Some heard
    knows = get_set listeners k heard (slice_get_within listeners k listener knew)

    beside : (j : ℕ) → (j ≡ k → ⊥) → slice_get all_heard j ≡ slice_get listeners j
    beside j other = get_other listeners k j heard other

    here : later k ≡ judged k ++ e ∷ []
    here = ap (λ b. cond b (judged k ++ e ∷ []) (judged k)) (itself k)

    elsewhere_same : (j : ℕ) → (j ≡ k → ⊥) → later j ≡ judged j
    elsewhere_same j other = elim (j == k) as (λ b. (j == k) ≡ b → cond b (judged j ++ e ∷ []) (judged j) ≡ judged j) [
      | true ↦ λ t. absurd (other (grind (arith, nat_tests)))
      | false ↦ λ t. refl
    ] refl

    has_it : Contains (clients topo k) link
    has_it = first.0

    head_is : first.1 ∷ first.2 ≡ e ∷ waiting next
    head_is = sym first.3 ∙ waiting_at feeds link feed was ∙ taken

    one_e : (x y : Event) (xs ys : List Event) → x ∷ xs ≡ y ∷ ys → x ≡ y
    one_e x y xs ys h = cc

    knew_it : Knows topo k (judged k) listener
    knew_it = is.known k listener knew

    told_after : (j : ℕ) → j < length topo.managers → IsTold topo fs j (waiting_of changed) (later j)
    told_after j low = same_or_not j k (IsTold topo fs j (waiting_of changed) (later j))
        (λ same. subst (λ i. IsTold topo fs i (waiting_of changed) (later i)) (sym same) (subst (IsTold topo fs k (waiting_of changed)) (sym here)
        (told_next topo fs k (waiting_of feeds) (waiting_of changed) (judged k) is.present (is.told k below) link e (waiting next) has_it
        (waiting_at feeds link feed was ∙ taken) (waiting_at changed link next now) (λ n other. ap (λ o. option_map_or waiting o []) (others n other))
        (λ n x more own_n other w. subst (λ d. event_order d x ≡ Less) (one_e first.1 e first.2 (waiting next) head_is) (first.4 n x more own_n other w)))))
        (λ other. subst (IsTold topo fs j (waiting_of changed)) (sym (elsewhere_same j other))
        (told_alike topo fs j (waiting_of feeds) (waiting_of changed) (judged j) is.present (is.told j low)
        (λ n own_n. ap (λ o. option_map_or waiting o []) (others n (λ same. other (sym (manager_is topo j n own_n) ∙ ap (manager_of topo) same ∙ manager_is topo k link has_it))))))

    known_after : (j : ℕ) (one : Listener) → slice_get all_heard j ≡ Some one → Knows topo j (later j) one
    known_after j one at = same_or_not j k (Knows topo j (later j) one)
        (λ same. let this : heard ≡ one = same_Some heard one (sym knows ∙ ap (slice_get all_heard) (sym same) ∙ at) in
        subst (Knows topo j (later j)) this (subst (λ i. Knows topo i (later i) heard) (sym same) (record {
          numbers = ap (λ v. v.items) numbers ∙ knew_it.numbers;
          own = own ∙ knew_it.own;
          shows = subst (holders.Shows heard.holders) (sym (ap (left_by_events (all_shown (snapshot (bare topo k) []))) here ∙ left_by_more (all_shown (snapshot (bare topo k) [])) (judged k) e)) shows;
        })))
        (λ other. subst (λ es. Knows topo j es one) (sym (elsewhere_same j other)) (is.known j one (sym (beside j other) ∙ at)))

    left_after_event : (n : ℕ) (one : FeedData) → slice_get changed n ≡ Some one → HasLeft topo fs n one
    left_after_event n one at = same_or_not n link (HasLeft topo fs n one)
        (λ same. let this : next ≡ one = same_Some next one (sym now ∙ ap (slice_get changed) (sym same) ∙ at) in
        let had = is.left link feed was in
        subst (HasLeft topo fs n) this (subst (λ m. HasLeft topo fs m next) (sym same) (record {
          shows = subst (λ j. Shows (bare topo (manager_of topo link)).exponent j (left_on topo fs (manager_of topo link) link)) (sym (ap (λ (x : FeedData). x.judge) rest)) had.shows;
          newest = subst (IsNewest fs link) (sym (ap (λ (x : FeedData). x.newest) rest)) had.newest;
        })))
        (λ other. is.left n one (sym (others n other) ∙ at))

    abbrev found_now : List Row
    found_now = map (row_of e.place) (event_rules (holders.clients_of listener.holders) (left_by_events (all_shown (snapshot (bare topo k) [])) (judged k)) e)

    found_after : AreFoundApart topo fs later (rows_in changed ++ (rows ++ found_now))
    found_after = found_with feeds link feed next was [] (ap (λ (x : FeedData). x.rows) rest ∙ sym (append-nil feed.rows)) topo fs later rows found_now
        (subst (λ rs. AreFoundApart topo fs later (rs ++ found_now)) (sym (append-nil (rows_in feeds ++ rows)))
        (event_more topo fs is.present judged (rows_in feeds ++ rows) is.found k below e later here elsewhere_same found_now
        (ap (λ cs. map (row_of e.place) (event_rules cs (left_by_events (all_shown (snapshot (bare topo k) [])) (judged k)) e)) knew_it.own)))

    pub one_event : AreApart topo fs later changed all_heard after
    one_event = record {
      present = is.present;
      links = length-set feeds link next ∙ is.links;
      left = left_after_event;
      managers = length-set listeners k heard ∙ is.managers;
      known = known_after;
      told = told_after;
      found = subst (λ rs. AreFoundApart topo fs later (rows_in changed ++ rs)) (sym put) found_after;
      counted = (let sum = count_set feeds link feed next was in let same = ap (λ (x : FeedData). x.count) rest in let had = is.counted in omega (arith, sum, same, had));
    }
