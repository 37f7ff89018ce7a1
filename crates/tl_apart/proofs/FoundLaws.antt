-- What is found of links apart and of the events of their managers is what the report has.
use Rattle.std.proofs.Common.{◌≡◌, ℕ, ◌+◌, ◌<◌, ◌⊎◌, inl, inr, ◌==◌, true, false, List, [], ◌∷◌, ◌++◌, length, refl, sym, ap, subst, ◌∙◌, arith}
use Rattle.std.specs.Prelude.{map, ◌↔◌}
use Rattle.std.specs.List.{Contains}
use Rattle.std.proofs.lemmas.Bool.Decides.{nat_tests}
use Rattle.std.proofs.lemmas.List.Elements.{Contains-append_left, Contains-append_right, Contains-append_cases}
use Rattle.tl_topology.specs.Topology.{Topology}
use Rattle.tl_beats.specs.declared.Placed.{Placed}
use Rattle.tl_beats.specs.declared.Row.{Row}
use Rattle.tl_definitions.specs.Breaks.{row_of}
use Rattle.tl_definitions.specs.Captures.{manager_beats}
use Rattle.tl_definitions.specs.Events.{Event, IsMerged, all_shown, event_rules, left_by_events}
use Rattle.tl_definitions.specs.Judging.{Snapshot, snapshot, judging}
use Rattle.tl_definitions.specs.LinkPasses.{for_link, link_judging, on_link}
use Rattle.tl_definitions.specs.Managers.{declared_links}
use Rattle.tl_definitions.specs.Passes.{rows_judged}
use Rattle.tl_definitions.specs.Positions.{Recorded, beats_of, links_of, placed_beats}
use Rattle.tl_definitions.specs.Report.{of_manager, Finds, FindsIn}
use Rattle.tl_definitions.proofs.ChainLaws.{rows_judged-append}
use Rattle.tl_definitions.proofs.EventLaws.{passes_are_the_whole}
use Rattle.tl_definitions.proofs.JudgingLaws.{all_exact}
use Rattle.tl_definitions.proofs.LinkLaws.{itself, same_link}
use Rattle.tl_definitions.proofs.Lists.{contains_none, kept_from}
use Rattle.tl_definitions.proofs.ReportLaws.{rows_are_breaks}
use Rattle.tl_capture.specs.Present.{IsPresent, put_in}
use Rattle.tl_capture.proofs.LawLemmas.{links_are_kept}
use Rattle.tl_capture.proofs.PresentLemmas.{beats_rise, ranges_of}
use Rattle.tl_capture.proofs.TouchLemmas.{put_here}
use Rattle.tl_check.specs.Apart.{opening}
use Rattle.tl_check.specs.Captured.{captures_with}
use Rattle.tl_check.proofs.CaptureLaws.{linked_in}
use Rattle.tl_apart.specs.Told.{IsAfter, bare, clients, left_on, rows_of_events, rows_of_link, IsOfLink, AreFoundApart}
use Rattle.tl_apart.proofs.BeatLaws.{within, elsewhere, at_end}
use Rattle.tl_apart.proofs.CaptureLaws.{capture_from, capture_there, manager_is, row_from}
use Rattle.tl_apart.proofs.EventLaws.{event_rows_more}
use Rattle.tl_apart.proofs.NumberLaws.{same_or_not}

-- ---- one manager

module _ (topo : Topology) (fs : List Recorded) (is : IsPresent fs) (k : ℕ) (events : List Event) (merged : IsMerged (bare topo k) (snapshot (bare topo k) []) (manager_beats topo fs k) events) where
  abbrev beats : List Placed
  beats = manager_beats topo fs k

  abbrev start : Snapshot
  start = snapshot (bare topo k) []

  abbrev Own : Row → Type 0
  Own row = Contains (rows_judged (link_judging (bare topo k)) (for_link row.link start) (on_link row.link beats)) row

  all_rows : (row : Row) → Contains (rows_judged (judging (bare topo k)) start beats) row ↔ (Own row ⊎ Contains (rows_of_events topo k events) row)
  all_rows row = (passes_are_the_whole (bare topo k) start beats events (beats_rise (clients topo k) fs (ranges_of fs is)) merged).0 row

  client_of : (link : ℕ) (p : Placed) → Contains (on_link link beats) p → Contains (clients topo k) link
  client_of link p h =
      let kept = kept_from (λ (q : Placed). q.link == link) beats p h in
      subst (Contains (clients topo k)) (same_link p.link link kept.1) (linked_in topo fs is (clients topo k) p kept.0)

  own : (link : ℕ) → Contains (clients topo k) link → rows_judged (link_judging (bare topo k)) (for_link link start) (on_link link beats) ≡ rows_of_link topo fs k link
  own link has = ap (λ ps. rows_judged (link_judging (bare topo k)) (opening (bare topo k).exponent) ps) (links_are_kept (clients topo k) fs link is has)

  of_manager_found : (row : Row) → Finds (of_manager (bare topo k) beats) row → (Contains (clients topo k) row.link × Contains (rows_of_link topo fs k row.link) row) ⊎ Contains (rows_of_events topo k events) row
  of_manager_found row found =
      let broken = (rows_are_breaks (bare topo k) beats row).1 found in
      elim ((all_rows row).0 (subst (λ rs. Contains rs row) (sym (all_exact (bare topo k) [] beats)) broken)) [
        | inl here ↦ (let from = row_from (bare topo k) (for_link row.link start) (on_link row.link beats) row here in
            let has = client_of row.link from.0 from.1 in
            inl (has, subst (λ rs. Contains rs row) (own row.link has) here))
        | inr event ↦ inr event
      ]

  found_of_manager : (row : Row) → (Contains (clients topo k) row.link × Contains (rows_of_link topo fs k row.link) row) ⊎ Contains (rows_of_events topo k events) row → Finds (of_manager (bare topo k) beats) row
  found_of_manager row either =
      let whole = (all_rows row).1 (elim either [
        | inl here ↦ inl (subst (λ rs. Contains rs row) (sym (own row.link here.0)) here.1)
        | inr event ↦ inr event
      ]) in
      (rows_are_breaks (bare topo k) beats row).0 (subst (λ rs. Contains rs row) (all_exact (bare topo k) [] beats) whole)

-- ---- all managers

module _ (topo : Topology) (fs : List Recorded) (is : IsPresent fs) (judged : ℕ → List Event)
    (merged : (k : ℕ) → k < length topo.managers → IsMerged (bare topo k) (snapshot (bare topo k) []) (manager_beats topo fs k) (judged k)) (rows : List Row) (found : AreFoundApart topo fs judged rows) where
  from_zero : (k : ℕ) → k < length topo.managers → k < 0 + length topo.managers
  from_zero k less = omega arith

  to_zero : (k : ℕ) → k < 0 + length topo.managers → k < length topo.managers
  to_zero k less = omega arith

  pub apart_is_the_report : (row : Row) → Contains rows row ↔ FindsIn (captures_with topo fs [] []) row
  apart_is_the_report row = (
    (λ h. elim ((found row).0 h) [
      | inl link ↦ capture_there topo fs 0 topo.managers row link.0 (omega arith) (from_zero link.0 link.1) (found_of_manager topo fs is link.0 (judged link.0) (merged link.0 link.1) row (inl (link.2, link.3)))
      | inr event ↦ capture_there topo fs 0 topo.managers row event.0 (omega arith) (from_zero event.0 event.1) (found_of_manager topo fs is event.0 (judged event.0) (merged event.0 event.1) row (inr event.2))
    ]),
    (λ finds. let at = capture_from topo fs 0 topo.managers row finds in
        let below : at.0 < length topo.managers = to_zero at.0 at.2 in
        (found row).1 (elim (of_manager_found topo fs is at.0 (judged at.0) (merged at.0 below) row at.3) [
          | inl link ↦ inl (at.0, below, link.0, link.1)
          | inr event ↦ inr (at.0, below, event)
        ])),
  )

-- ---- as they come

pub none_apart : (topo : Topology) → AreFoundApart topo [] (λ k. []) []
none_apart topo row = (
  (λ h. absurd (contains_none row h)),
  (λ either. elim either [ inl link ↦ absurd (contains_none row link.3) | inr event ↦ absurd (contains_none row event.2) ]),
)

module _ (topo : Topology) (fs : List Recorded) (is : IsPresent fs) (judged : ℕ → List Event) (rows : List Row) (found : AreFoundApart topo fs judged rows) where
  -- A fragment more.
  module _ (f : Recorded) (there : IsPresent (put_in f fs)) (newer : IsAfter fs f) (k : ℕ) (below : k < length topo.managers) (has : Contains (clients topo k) f.link) (more : List Row)
      (put : more ≡ rows_judged (link_judging (bare topo k)) (left_on topo fs k f.link) (placed_beats f)) where
    abbrev with_it : List Recorded
    with_it = put_in f fs

    one_more : rows_of_link topo with_it k f.link ≡ rows_of_link topo fs k f.link ++ more
    one_more = ap (rows_judged (link_judging (bare topo k)) (opening (bare topo k).exponent)) (at_end fs f is there newer)
        ∙ rows_judged-append (link_judging (bare topo k)) (opening (bare topo k).exponent) (beats_of f.link fs) (placed_beats f) ∙ ap (λ rs. rows_of_link topo fs k f.link ++ rs) (sym put)

    more_at : (row : Row) → Contains more row → row.link ≡ f.link
    more_at row h =
        let from = row_from (bare topo k) (left_on topo fs k f.link) (placed_beats f) row (subst (λ rs. Contains rs row) put h) in
        from.2 ∙ (within with_it f from.0 there (put_here f fs) from.1).0

    beside : (j link : ℕ) → (link ≡ f.link → ⊥) → rows_of_link topo with_it j link ≡ rows_of_link topo fs j link
    beside j link other = ap (rows_judged (link_judging (bare topo j)) (opening (bare topo j).exponent)) (elsewhere fs f is there link (λ same. other (sym same)))

    to : (row : Row) → IsOfLink topo with_it row → IsOfLink topo fs row ⊎ Contains more row
    to row at = elim (row.link == f.link) as (λ b. (row.link == f.link) ≡ b → IsOfLink topo fs row ⊎ Contains more row) [
      | true ↦ λ e. (let same : row.link ≡ f.link = grind (arith, nat_tests) in
          let one : at.0 ≡ k = sym (manager_is topo at.0 row.link at.2) ∙ ap (λ l. (links_of (declared_links topo) l).manager) same ∙ manager_is topo k f.link has in
          let here : Contains (rows_of_link topo with_it k f.link) row = subst (λ l. Contains (rows_of_link topo with_it k l) row) same (subst (λ j. Contains (rows_of_link topo with_it j row.link) row) one at.3) in
          elim (Contains-append_cases (rows_of_link topo fs k f.link) more row (subst (λ rs. Contains rs row) one_more here)) [
            | inl old ↦ inl (k, below, subst (Contains (clients topo k)) (sym same) has, subst (λ l. Contains (rows_of_link topo fs k l) row) (sym same) old)
            | inr new ↦ inr new
          ])
      | false ↦ λ e. (let other : row.link ≡ f.link → ⊥ = λ same. (let yes : (row.link == f.link) ≡ true = ap (λ l. l == f.link) same ∙ itself f.link in cc) in
          inl (at.0, at.1, at.2, subst (λ rs. Contains rs row) (beside at.0 row.link other) at.3))
    ] refl

    back : (row : Row) → IsOfLink topo fs row → IsOfLink topo with_it row
    back row at = elim (row.link == f.link) as (λ b. (row.link == f.link) ≡ b → IsOfLink topo with_it row) [
      | true ↦ λ e. (let same : row.link ≡ f.link = grind (arith, nat_tests) in
          let one : at.0 ≡ k = sym (manager_is topo at.0 row.link at.2) ∙ ap (λ l. (links_of (declared_links topo) l).manager) same ∙ manager_is topo k f.link has in
          let here : Contains (rows_of_link topo fs k f.link) row = subst (λ l. Contains (rows_of_link topo fs k l) row) same (subst (λ j. Contains (rows_of_link topo fs j row.link) row) one at.3) in
          (k, below, subst (Contains (clients topo k)) (sym same) has, subst (λ l. Contains (rows_of_link topo with_it k l) row) (sym same) (subst (λ rs. Contains rs row) (sym one_more) (Contains-append_left (rows_of_link topo fs k f.link) more row here))))
      | false ↦ λ e. (let other : row.link ≡ f.link → ⊥ = λ same. (let yes : (row.link == f.link) ≡ true = ap (λ l. l == f.link) same ∙ itself f.link in cc) in
          (at.0, at.1, at.2, subst (λ rs. Contains rs row) (sym (beside at.0 row.link other)) at.3))
    ] refl

    new : (row : Row) → Contains more row → IsOfLink topo with_it row
    new row h =
        let same : row.link ≡ f.link = more_at row h in
        (k, below, subst (Contains (clients topo k)) (sym same) has, subst (λ l. Contains (rows_of_link topo with_it k l) row) (sym same) (subst (λ rs. Contains rs row) (sym one_more) (Contains-append_right (rows_of_link topo fs k f.link) more row h)))

    pub fragment_more : AreFoundApart topo with_it judged (rows ++ more)
    fragment_more row = (
      (λ h. elim (Contains-append_cases rows more row h) [
        | inl old ↦ elim ((found row).0 old) [ inl link ↦ inl (back row link) | inr event ↦ inr event ]
        | inr fresh ↦ inl (new row fresh)
      ]),
      (λ either. elim either [
        | inl link ↦ elim (to row link) [ inl old ↦ Contains-append_left rows more row ((found row).1 (inl old)) | inr fresh ↦ Contains-append_right rows more row fresh ]
        | inr event ↦ Contains-append_left rows more row ((found row).1 (inr event))
      ]),
    )

  -- An event more.
  module _ (k : ℕ) (below : k < length topo.managers) (e : Event) (after : ℕ → List Event) (here : after k ≡ judged k ++ e ∷ []) (others : (j : ℕ) → (j ≡ k → ⊥) → after j ≡ judged j) (more : List Row)
      (put : more ≡ map (row_of e.place) (event_rules (clients topo k) (left_by_events (all_shown (snapshot (bare topo k) [])) (judged k)) e)) where
    one_more_event : rows_of_events topo k (after k) ≡ rows_of_events topo k (judged k) ++ more
    one_more_event = ap (rows_of_events topo k) here ∙ event_rows_more (clients topo k) (all_shown (snapshot (bare topo k) [])) (judged k) e ∙ ap (λ rs. rows_of_events topo k (judged k) ++ rs) (sym put)

    pub event_more : AreFoundApart topo fs after (rows ++ more)
    event_more row = (
      (λ h. elim (Contains-append_cases rows more row h) [
        | inl old ↦ elim ((found row).0 old) [
          | inl link ↦ inl link
          | inr event ↦ inr (
            event.0,
            event.1,
            same_or_not event.0 k (Contains (rows_of_events topo event.0 (after event.0)) row)
                (λ same. subst (λ j. Contains (rows_of_events topo j (after j)) row) (sym same) (subst (λ rs. Contains rs row) (sym one_more_event)
                (Contains-append_left (rows_of_events topo k (judged k)) more row (subst (λ j. Contains (rows_of_events topo j (judged j)) row) same event.2))))
                (λ other. subst (λ es. Contains (rows_of_events topo event.0 es) row) (sym (others event.0 other)) event.2),
          )
        ]
        | inr fresh ↦ inr (k, below, subst (λ rs. Contains rs row) (sym one_more_event) (Contains-append_right (rows_of_events topo k (judged k)) more row fresh))
      ]),
      (λ either. elim either [
        | inl link ↦ Contains-append_left rows more row ((found row).1 (inl link))
        | inr event ↦ same_or_not event.0 k (Contains (rows ++ more) row)
            (λ same. elim (Contains-append_cases (rows_of_events topo k (judged k)) more row (subst (λ rs. Contains rs row) one_more_event (subst (λ j. Contains (rows_of_events topo j (after j)) row) same event.2))) [
              | inl old ↦ Contains-append_left rows more row ((found row).1 (inr (k, below, old)))
              | inr fresh ↦ Contains-append_right rows more row fresh
            ])
            (λ other. Contains-append_left rows more row ((found row).1 (inr (event.0, event.1, subst (λ es. Contains (rows_of_events topo event.0 es) row) (others event.0 other) event.2))))
      ]),
    )
