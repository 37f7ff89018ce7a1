-- Links without caches judged one after the other leave and find what their beats in the order of positions do.
use Rattle.std.proofs.Common.{◌≡◌, ℕ, ◌==◌, ◌&&◌, Bool, true, false, cond, List, [], ◌∷◌, ◌++◌, get_or, Some, None, refl, sym, ap, subst, ◌∙◌}
use Rattle.std.specs.Prelude.{map, filter, not, ◌↔◌}
use Rattle.std.specs.Option.{option_map_or}
use Rattle.std.specs.List.{Contains}
use Rattle.std.specs.List.Sorted.{IsStrictlySortedBy}
use Rattle.std.specs.Ordering.{nat_cmp}
use Rattle.std.proofs.lemmas.List.Elements.{All-contains, Contains-get_or}
use Rattle.std.proofs.lemmas.List.Kept.{IsStrictlySortedBy-filter}
use Rattle.tl_tables.specs.Messages.{level_le}
use Rattle.tl_tables.specs.declared.Level.TheVariants as level
use Rattle.tl_topology.specs.Regions.{Area}
use Rattle.tl_topology.specs.Topology.{Topology}
use Rattle.tl_beats.specs.Beats.{IsWellFormed}
use Rattle.tl_beats.specs.declared.Placed.{Placed}
use Rattle.tl_beats.specs.declared.Row.{Row}
use Rattle.tl_definitions.specs.Breaks.{row_of}
use Rattle.tl_definitions.specs.Events.{event_of, event_rules, link_events, with_event, all_shown}
use Rattle.tl_definitions.specs.Judging.{Snapshot, judged_rules, judged_next, judging}
use Rattle.tl_definitions.specs.LinkPasses.{LinkSnapshot, for_link, of_links, is_managers, is_own_row, link_judging, on_link}
use Rattle.tl_definitions.specs.Managers.{declared_links, manager_at}
use Rattle.tl_definitions.specs.Passes.{rows_judged, left_after}
use Rattle.tl_definitions.specs.Positions.{Recorded, position_order, beats_of_all, clients_of}
use Rattle.tl_definitions.specs.Report.{row_order}
use Rattle.tl_definitions.specs.Rules.{Manager}
use Rattle.tl_definitions.proofs.ChainLaws.{rows_judged-append, left_after-append}
use Rattle.tl_definitions.proofs.EventLaws.{managers_of_beat, uncached_links_are_quiet}
use Rattle.tl_definitions.proofs.LinkLaws.{kept_mapped, itself, states_apart, rows_apart}
use Rattle.tl_definitions.proofs.Lists.{contains_none, contains_here, contains_there, contains_kept, kept_from, kept_order, kept_of_both}
use Rattle.tl_capture.specs.Present.{IsPresent}
use Rattle.tl_capture.specs.Windows.{lies_in, beats_in, AreBeatsOf}
use Rattle.tl_capture.proofs.LawLemmas.{links_are_kept, one_link_is_its_own}
use Rattle.tl_check.specs.Jobs.{GoesOn, Judges}
use Rattle.tl_check.specs.Managers.{IsPlain}
use Rattle.tl_check.specs.States.{shown, IsOf}
use Rattle.tl_check.specs.declared.state.SpanState.{SpanState}
use Rattle.tl_check.proofs.WalkedLaws.{judged}
use Rattle.tl_check.specs.LinkByLink.{one_after_other}
use Rattle.tl_check.proofs.LinkByLink.{each_stays}
use Rattle.tl_board.specs.Apart.{IsParted}

-- ---- beats that are mixed otherwise

-- No link of these beats has caches.
abbrev ArePlain : Manager → List Placed → Type 0
ArePlain m beats = (p : Placed) → Contains beats p → level_le level.C (m.links p.link).level ≡ false

no_event : (m : Manager) (s : LinkSnapshot) (p : Placed) → level_le level.C (m.links p.link).level ≡ false → event_of m s p ≡ None
no_event m s p plain =
    elim (event_of m s p) as (λ found. with_event found [] ≡ [] → found ≡ None) [ None ↦ λ h. refl | Some e ↦ λ h. cc ]
    (ap (λ b. link_events m s (cond b (p ∷ []) [])) (sym (itself p.link)) ∙ uncached_links_are_quiet m p.link s (p ∷ []) plain)

none_of_managers : (m : Manager) (s : Snapshot) (p : Placed) → level_le level.C (m.links p.link).level ≡ false → filter is_managers (judged_rules m s p) ≡ []
none_of_managers m s p plain = managers_of_beat m s p ∙ ap (λ found. option_map_or (event_rules m.clients (all_shown s)) found []) (no_event m (for_link p.link s) p plain)

-- They have no row of their manager's rules.
own_alone : (m : Manager) (s : Snapshot) (beats : List Placed) → ArePlain m beats → filter (λ (row : Row). is_managers row.rule) (rows_judged (judging m) s beats) ≡ []
own_alone m s [] plain = refl
own_alone m s (p ∷ beats) plain =
    let test : Row → Bool = λ row. is_managers row.rule in
    let rest : List Row = rows_judged (judging m) (judged_next m s p) beats in
    kept_of_both test (map (row_of p) (judged_rules m s p)) rest
    ∙ ap (λ rows. rows ++ filter test rest) (kept_mapped test (row_of p) (judged_rules m s p) ∙ ap (map (row_of p)) (none_of_managers m s p (plain p (contains_here p beats))))
    ∙ own_alone m (judged_next m s p) beats (λ q h. plain q (contains_there p beats q h))

is_own : (m : Manager) (s : Snapshot) (beats : List Placed) → ArePlain m beats → (row : Row) → Contains (rows_judged (judging m) s beats) row → is_own_row row.link row ≡ true
is_own m s beats plain row h = elim (is_managers row.rule) as (λ b. is_managers row.rule ≡ b → is_own_row row.link row ≡ true) [
  | true ↦ λ e. absurd (contains_none row (subst (λ rows. Contains rows row) (own_alone m s beats plain) (contains_kept (λ (r : Row). is_managers r.rule) (rows_judged (judging m) s beats) row h e)))
  | false ↦ λ e. ap (λ b. b && not (is_managers row.rule)) (itself row.link) ∙ ap not e
] refl

module _ (m : Manager) (s : Snapshot) (one two : List Placed) (same : (link : ℕ) → on_link link one ≡ on_link link two) where
  left_of_link : (link : ℕ) → for_link link (left_after (judging m) s one) ≡ for_link link (left_after (judging m) s two)
  left_of_link link = states_apart m s one link ∙ ap (left_after (link_judging m) (for_link link s)) (same link) ∙ sym (states_apart m s two link)

  same_left : left_after (judging m) s one ≡ left_after (judging m) s two
  same_left = λ i. of_links (λ link. left_of_link link i)

  same_rows : ArePlain m one → (row : Row) → Contains (rows_judged (judging m) s one) row → Contains (rows_judged (judging m) s two) row
  same_rows plain row h =
      let alike = rows_apart m s one row.link ∙ ap (rows_judged (link_judging m) (for_link row.link s)) (same row.link) ∙ sym (rows_apart m s two row.link) in
      let kept = contains_kept (is_own_row row.link) (rows_judged (judging m) s one) row h (is_own m s one plain row h) in
      (kept_from (is_own_row row.link) (rows_judged (judging m) s two) row (subst (λ rows. Contains rows row) alike kept)).0

  plain_there : ArePlain m one → ArePlain m two
  plain_there plain p h = plain p (kept_from (λ (q : Placed). q.link == p.link) one p
      (subst (λ ps. Contains ps p) (sym (same p.link)) (contains_kept (λ (q : Placed). q.link == p.link) two p h (itself p.link)))).0

-- ---- the beats of one link

-- The beats of one of these links are such as a check asks for.
pub own_are_beats : (links : List ℕ) (beats : List Placed) (link : ℕ) → AreBeatsOf links beats → AreBeatsOf links (on_link link beats)
own_are_beats links beats link are =
    let test : Placed → Bool = λ p. p.link == link in
    let from : (p : Placed) → Contains (on_link link beats) p → Contains beats p = λ p h. (kept_from test beats p h).0 in record {
      rise = IsStrictlySortedBy-filter position_order test beats are.rise;
      formed = λ k d within. All-contains (λ (p : Placed). IsWellFormed p.beat) beats (get_or (on_link link beats) k d) are.formed (from (get_or (on_link link beats) k d) (Contains-get_or (on_link link beats) k d within));
      linked = λ k d within. All-contains (λ (p : Placed). Contains links p.link) beats (get_or (on_link link beats) k d) are.linked (from (get_or (on_link link beats) k d) (Contains-get_or (on_link link beats) k d within));
    }

-- Those of a link in a window are its own of all that lie there.
pub own_window : (links : List ℕ) (fs : List Recorded) (window link : ℕ) → IsPresent fs → Contains links link
    → beats_in window (beats_of_all (link ∷ []) fs) ≡ on_link link (beats_in window (beats_of_all links fs))
own_window links fs window link is has =
    ap (beats_in window) (one_link_is_its_own link fs is ∙ sym (links_are_kept links fs link is has))
    ∙ kept_order (lies_in window) (λ (p : Placed). p.link == link) (beats_of_all links fs)

pub goes_further : (m : Manager) (old now new : SpanState) (earlier beats all : List Placed) (rows found more : List Row) → GoesOn m old earlier now rows → GoesOn m now beats new found
    → all ≡ earlier ++ beats → more ≡ rows ++ found → GoesOn m old all new more
goes_further m old now new earlier beats all rows found more first then put grown = record {
  is_of = then.is_of;
  left = then.left ∙ ap (λ s. left_after (judging m) s beats) first.left ∙ sym (left_after-append (judging m) (shown old) earlier beats) ∙ ap (left_after (judging m) (shown old)) (sym put);
  found = grown ∙ ap (λ rs. rs ++ found) first.found
      ∙ ap (λ rs. rows_judged (judging m) (shown old) earlier ++ rs) (then.found ∙ ap (λ s. rows_judged (judging m) s beats) first.left)
      ∙ sym (rows_judged-append (judging m) (shown old) earlier beats) ∙ ap (rows_judged (judging m) (shown old)) (sym put);
}

pub not_begun : (m : Manager) (state : SpanState) (rows : List Row) → IsOf m state → rows ≡ [] → GoesOn m state [] state rows
not_begun m state rows is none = record { is_of = is; left = refl; found = none }

-- ---- the check

pub judged_apart : (topo : Topology) (manager : ℕ) (areas : List Area) (entry exit : SpanState) (beats : List Placed) (lists : List (List Placed)) (found rows : List Row)
    → IsStrictlySortedBy nat_cmp (clients_of manager (declared_links topo)) → IsParted topo manager beats lists
    → GoesOn (manager_at topo manager areas) entry (one_after_other lists) exit found → IsStrictlySortedBy row_order rows → ((row : Row) → Contains rows row ↔ Contains found row)
    → Judges (manager_at topo manager areas) entry beats exit rows
judged_apart topo manager areas entry exit beats lists found rows up parted gone sorted members =
    let m : Manager = manager_at topo manager areas in
    let links : List ℕ = clients_of manager (declared_links topo) in
    let mixed : List Placed = one_after_other lists in
    let linked : (p : Placed) → Contains beats p → Contains links p.link = λ p h. All-contains (λ (q : Placed). Contains links q.link) beats p parted.all.linked h in
    let alike : (link : ℕ) → on_link link mixed ≡ on_link link beats = λ link. ap (λ ls. on_link link (one_after_other ls)) parted.each ∙ each_stays links beats up linked link in
    let plain : ArePlain m beats = λ p h. All-contains (IsPlain topo) links p.link parted.plain (linked p h) in
    let mixed_plain : ArePlain m mixed = plain_there m (shown entry) beats mixed (λ link. sym (alike link)) plain in
    let all : List Row = rows_judged (judging m) (shown entry) beats in
    judged m entry exit beats all rows parted.all.rise
    (record { is_of = gone.is_of; left = gone.left ∙ same_left m (shown entry) mixed beats alike; found = refl }) sorted
    (λ row. (
      (λ h. same_rows m (shown entry) mixed beats alike mixed_plain row (subst (λ rs. Contains rs row) gone.found ((members row).0 h))),
      (λ h. (members row).1 (subst (λ rs. Contains rs row) (sym gone.found) (same_rows m (shown entry) beats mixed (λ link. sym (alike link)) plain row h))),
    ))
