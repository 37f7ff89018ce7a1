-- What was judged of a manager so far: one beat more, and its links one after the other.
use Rattle.std.proofs.Common.{◌≡◌, ℕ, ◌+◌, ◌==◌, inl, inr, get_or, List, [], ◌∷◌, ◌++◌, map, reverse, Option, Some, None, refl, sym, ap, subst, ◌∙◌, append_assoc, append-nil, arith}
use Rattle.std.specs.Prelude.{◌↔◌}
use Rattle.std.specs.List.{All, Contains}
use Rattle.std.proofs.lemmas.List.Elements.{All-contains}
use Rattle.std.specs.List.Sorted.{IsStrictlySortedBy}
use Rattle.std.specs.Ordering.{nat_cmp}
use Rattle.tl_tables.specs.declared.Rule.{Rule}
use Rattle.tl_beats.specs.declared.Placed.{Placed}
use Rattle.tl_beats.specs.declared.Row.{Row}
use Rattle.tl_topology.specs.Regions.{Area}
use Rattle.tl_topology.specs.Topology.{Topology}
use Rattle.tl_capture.specs.Present.{IsPresent}
use Rattle.tl_capture.proofs.LawLemmas.{links_are_kept, one_link_is_its_own}
use Rattle.tl_client_rules.proofs.ClientsLaws.{clients_rise}
use Rattle.tl_check.specs.Managers as managers
use Rattle.tl_check.proofs.CaptureLaws.{linked_in}
use Rattle.tl_definitions.specs.Breaks.{row_of}
use Rattle.tl_definitions.specs.Captures.{manager_beats}
use Rattle.tl_definitions.specs.Managers.{declared_links, manager_at}
use Rattle.tl_definitions.specs.Positions.{Recorded, beats_of_all, clients_of}
use Rattle.tl_definitions.specs.Known.{Beginning}
use Rattle.tl_definitions.specs.LinkPasses.{on_link}
use Rattle.tl_definitions.specs.OpenTables.{one_if}
use Rattle.tl_definitions.specs.Printed.{printed_rules, printed_after}
use Rattle.tl_definitions.specs.Rules.{Manager}
use Rattle.tl_definitions.proofs.LinkLaws.{itself}
use Rattle.tl_definitions.proofs.Lists.{contains_none, contains_cases, contains_kept, kept_from, onto, onto_reverse}
use Rattle.tl_midway.specs.Counts.{Test, counted, counted_after}
use Rattle.tl_midway.specs.Counted.{HasCounts, asked_of}
use Rattle.tl_midway.specs.Judged.{HasJudged, GoesOver, CountsOn, AreRowsOf}
use Rattle.tl_midway.specs.Midway.{beginning_of}
use Rattle.tl_midway.specs.State.{StandsFor, IsKnown, IsOf}
use Rattle.tl_midway.specs.declared.counts.Counts.{Counts}
use Rattle.tl_midway.specs.declared.judged.Judged.{Judged}
use Rattle.tl_midway.specs.declared.midway.Midway.{Midway}
use Rattle.tl_midway.proofs.ApartCounts.{IsOwn, by_links, counts_add_up, lead_ins_are_own, unjudged_are_own}
use Rattle.tl_midway.proofs.ApartLaws.{rows_own}
use Rattle.tl_midway.proofs.PlainMessages.{IsPlain}
use Rattle.tl_midway.proofs.CountsLaws.{plus_assoc}
use Rattle.tl_check.specs.LinkByLink.{of_each, one_after_other}
use Rattle.tl_check.proofs.LinkByLink.{each_stays, from_each}
use Rattle.tl_midway.proofs.MidwayReportLaws.{printed_from}
use Rattle.tl_midway.proofs.WalkLaws.{printed_both, reversed}

pub judged_is_of : (m : Manager) (law : Midway) (beats : List Placed) (judged : Judged) → HasJudged m law beats judged → IsOf m judged.state
judged_is_of m law beats judged has = record { known = has.known; start = beginning_of law m; before = reverse beats; stands = has.stands }

-- ---- one beat more

printed_one : (m : Manager) (start : Beginning) (now : List Placed) (p : Placed)
    → printed_after m start [] (now ++ p ∷ []) ≡ printed_after m start [] now ++ map (row_of p) (printed_rules m start (reverse now) p)
printed_one m start now p =
    printed_both m start [] now (p ∷ [])
    ∙ ap (λ before. printed_after m start [] now ++ printed_after m start before (p ∷ [])) (onto_reverse [] now)
    ∙ ap (λ rows. printed_after m start [] now ++ rows) (append-nil (map (row_of p) (printed_rules m start (reverse now) p)))

none_before : (n : ℕ) → n ≡ 0 + n
none_before n = omega arith

plus_one : (n k : ℕ) → n + (k + 0) ≡ n + k
plus_one n k = omega arith

counted_both : (test : Test) (m : Manager) (start : Beginning) (before xs ys : List Placed)
    → counted_after test m start before (xs ++ ys) ≡ counted_after test m start before xs + counted_after test m start (onto before xs) ys
counted_both test m start before [] ys = none_before (counted_after test m start before ys)
counted_both test m start before (p ∷ xs) ys =
    ap (λ n. one_if (test m start before p) + n) (counted_both test m start (p ∷ before) xs ys)
    ∙ sym (plus_assoc (one_if (test m start before p)) (counted_after test m start (p ∷ before) xs) (counted_after test m start (onto (p ∷ before) xs) ys))

counted_one : (test : Test) (m : Manager) (start : Beginning) (now : List Placed) (p : Placed)
    → counted_after test m start [] (now ++ p ∷ []) ≡ counted_after test m start [] now + one_if (test m start (reverse now) p)
counted_one test m start now p =
    counted_both test m start [] now (p ∷ [])
    ∙ ap (λ before. counted_after test m start [] now + counted_after test m start before (p ∷ [])) (onto_reverse [] now)
    ∙ plus_one (counted_after test m start [] now) (one_if (test m start (reverse now) p))

-- The beats so far are judged; with those that are left they are all.
pub record IsAmid (m : Manager) (law : Midway) (judged : Judged) (rest all : List Placed) : Type 0 where
  pub now : List Placed
  pub has : HasJudged m law now judged
  pub beats : now ++ rest ≡ all

-- And counted, where so many were counted first.
pub record IsCountedAmid (m : Manager) (law : Midway) (judged : Judged) (counts : Counts) (n : Option Rule → ℕ) (rest all : List Placed) : Type 0 where
  pub now : List Placed
  pub has : HasJudged m law now judged
  pub count : HasCounts counts (λ asked. n asked + counted (asked_of asked) law m now)
  pub beats : now ++ rest ≡ all

-- So it is after whatever beats were judged before.
abbrev pub AreAmid : Manager → Judged → Judged → List Placed → List Placed → Type 0
AreAmid m entry judged rest all = (law : Midway) (before : List Placed) → HasJudged m law before entry → IsAmid m law judged rest (before ++ all)

abbrev pub AreCountedAmid : Manager → Judged → Counts → Judged → Counts → List Placed → List Placed → Type 0
AreCountedAmid m entry first judged counts rest all = (law : Midway) (before : List Placed) (n : Option Rule → ℕ) → HasJudged m law before entry
    → HasCounts first (λ asked. n asked + counted (asked_of asked) law m before) → IsCountedAmid m law judged counts n rest (before ++ all)

pub begun : (m : Manager) (judged : Judged) (rest all : List Placed) → rest ≡ all → AreAmid m judged judged rest all
begun m judged rest all is law before has = record { now = before; has = has; beats = ap (λ ps. before ++ ps) is }

pub count_begun : (m : Manager) (judged : Judged) (counts : Counts) (rest all : List Placed) → rest ≡ all → AreCountedAmid m judged counts judged counts rest all
count_begun m judged counts rest all is law before n has count = record { now = before; has = has; count = count; beats = ap (λ ps. before ++ ps) is }

module _ (m : Manager) (old new : Judged) (p : Placed) (known : IsKnown new.state)
    (put : (start : Beginning) (before : List Placed) → StandsFor m start old.state before → new.rows.items ≡ old.rows.items ++ map (row_of p) (printed_rules m start before p))
    (next : (start : Beginning) (before : List Placed) → StandsFor m start old.state before → StandsFor m start new.state (p ∷ before)) where
  further : (law : Midway) (now : List Placed) → HasJudged m law now old → HasJudged m law (now ++ p ∷ []) new
  further law now has = record {
    known = known;
    stands = subst (StandsFor m (beginning_of law m) new.state) (reversed now p) (next (beginning_of law m) (reverse now) has.stands);
    rows = put (beginning_of law m) (reverse now) has.stands ∙ ap (λ rows. rows ++ map (row_of p) (printed_rules m (beginning_of law m) (reverse now) p)) has.rows ∙ sym (printed_one m (beginning_of law m) now p);
  }

  pub one_more : (entry : Judged) (now rest all : List Placed) → now ≡ p ∷ rest → AreAmid m entry old now all → AreAmid m entry new rest all
  one_more entry now rest all steps amid law before has =
      let is = amid law before has in
      record {
        now = is.now ++ p ∷ [];
        has = further law is.now is.has;
        beats = append_assoc is.now (p ∷ []) rest ∙ sym (ap (λ ps. is.now ++ ps) steps) ∙ is.beats;
      }

  pub count_more : (entry : Judged) (first counts more : Counts) (now rest all : List Placed) → now ≡ p ∷ rest
      → ((start : Beginning) (before : List Placed) (n : Option Rule → ℕ) → StandsFor m start old.state before → HasCounts counts n → HasCounts more (λ asked. n asked + one_if (asked_of asked m start before p)))
      → AreCountedAmid m entry first old counts now all → AreCountedAmid m entry first new more rest all
  count_more entry first counts more now rest all steps add amid law before n has count =
      let is = amid law before n has count in
      let start : Beginning = beginning_of law m in
      let grown : (asked : Option Rule) → n asked + counted (asked_of asked) law m is.now + one_if (asked_of asked m start (reverse is.now) p) ≡ n asked + counted (asked_of asked) law m (is.now ++ p ∷ []) =
      λ asked. plus_assoc (n asked) (counted (asked_of asked) law m is.now) (one_if (asked_of asked m start (reverse is.now) p)) ∙ ap (λ k. n asked + k) (sym (counted_one (asked_of asked) m start is.now p)) in
      record {
        now = is.now ++ p ∷ [];
        has = further law is.now is.has;
        count = subst (HasCounts more) (λ i asked. grown asked i) (add start (reverse is.now) (λ asked. n asked + counted (asked_of asked) law m is.now) is.has.stands is.count);
        beats = append_assoc is.now (p ∷ []) rest ∙ sym (ap (λ ps. is.now ++ ps) steps) ∙ is.beats;
      }

whole : (now rest all : List Placed) → rest ≡ [] → now ++ rest ≡ all → now ≡ all
whole now rest all none is = sym (append-nil now) ∙ sym (ap (λ ps. now ++ ps) none) ∙ is

pub done : (m : Manager) (entry judged : Judged) (rest all : List Placed) → rest ≡ [] → AreAmid m entry judged rest all
    → (law : Midway) (before : List Placed) → HasJudged m law before entry → HasJudged m law (before ++ all) judged
done m entry judged rest all none amid law before has =
    let is = amid law before has in
    subst (λ ps. HasJudged m law ps judged) (whole is.now rest (before ++ all) none is.beats) is.has

pub count_done : (m : Manager) (entry judged : Judged) (first counts : Counts) (rest all : List Placed) → rest ≡ [] → AreCountedAmid m entry first judged counts rest all
    → (law : Midway) (before : List Placed) (n : Option Rule → ℕ) → HasJudged m law before entry → HasCounts first (λ asked. n asked + counted (asked_of asked) law m before)
    → HasCounts counts (λ asked. n asked + counted (asked_of asked) law m (before ++ all))
count_done m entry judged first counts rest all none amid law before n has count =
    let is = amid law before n has count in
    subst (λ ps. HasCounts counts (λ asked. n asked + counted (asked_of asked) law m ps)) (whole is.now rest (before ++ all) none is.beats) is.count

-- ---- the same beats of each link

asked_is_own : (asked : Option Rule) (m : Manager) (start : Beginning) → IsOwn (asked_of asked) m start
asked_is_own None m start = lead_ins_are_own IsPlain m start
asked_is_own (Some r) m start = unjudged_are_own r m start

module _ (m : Manager) (start : Beginning) (one two : List Placed) (same : (link : ℕ) → on_link link one ≡ on_link link two) where
  same_printed : ((p : Placed) → Contains one p → IsPlain (m.links p.link)) → (row : Row) → Contains (printed_after m start [] one) row → Contains (printed_after m start [] two) row
  same_printed plain row h =
      let from = printed_from m start [] one row h in
      let here : row.link ≡ from.0.link = ap (λ (r : Row). r.link) from.2 in
      let own : IsPlain (m.links row.link) = subst (λ l. IsPlain (m.links l)) (sym here) (plain from.0 from.1) in
      let alike = rows_own m start [] one row.link own ∙ ap (printed_after m start []) (same row.link) ∙ sym (rows_own m start [] two row.link own) in
      let kept = contains_kept (λ (r : Row). r.link == row.link) (printed_after m start [] one) row h (itself row.link) in
      (kept_from (λ (r : Row). r.link == row.link) (printed_after m start [] two) row (subst (λ rows. Contains rows row) alike kept)).0

  same_by_links : (test : Test) (links : List ℕ) → by_links test m start links [] one ≡ by_links test m start links [] two
  same_by_links test [] = refl
  same_by_links test (link ∷ links) = λ i. counted_after test m start [] (same link i) + same_by_links test links i

module _ (m : Manager) (start : Beginning) (links : List ℕ) (beats : List Placed) (up : IsStrictlySortedBy nat_cmp links)
    (all : (p : Placed) → Contains beats p → Contains links p.link × IsPlain (m.links p.link)) where
  stays : (link : ℕ) → on_link link (one_after_other (of_each links beats)) ≡ on_link link beats
  stays = each_stays links beats up (λ p h. (all p h).0)

  pub rows_by_link : (row : Row) → Contains (printed_after m start [] (one_after_other (of_each links beats))) row ↔ Contains (printed_after m start [] beats) row
  rows_by_link row = (
    (λ h. same_printed m start (one_after_other (of_each links beats)) beats stays (λ p g. (all p (from_each links beats p g)).1) row h),
    (λ h. same_printed m start beats (one_after_other (of_each links beats)) (λ link. sym (stays link)) (λ p g. (all p g).1) row h),
  )

  pub counts_by_link : (asked : Option Rule) → counted_after (asked_of asked) m start [] (one_after_other (of_each links beats)) ≡ counted_after (asked_of asked) m start [] beats
  counts_by_link asked =
      counts_add_up IsPlain (asked_of asked) m start (asked_is_own asked m start) links [] (one_after_other (of_each links beats)) up (λ p h. all p (from_each links beats p h))
      ∙ same_by_links m start (one_after_other (of_each links beats)) beats stays (asked_of asked) links
      ∙ sym (counts_add_up IsPlain (asked_of asked) m start (asked_is_own asked m start) links [] beats up all)

-- ---- beats of the manager that is judged

module _ (topo : Topology) (areas : List Area) (manager : ℕ) (law : Midway) (old new : Judged) (before own all : List Placed) (same : old.manager ≡ manager) (grown : before ++ own ≡ all) where
  abbrev at : ℕ → Manager
  at n = manager_at topo n areas

  there : HasJudged (at manager) law before old → HasJudged (at old.manager) law before old
  there has = subst (λ n. HasJudged (at n) law before old) (sym same) has

  pub gone_over : GoesOver topo areas own old new → HasJudged (at manager) law before old → HasJudged (at manager) law all new
  gone_over over has = subst (λ ps. HasJudged (at manager) law ps new) grown (subst (λ n. HasJudged (at n) law (before ++ own) new) same (over law before (there has)))

  pub counted_on : (counts more : Counts) (n : Option Rule → ℕ) → CountsOn topo areas own old counts more → HasJudged (at manager) law before old
      → HasCounts counts (λ asked. n asked + counted (asked_of asked) law (at manager) before) → HasCounts more (λ asked. n asked + counted (asked_of asked) law (at manager) all)
  counted_on counts more n on has count =
      subst (λ ps. HasCounts more (λ asked. n asked + counted (asked_of asked) law (at manager) ps)) grown
      (subst (λ k. HasCounts more (λ asked. n asked + counted (asked_of asked) law (at k) (before ++ own))) same
      (on law before n (there has) (subst (λ k. HasCounts counts (λ asked. n asked + counted (asked_of asked) law (at k) before)) (sym same) count)))

pub of_one_link : (links : List ℕ) (link : ℕ) (beats : List Placed) → Contains links link → All (λ (p : Placed). Contains (link ∷ []) p.link) beats → All (λ (p : Placed). Contains links p.link) beats
of_one_link links link beats has all k d less = elim (contains_cases link [] (get_or beats k d).link (all k d less)) [
  | inl is ↦ subst (Contains links) is has
  | inr none ↦ absurd (contains_none (get_or beats k d).link none)
]

-- ---- all beats of a manager

-- Those of one of these links are its own of all.
pub own_beats : (links : List ℕ) (fs : List Recorded) (link : ℕ) → IsPresent fs → Contains links link → beats_of_all (link ∷ []) fs ≡ on_link link (beats_of_all links fs)
own_beats links fs link is has = one_link_is_its_own link fs is ∙ sym (links_are_kept links fs link is has)

module _ (topo : Topology) (areas : List Area) (fs : List Recorded) (manager : ℕ) (law : Midway) where
  abbrev m : Manager
  m = manager_at topo manager areas

  abbrev links : List ℕ
  links = clients_of manager (declared_links topo)

  abbrev beats : List Placed
  beats = manager_beats topo fs manager

  pub whole_rows : (judged : Judged) → HasJudged m law beats judged → AreRowsOf law topo areas fs manager judged.rows.items
  whole_rows judged has row = ((λ h. subst (λ rows. Contains rows row) has.rows h), (λ h. subst (λ rows. Contains rows row) (sym has.rows) h))

  module _ (is : IsPresent fs) (plain : All (managers.IsPlain topo) links) where
    each_plain : (p : Placed) → Contains beats p → Contains links p.link × IsPlain (m.links p.link)
    each_plain p h = let linked = linked_in topo fs is links p h in (linked, All-contains (managers.IsPlain topo) links p.link plain linked)

    pub plain_rows : (judged : Judged) → HasJudged m law (one_after_other (of_each links beats)) judged → AreRowsOf law topo areas fs manager judged.rows.items
    plain_rows judged has row =
        let same = rows_by_link m (beginning_of law m) links beats (clients_rise manager (declared_links topo)) each_plain row in (
          (λ h. same.0 (subst (λ rows. Contains rows row) has.rows h)),
          (λ h. subst (λ rows. Contains rows row) (sym has.rows) (same.1 h)),
        )

    pub plain_counts : (counts : Counts) (n : Option Rule → ℕ) → HasCounts counts (λ asked. n asked + counted (asked_of asked) law m (one_after_other (of_each links beats)))
        → HasCounts counts (λ asked. n asked + counted (asked_of asked) law m beats)
    plain_counts counts n has =
        subst (HasCounts counts) (λ i asked. n asked + counts_by_link m (beginning_of law m) links beats (clients_rise manager (declared_links topo)) each_plain asked i) has
