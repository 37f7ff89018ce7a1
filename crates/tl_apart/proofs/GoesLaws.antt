-- A manager judges one event after another.
use Rattle.std.proofs.Common.{◌≡◌, ℕ, ◌+◌, ◌<◌, ◌≤◌, inl, inr, ◌==◌, true, false, cond, List, [], ◌∷◌, ◌++◌, Option, Some, None, length, refl, sym, ap, subst, ◌∙◌, arith}
use Rattle.std.specs.Prelude.{nat_le, ◌↔◌}
use Rattle.std.specs.List.{Contains}
use Rattle.std.proofs.lemmas.Bool.Decides.{nat_tests}
use Rattle.std.proofs.lemmas.List.Elements.{Contains-append_left, Contains-append_right, Contains-append_cases}
use Rattle.tl_topology.specs.Topology.{Topology}
use Rattle.tl_definitions.specs.Events.{Event}
use Rattle.tl_beats.specs.declared.Row.{Row}
use Rattle.tl_definitions.specs.Positions.{Recorded}
use Rattle.tl_definitions.specs.Report.{FindsIn}
use Rattle.tl_definitions.proofs.LinkLaws.{itself}
use Rattle.tl_capture.specs.Present.{IsPresent}
use Rattle.tl_check.specs.Captured.{captures_with}
use Rattle.tl_apart.specs.Apart.{rows_in, with_one, GoesOn, HasApart, HasJudged, HaveEnded, IsApart, IsReached}
use Rattle.tl_apart.specs.Feeds.{lies_by, waiting_of, AreSilent, IsDone, IsNext}
use Rattle.tl_apart.specs.Told.{clients, ArePassed}
use Rattle.tl_apart.specs.declared.apart.Apart.{Apart}
use Rattle.tl_apart.proofs.CaptureLaws.{manager_is}
use Rattle.tl_apart.proofs.FoundLaws.{apart_is_the_report}
use Rattle.tl_apart.proofs.ToldLaws.{passed_next, all_merged}

with_it : (judged : ℕ → List Event) (k : ℕ) (e : Event) → with_one judged k e k ≡ judged k ++ e ∷ []
with_it judged k e = ap (λ b. cond b (judged k ++ e ∷ []) (judged k)) (itself k)

beside_it : (judged : ℕ → List Event) (k : ℕ) (e : Event) (j : ℕ) → (j ≡ k → ⊥) → with_one judged k e j ≡ judged j
beside_it judged k e j other = elim (j == k) as (λ b. (j == k) ≡ b → cond b (judged j ++ e ∷ []) (judged j) ≡ judged j) [
  | true ↦ λ t. absurd (other (grind (arith, nat_tests)))
  | false ↦ λ t. refl
] refl

low_cycle : (cycle n : ℕ) → nat_le n cycle ≡ true → n ≤ cycle
low_cycle cycle n t = grind (arith, nat_tests)

module _ (topo : Topology) (fs : List Recorded) (k : ℕ) (until : Option ℕ) (judged : ℕ → List Event) (old : Apart) where
  pub none_judged : IsApart topo fs judged old → (later : ℕ → List Event) × GoesOn topo fs k until judged later old old
  none_judged is = (judged, record { is = is; others = λ j ne. refl; waits = λ link no. refl; passed = λ cycle eq reached passed. passed })

  pub one_judged : (later : ℕ → List Event) (mid new : Apart) (link : ℕ) → GoesOn topo fs k until judged later old mid → IsNext mid.feeds.items (clients topo k) until link
      → HasJudged topo fs later mid new k link → (all : ℕ → List Event) × GoesOn topo fs k until judged all old new
  one_judged later mid new link goes next step = (
    with_one later k step.0,
    record {
      is = step.3;
      others = λ j ne. beside_it later k step.0 j ne ∙ goes.others j ne;
      waits = λ n no. step.4 n (λ same. no (subst (Contains (clients topo k)) (sym same) next.0.0)) ∙ goes.waits n no;
      passed = λ cycle eq reached passed. subst (ArePassed topo fs k) (sym (with_it later k step.0))
          (passed_next topo fs k (later k) step.0 (goes.passed cycle eq reached passed) (λ n own caches.
          let had = reached n own caches in
          let low : step.0.place.beat.cycle ≤ cycle = low_cycle cycle step.0.place.beat.cycle (subst (λ u. lies_by u step.0.place.beat.cycle ≡ true) eq (next.1 step.0 step.1 step.2)) in
          let top : cycle ≤ had.0.last = had.3 in
          (had.0, had.1, had.2, omega (arith, low, top))));
    },
  )

-- So far as all links with caches have come.
pub caught_up : (topo : Topology) (fs : List Recorded) (k cycle : ℕ) (old new : Apart) (had : HasApart topo fs old) → IsReached topo fs k cycle
    → (later : ℕ → List Event) × GoesOn topo fs k (Some cycle) had.judged later old new → HasApart topo fs new
caught_up topo fs k cycle old new had reached goes = record {
  judged = goes.0;
  is = goes.1.is;
  passed = λ j low. elim (j == k) as (λ b. (j == k) ≡ b → ArePassed topo fs j (goes.0 j)) [
    | true ↦ λ t. (let same : j ≡ k = grind (arith, nat_tests) in
        let below : k < length topo.managers = subst (λ n. n < length topo.managers) same low in
        subst (λ n. ArePassed topo fs n (goes.0 n)) (sym same) (goes.1.passed cycle refl reached (had.passed k below)))
    | false ↦ λ t. (let other : j ≡ k → ⊥ = λ same. (let yes : (j == k) ≡ true = ap (λ n. n == k) same ∙ itself k in cc) in
        subst (ArePassed topo fs j) (sym (goes.1.others j other)) (had.passed j low))
  ] refl;
}

-- ---- at the end

pub one_ended : (topo : Topology) (fs : List Recorded) (k : ℕ) (old new : Apart) (had : HaveEnded topo fs k old) → k < length topo.managers
    → (later : ℕ → List Event) × GoesOn topo fs k None had.judged later old new × IsDone new.feeds.items (clients topo k) None → HaveEnded topo fs (k + 1) new
one_ended topo fs k old new had low goes = record {
  judged = goes.0;
  is = goes.1.is;
  silent = λ j less. elim (j == k) as (λ b. (j == k) ≡ b → AreSilent new.feeds.items (clients topo j)) [
    | true ↦ λ t. (let same : j ≡ k = grind (arith, nat_tests) in subst (λ n. AreSilent new.feeds.items (clients topo n)) (sym same) (goes.2 refl))
    | false ↦ λ t. (let below : j < k = grind (arith, nat_tests) in
        λ link has. goes.1.waits link (λ also. let same : j ≡ k = sym (manager_is topo j link has) ∙ manager_is topo k link also in let yes : (j == k) ≡ true = ap (λ n. n == k) same ∙ itself k in cc)
        ∙ had.silent j below link has)
  ] refl;
}

pub all_ended : (topo : Topology) (fs : List Recorded) (count : ℕ) (apart : Apart) (had : HaveEnded topo fs count apart) → length topo.managers ≤ count → (rows : List Row)
    → rows ≡ apart.rows.items ++ rows_in apart.feeds.items → IsPresent fs × ((row : Row) → Contains rows row ↔ FindsIn (captures_with topo fs [] []) row)
all_ended topo fs count apart had all rows put = (
  had.is.are.present,
  λ row. (
    (λ h. (report row).0 (turned (apart.rows.items) (rows_in apart.feeds.items) row (subst (λ rs. Contains rs row) put h))),
    (λ finds. subst (λ rs. Contains rs row) (sym put) (turned (rows_in apart.feeds.items) apart.rows.items row ((report row).1 finds))),
  ),
)
  where
    within : (k : ℕ) → k < length topo.managers → k < count
    within k low = omega (arith, all)

    turned : (xs ys : List Row) (row : Row) → Contains (xs ++ ys) row → Contains (ys ++ xs) row
    turned xs ys row h = elim (Contains-append_cases xs ys row h) [ inl one ↦ Contains-append_right ys xs row one | inr other ↦ Contains-append_left ys xs row other ]

    report : (row : Row) → Contains (rows_in apart.feeds.items ++ apart.rows.items) row ↔ FindsIn (captures_with topo fs [] []) row
    report = apart_is_the_report topo fs had.is.are.present had.judged
        (λ k low. all_merged topo fs k (waiting_of apart.feeds.items) (waiting_of apart.feeds.items) (had.judged k) had.is.are.present (had.is.are.told k low) (λ link has. had.silent k (within k low) link has))
        (rows_in apart.feeds.items ++ apart.rows.items) had.is.are.found
