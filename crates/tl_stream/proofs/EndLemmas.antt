-- Streams that begin and that end.
use Rattle.std.proofs.Common.{◌≡◌, ℕ, zero, suc, ◌+◌, ◌<◌, inl, inr, List, [], ◌∷◌, ◌++◌, length, get_or, Option, Some, None, refl, sym, ap, subst, ◌∙◌, arith}
use Rattle.std.specs.Prelude.{slice_get}
use Rattle.std.specs.Io.Iter.{u64_saturate}
use Rattle.std.specs.List.{All, Contains}
use Rattle.std.specs.Option.{option_and_then}
use Rattle.std.proofs.lemmas.Option.{slice_get_within}
use Rattle.std.proofs.lemmas.List.Elements.{Contains-append_right, Contains-append_cases, Contains-get_or}
use Rattle.tl_topology.specs.Regions.{Area}
use Rattle.tl_topology.specs.Topology.{Topology}
use Rattle.tl_beats.specs.declared.Row.{Row}
use Rattle.tl_definitions.specs.Positions.{Recorded}
use Rattle.tl_definitions.proofs.Lists.{contains_none}
use Rattle.tl_capture.specs.Present.{IsPresent}
use Rattle.tl_capture.proofs.PresentLemmas.{no_ranges}
use Rattle.tl_check.specs.Captured.{areas_at}
use Rattle.tl_midway.specs.Counts.{managers_counted}
use Rattle.tl_midway.specs.LeadIns.{leads_in}
use Rattle.tl_midway.specs.declared.midway.Midway.{Midway}
use Rattle.tl_stream.specs.Courses.{IsCourse, AreNewCourses, HasEnded, Judged}
use Rattle.tl_stream.specs.Fronts.{IsFrontOf}
use Rattle.tl_stream.specs.Streams.{StreamData, HasAccepted, areas_in}
use Rattle.tl_stream.specs.Told.{told, untold, untold_of}
use Rattle.tl_stream.specs.declared.course.Course.{Course}
use Rattle.tl_stream.specs.declared.front.Front.{Front}
use Rattle.tl_stream.specs.declared.past.Past.{Past}
use Rattle.tl_stream.proofs.CourseLemmas.{begins, rest_is_untold}
use Rattle.tl_stream.proofs.LawLemmas.{telling_is_whole, whole_linked}

pub each_more : {X : Type 0} (P : ℕ → X → Type 0) (xs : List X) (x : X) → ((k : ℕ) (y : X) → slice_get xs k ≡ Some y → P k y) → P (length xs) x → (k : ℕ) (y : X) → slice_get (xs ++ x ∷ []) k ≡ Some y → P k y
each_more P [] x each own zero y at = let same : x ≡ y = cc in subst (P 0) same own
each_more P [] x each own (suc k) y at = cc
each_more P (z ∷ xs) x each own zero y at = each zero y at
each_more P (z ∷ xs) x each own (suc k) y at = each_more (λ n. P (suc n)) xs x (λ n w h. each (suc n) w h) own k y at

-- ---- no fragment came

no_front : (o : Option (Option Front)) → ((front : Option Front) → o ≡ Some front → front ≡ None) → option_and_then (λ (f : Option Front). f) o ≡ None
no_front None none = refl
no_front (Some front) none = none front refl

pub nothing_present : IsPresent []
nothing_present = record { each = no_ranges.each; apart = no_ranges.apart; numbers = tt }

pub none_accepted : (midway : Option Midway) (topo : Topology) (regions : List (List (ℕ × Area))) (fronts : List (Option Front)) (waiting : List Recorded) (courses : List Course) → length fronts ≡ length topo.links
    → ((link : ℕ) (front : Option Front) → slice_get fronts link ≡ Some front → front ≡ None) → waiting ≡ [] → AreNewCourses midway topo courses
    → HasAccepted [] (record { topo = topo; regions = regions; midway = midway; fronts = fronts; waiting = waiting; courses = courses })
none_accepted midway topo regions fronts waiting courses many none empty new = record {
  present = nothing_present;
  among = λ f h. absurd (contains_none f (subst (λ fs. Contains fs f) empty h));
  waiting = subst IsPresent (sym empty) nothing_present;
  links = many;
  fronts = λ link. subst (IsFrontOf link []) (sym (no_front (slice_get fronts link) (λ front h. none link front h))) (λ f h of. contains_none f h);
  courses = record {
    count = new.count;
    own = λ manager course at. (new.each manager course at).owner;
    same = λ manager course at. (new.each manager course at).law;
    each = λ manager course at. subst (λ ws. IsCourse topo (areas_at regions manager) [] ws course) (sym empty)
        (begins midway topo (areas_at regions manager) manager course (below manager course at) (new.each manager course at));
  };
}
  where
    below : (manager : ℕ) (course : Course) → slice_get courses manager ≡ Some course → manager < length topo.managers
    below manager course at = let within = slice_get_within courses manager course at in let count = new.count in omega (arith, within, count)

-- ---- the end

pub untold_more : (midway : Option Midway) (topo : Topology) (regions : ℕ → List Area) (fs : List Recorded) (n : ℕ) → untold_of midway topo regions fs (n + 1) ≡ untold_of midway topo regions fs n ++ untold topo regions fs n midway
untold_more midway topo regions fs n = let same : n + 1 ≡ suc n = omega arith in ap (untold_of midway topo regions fs) same

pub untold_linked : (midway : Option Midway) (topo : Topology) (regions : ℕ → List Area) (fs : List Recorded) → IsPresent fs → (count : ℕ) (row : Row) → Contains (untold_of midway topo regions fs count) row → row.link < length topo.links
untold_linked midway topo regions fs is zero row h = absurd (contains_none row h)
untold_linked midway topo regions fs is (suc count) row h = elim (Contains-append_cases (untold_of midway topo regions fs count) (untold topo regions fs count midway) row h) [
  | inl before ↦ untold_linked midway topo regions fs is count row before
  | inr own ↦ whole_linked midway topo regions fs count row is
      (subst (λ rs. Contains rs row) (telling_is_whole midway topo regions fs count is) (Contains-append_right (told topo regions fs count midway) (untold topo regions fs count midway) row own))
]

pub all_linked : (midway : Option Midway) (topo : Topology) (regions : ℕ → List Area) (fs : List Recorded) (count : ℕ) (rows : List Row) → IsPresent fs → rows ≡ untold_of midway topo regions fs count → All (λ row. row.link < length topo.links) rows
all_linked midway topo regions fs count rows is are k d below = untold_linked midway topo regions fs is count (get_or rows k d) (subst (λ rs. Contains rs (get_or rows k d)) are (Contains-get_or rows k d below))

pub has_ended : (fs : List Recorded) (s : StreamData) → HasAccepted fs s → HasEnded s.midway s.topo (areas_in s) fs s.waiting s.courses
has_ended fs s has = record { present = has.present; present_waiting = has.waiting; among = has.among; are_courses = has.courses }

-- The same of what is equal to these, and what then follows back.
module _ (fs : List Recorded) (s : StreamData) (topo : Topology) (regions : List (List (ℕ × Area))) (on : topo ≡ s.topo) (with : regions ≡ s.regions) where
  pub has_ended_by : (courses : List Course) → courses ≡ s.courses → HasAccepted fs s → HasEnded s.midway topo (areas_at regions) fs s.waiting courses
  has_ended_by courses are has =
      subst (λ cs. HasEnded s.midway topo (areas_at regions) fs s.waiting cs) (sym are)
      (subst (λ rs. HasEnded s.midway topo (areas_at rs) fs s.waiting s.courses) (sym with)
      (subst (λ t. HasEnded s.midway t (areas_in s) fs s.waiting s.courses) (sym on) (has_ended fs s has)))

  pub untold_back : (rows : List Row) → rows ≡ untold_of s.midway topo (areas_at regions) fs (length topo.managers) → rows ≡ untold_of s.midway s.topo (areas_in s) fs (length s.topo.managers)
  untold_back rows is =
      subst (λ t. rows ≡ untold_of s.midway t (areas_in s) fs (length t.managers)) on
      (subst (λ rs. rows ≡ untold_of s.midway topo (areas_at rs) fs (length topo.managers)) with is)

  pub counted_back : (law : Midway) (count : ℕ) → count ≡ u64_saturate (managers_counted leads_in law topo (areas_at regions) fs (length topo.managers))
      → count ≡ u64_saturate (managers_counted leads_in law s.topo (areas_in s) fs (length s.topo.managers))
  counted_back law count is =
      subst (λ (t : Topology). count ≡ u64_saturate (managers_counted leads_in law t (areas_in s) fs (length t.managers))) on
      (subst (λ rs. count ≡ u64_saturate (managers_counted leads_in law topo (areas_at rs) fs (length topo.managers))) with is)

-- One manager more.
pub one_more : (midway : Option Midway) (topo : Topology) (regions : ℕ → List Area) (fs waiting : List Recorded) (courses : List Course) (k : ℕ) (old new : Course) (before found after : List Row) (state : Past) → HasEnded midway topo regions fs waiting courses
    → slice_get courses k ≡ Some old → old.state ≡ Some state → Judged topo (regions k) waiting 18446744073709551615 old new found → before ≡ untold_of midway topo regions fs k → after ≡ before ++ found
    → after ≡ untold_of midway topo regions fs (k + 1)
one_more midway topo regions fs waiting courses k old new before found after state has at here judged told put =
    let own : old.manager ≡ k = has.are_courses.own k old at in
    let rest : found ≡ untold topo regions fs old.manager old.midway = rest_is_untold topo regions fs waiting old new found state has.present has.present_waiting has.among
    (subst (λ n. IsCourse topo (regions n) fs waiting old) (sym own) (has.are_courses.each k old at)) here (subst (λ n. Judged topo (regions n) waiting 18446744073709551615 old new found) (sym own) judged) in
    put ∙ ap (λ rs. rs ++ found) told
    ∙ ap (λ rs. untold_of midway topo regions fs k ++ rs) (rest ∙ ap (untold topo regions fs old.manager) (has.are_courses.same k old at) ∙ ap (λ n. untold topo regions fs n midway) own)
    ∙ sym (untold_more midway topo regions fs k)
