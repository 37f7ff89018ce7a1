-- How many of all beats are in lead-ins, at the end of a stream.
use Rattle.std.proofs.Common.{◌≡◌, ℕ, suc, ◌+◌, ◌<◌, ◌≤◌, ◌^◌, true, false, List, Some, refl, sym, ap, subst, ◌∙◌, arith}
use Rattle.std.specs.Prelude.{nat_lt, reverse, slice_get}
use Rattle.std.specs.Io.Iter.{u64_saturate}
use Rattle.std.proofs.lemmas.Bool.Decides.{nat_tests}
use Rattle.tl_topology.specs.Regions.{Area}
use Rattle.tl_topology.specs.Topology.{Topology}
use Rattle.tl_beats.specs.declared.Placed.{Placed}
use Rattle.tl_beats.specs.declared.Row.{Row}
use Rattle.tl_definitions.specs.Captures.{manager_beats}
use Rattle.tl_definitions.specs.Managers.{declared_links, manager_at}
use Rattle.tl_definitions.specs.Positions.{Recorded, clients_of}
use Rattle.tl_definitions.specs.Rules.{Manager}
use Rattle.tl_capture.specs.Present.{IsPresent}
use Rattle.tl_capture.proofs.EntryLemmas.{all_kept}
use Rattle.tl_midway.specs.Counts.{counted, manager_counted, managers_counted}
use Rattle.tl_midway.specs.LeadIns.{leads_in, lead_ins_of}
use Rattle.tl_midway.specs.Midway.{beginning_of}
use Rattle.tl_midway.specs.declared.midway.Midway.{Midway}
use Rattle.tl_midway.proofs.LeadInsByLink.{in_order}
use Rattle.tl_stream.specs.Courses.{beats_before, next_of, IsCourse, HasEnded, Judged}
use Rattle.tl_stream.specs.Pasts.{StandsFor}
use Rattle.tl_stream.specs.declared.course.Course.{Course}
use Rattle.tl_stream.specs.declared.past.Past.{Past}
use Rattle.tl_stream.proofs.BeatLemmas.{cycle_is_short}
use Rattle.tl_stream.proofs.CourseLemmas.{judged_stands, AreAmong}

-- All beats come before a cycle past the last.
all_before : (topo : Topology) (fs : List Recorded) (manager next : ℕ) → IsPresent fs → 18446744073709551615 < next → beats_before next (manager_beats topo fs manager) ≡ manager_beats topo fs manager
all_before topo fs manager next is last =
    all_kept (λ p. nat_lt p.beat.cycle next) (manager_beats topo fs manager)
    (λ p h. below p.beat.cycle (cycle_is_short (clients_of manager (declared_links topo)) fs is p h))
  where
    below : (cycle : ℕ) → cycle < 2 ^ 64 → nat_lt cycle next ≡ true
    below cycle short = grind (arith, nat_tests)

pub one_state : {X : Type 0} (x y : X) → Some x ≡ Some y → x ≡ y
one_state x y e = cc

-- A course that was judged up to the last cycle stands for all beats of its manager.
pub ends_for_all : (topo : Topology) (regions : ℕ → List Area) (fs waiting : List Recorded) (old new : Course) (rows : List Row) (state : Past) → IsPresent fs → IsPresent waiting → AreAmong waiting fs
    → IsCourse topo (regions old.manager) fs waiting old → old.state ≡ Some state → Judged topo (regions old.manager) waiting 18446744073709551615 old new rows
    → (after : Past) × (new.state ≡ Some after) × StandsFor old.midway (manager_at topo old.manager (regions old.manager)) after (reverse (manager_beats topo fs old.manager))
ends_for_all topo regions fs waiting old new rows state is are among course at judged = elim (nat_lt 18446744073709551615 (next_of old)) as
    (λ t. nat_lt 18446744073709551615 (next_of old) ≡ t → (after : Past) × (new.state ≡ Some after) × StandsFor old.midway m after (reverse beats)) [
      | true ↦ λ e. (let done : 18446744073709551615 < next_of old = grind (arith, nat_tests) in (
        state,
        ap (λ (c : Course). c.state) (judged.done done).0 ∙ at,
        subst (λ ps. StandsFor old.midway m state (reverse ps)) (all_before topo fs old.manager (next_of old) is done) (course.stands state at).shows,
      ))
      | false ↦ λ e. (let order : next_of old ≤ 18446744073709551615 = grind (arith, nat_tests) in
          let gone = judged.gone order in
          let stood = course.stands gone.before gone.had in (
            gone.after,
            gone.has,
            subst (λ ps. StandsFor old.midway m gone.after (reverse ps)) (all_before topo fs old.manager (18446744073709551615 + 1) is (omega arith))
                (judged_stands topo (regions old.manager) fs waiting 18446744073709551615 old new rows is are among course.running.links stood.waits order gone stood.shows).0,
          ))
    ] refl
  where
    m : Manager
    m = manager_at topo old.manager (regions old.manager)

    beats : List Placed
    beats = manager_beats topo fs old.manager

-- What a state says of the lead-ins of whatever beats it stands for.
abbrev pub Tells : Midway → Past → ℕ → Type 0
Tells law state own = (m : Manager) (before : List Placed) → StandsFor (Some law) m state before → own ≡ u64_saturate (lead_ins_of m (beginning_of law m) before)

both : (a b n k : ℕ) → a ≡ u64_saturate n → b ≡ u64_saturate k → u64_saturate (a + b) ≡ u64_saturate (n + k)
both a b n k one two = omega (arith, one, two)

counted_more : (law : Midway) (topo : Topology) (regions : ℕ → List Area) (fs : List Recorded) (k : ℕ)
    → managers_counted leads_in law topo regions fs k + manager_counted leads_in law topo regions fs k ≡ managers_counted leads_in law topo regions fs (k + 1)
counted_more law topo regions fs k = let same : suc k ≡ k + 1 = omega arith in ap (managers_counted leads_in law topo regions fs) same

-- One manager more.
pub lead_ins_more : (law : Midway) (topo : Topology) (regions : ℕ → List Area) (fs waiting : List Recorded) (courses : List Course) (k : ℕ) (old new : Course) (rows : List Row) (state : Past) (count own : ℕ)
    → HasEnded (Some law) topo regions fs waiting courses → slice_get courses k ≡ Some old → old.state ≡ Some state → Judged topo (regions k) waiting 18446744073709551615 old new rows
    → ((after : Past) → new.state ≡ Some after → Tells law after own) → count ≡ u64_saturate (managers_counted leads_in law topo regions fs k)
    → u64_saturate (count + own) ≡ u64_saturate (managers_counted leads_in law topo regions fs (k + 1))
lead_ins_more law topo regions fs waiting courses k old new rows state count own has at here judged tells so_far =
    let mine : old.manager ≡ k = has.are_courses.own k old at in
    let m : Manager = manager_at topo k (regions k) in
    let end = ends_for_all topo regions fs waiting old new rows state has.present has.present_waiting has.among
    (subst (λ n. IsCourse topo (regions n) fs waiting old) (sym mine) (has.are_courses.each k old at)) here (subst (λ n. Judged topo (regions n) waiting 18446744073709551615 old new rows) (sym mine) judged) in
    let stands : StandsFor (Some law) m end.0 (reverse (manager_beats topo fs k)) =
    subst (λ w. StandsFor w m end.0 (reverse (manager_beats topo fs k))) (has.are_courses.same k old at)
    (subst (λ n. StandsFor old.midway (manager_at topo n (regions n)) end.0 (reverse (manager_beats topo fs n))) mine end.2) in
    let mine_too : own ≡ u64_saturate (manager_counted leads_in law topo regions fs k) =
    tells end.0 end.1 m (reverse (manager_beats topo fs k)) stands ∙ ap u64_saturate (sym (in_order m (beginning_of law m) (manager_beats topo fs k))) in
    both count own (managers_counted leads_in law topo regions fs k) (manager_counted leads_in law topo regions fs k) so_far mine_too ∙ ap u64_saturate (counted_more law topo regions fs k)
