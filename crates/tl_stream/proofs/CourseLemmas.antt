-- Courses that are judged on.
use Rattle.std.proofs.Common.{◌≡◌, ℕ, ◌+◌, ◌<◌, ◌≤◌, ◌^◌, ◌⊎◌, inl, inr, Bool, true, false, cond, not, ◌&&◌, List, [], ◌∷◌, ◌++◌, Option, Some, None, refl, sym, ap, subst, ◌∙◌, arith, append-nil}
use Rattle.std.specs.Prelude.{filter, length, reverse, nat_lt, nat_le, ◌==◌}
use Rattle.std.specs.List.{Contains, list_all}
use Rattle.std.proofs.lemmas.Bool.Decides.{nat_tests}
use Rattle.tl_topology.specs.Regions.{Area}
use Rattle.tl_topology.specs.Topology.{Topology}
use Rattle.tl_beats.specs.declared.Placed.{Placed}
use Rattle.tl_beats.specs.declared.Row.{Row}
use Rattle.tl_definitions.specs.Captures.{manager_beats}
use Rattle.tl_definitions.specs.Managers.{declared_links, manager_at}
use Rattle.tl_definitions.specs.Positions.{Recorded, beats_of_all, clients_of}
use Rattle.tl_definitions.specs.Rules.{Manager}
use Rattle.tl_definitions.proofs.Lists.{contains_none, contains_kept, kept_from, none_kept}
use Rattle.tl_capture.specs.Present.{ends_by, without_ended, IsPresent}
use Rattle.tl_capture.specs.Windows.{is_within, beats_within}
use Rattle.tl_capture.proofs.NumberLemmas.{same_kept}
use Rattle.tl_midway.specs.declared.midway.Midway.{Midway}
use Rattle.tl_stream.specs.Courses.{next_from, next_of, beats_before, IsNewCourse, GoesTo, Waits, IsRunning, IsComplete, IsCourse, HasCome, Judged, Loses, IsLost, Advances, AreNewRows}
use Rattle.tl_stream.specs.Fronts.{has_reached, past, is_complete}
use Rattle.tl_stream.specs.Pasts.{IsOf, StandsFor, rows_in, rows_after}
use Rattle.tl_stream.specs.Told.{complete_beats, open_beats, untold}
use Rattle.tl_stream.specs.declared.course.Course.{Course}
use Rattle.tl_stream.specs.declared.front.Front.{Front}
use Rattle.tl_stream.specs.declared.past.Past.{Past}
use Rattle.tl_stream.proofs.FrontLemmas.{complete_is_reached}
use Rattle.tl_stream.proofs.BeatLemmas.{beats_are_strict, cycle_is_short, beat_carried, same_beats, before_both, goes_on_stands, none_after, stands_is_of}

abbrev pub AreAmong : List Recorded → List Recorded → Type 0
AreAmong fs gs = (f : Recorded) → Contains fs f → Contains gs f

-- Among those that wait are all beats from that cycle on.
pub waiting_has : (links : List ℕ) (fs waiting : List Recorded) (from to : ℕ) → IsPresent fs → IsPresent waiting → AreAmong waiting fs → Waits links fs waiting from
    → beats_within from to (beats_of_all links waiting) ≡ beats_within from to (beats_of_all links fs)
waiting_has links fs waiting from to is are among waits = same_beats (is_within from to) links waiting fs are is
    (λ p keep h. beat_carried links waiting fs are p h (λ f has of first last. among f has))
    (λ p keep h. beat_carried links fs waiting is p h (λ f has of first last. elim (waits f has of) [
      | inl there ↦ there
      | inr gone ↦ (let wrong : f.last < f.last = late f p.beat.cycle keep gone last in absurd (never f.last wrong))
    ]))
  where
    late : (f : Recorded) (cycle : ℕ) → (nat_le from cycle && nat_le cycle to) ≡ true → f.last < from → cycle ≤ f.last → f.last < f.last
    late f cycle keep gone last = grind (arith, nat_tests)

    never : (n : ℕ) → n < n → ⊥
    never n less = omega arith

-- A course that goes on to a cycle stands for the beats before it, and its rows are those that came.
pub judged_stands : (topo : Topology) (areas : List Area) (fs waiting : List Recorded) (to : ℕ) (old new : Course) (rows : List Row) → IsPresent fs → IsPresent waiting → AreAmong waiting fs
    → old.links.items ≡ clients_of old.manager (declared_links topo) → Waits old.links.items fs waiting (next_of old) → next_of old ≤ to → (gone : GoesTo topo areas waiting to old new rows)
    → StandsFor old.midway (manager_at topo old.manager areas) gone.before (reverse (beats_before (next_of old) (manager_beats topo fs old.manager)))
    → StandsFor old.midway (manager_at topo old.manager areas) gone.after (reverse (beats_before (to + 1) (manager_beats topo fs old.manager)))
    × (rows_in old.midway (manager_at topo old.manager areas) (beats_before (to + 1) (manager_beats topo fs old.manager)) ≡ rows_in old.midway (manager_at topo old.manager areas) (beats_before (next_of old) (manager_beats topo fs old.manager)) ++ rows)
judged_stands topo areas fs waiting to old new rows is are among links waits order gone stands =
    let m : Manager = manager_at topo old.manager areas in
    let beats : List Placed = manager_beats topo fs old.manager in
    let came : beats_within (next_of old) to (beats_of_all old.links.items waiting) ≡ beats_within (next_of old) to beats =
    waiting_has old.links.items fs waiting (next_of old) to is are among waits ∙ ap (λ ls. beats_within (next_of old) to (beats_of_all ls fs)) links in
    let all : beats_before (next_of old) beats ++ beats_within (next_of old) to (beats_of_all old.links.items waiting) ≡ beats_before (to + 1) beats =
    ap (λ ys. beats_before (next_of old) beats ++ ys) came ∙ sym (before_both (next_of old) to beats (beats_are_strict (clients_of old.manager (declared_links topo)) fs is) order) in
    let both = goes_on_stands old.midway m gone.before gone.after (beats_before (next_of old) beats) (beats_within (next_of old) to (beats_of_all old.links.items waiting)) rows stands gone.judged in (
      subst (λ ps. StandsFor old.midway m gone.after (reverse ps)) all both.0,
      subst (λ ps. rows_in old.midway m ps ≡ rows_in old.midway m (beats_before (next_of old) beats) ++ rows) all both.1,
    )

-- The complete beats are those before the cycle up to which all are complete.
pub complete_are_before : (topo : Topology) (regions : ℕ → List Area) (fs : List Recorded) (manager next : ℕ) → IsPresent fs
    → ((cycle : ℕ) → cycle < 2 ^ 64 → is_complete (clients_of manager (declared_links topo)) fs cycle ≡ nat_lt cycle next)
    → complete_beats topo regions fs manager ≡ beats_before next (manager_beats topo fs manager)
complete_are_before topo regions fs manager next is exact =
    same_kept (λ (p : Placed). is_complete (clients_of manager (declared_links topo)) fs p.beat.cycle) (λ p. nat_lt p.beat.cycle next) (manager_beats topo fs manager)
    (λ p h. exact p.beat.cycle (cycle_is_short (clients_of manager (declared_links topo)) fs is p h))

-- ---- fragments that go

-- Those of one link more that end by a cycle.
pub drop_more : (links : List ℕ) (link cycle : ℕ) (first old new : List Recorded) → Contains links link → Loses links first old → ((f : Recorded) → Contains first f → Contains old f ⊎ (f.last ≤ cycle))
    → new ≡ without_ended link cycle old → Loses links first new × ((f : Recorded) → Contains first f → Contains new f ⊎ (f.last ≤ cycle))
drop_more links link cycle first old new on loses ended is = (
  record {
    among = λ f h. loses.among f (from f h);
    others = λ f h none. subst (λ fs. Contains fs f) (sym is) (contains_kept keep old f (loses.others f h none) (other f none));
  },
  (λ f h. elim (ended f h) [
    | inl stays ↦ elim (ends_by link cycle f) as (λ t. ends_by link cycle f ≡ t → Contains new f ⊎ (f.last ≤ cycle)) [
      | true ↦ λ e. (let by : f.last ≤ cycle = grind (arith, nat_tests) in inr by)
      | false ↦ λ e. inl (subst (λ fs. Contains fs f) (sym is) (contains_kept keep old f stays (ap not e)))
    ] refl
    | inr gone ↦ inr gone
  ]),
)
  where
    keep : Recorded → Bool
    keep f = not (ends_by link cycle f)

    from : (f : Recorded) → Contains new f → Contains old f
    from f h = (kept_from keep old f (subst (λ fs. Contains fs f) is h)).0

    other : (f : Recorded) → (Contains links f.link → ⊥) → keep f ≡ true
    other f none = elim (f.link == link) as (λ t. (f.link == link) ≡ t → not (t && nat_le f.last cycle) ≡ true) [
      | true ↦ λ e. (let same : link ≡ f.link = grind (arith, nat_tests) in absurd (none (subst (Contains links) same on)))
      | false ↦ λ e. refl
    ] refl

-- ---- a course that goes on

module _ (topo : Topology) (areas : List Area) (fs : List Recorded) (fronts : List (Option Front)) (waiting : List Recorded) (old : Course) (come : HasCome topo areas fs fronts waiting old) where
  -- what the fronts of its links say
  reached_is : (found : Option ℕ) → ((cycle : ℕ) → cycle < 2 ^ 64 → list_all (has_reached fronts cycle) old.links.items ≡ nat_lt cycle (past found))
      → (cycle : ℕ) → cycle < 2 ^ 64 → is_complete old.links.items fs cycle ≡ nat_lt cycle (past found)
  reached_is found reach cycle short = complete_is_reached fs fronts old.links.items cycle come.are_fronts ∙ reach cycle short

  -- One that lost its state, before or now.
  pub lost_course : (new : Course) → IsRunning topo areas new → new.state ≡ None → IsCourse topo areas fs waiting new
  lost_course new running none = record {
    running = running;
    complete = λ state is. (let wrong : None ≡ Some state = sym none ∙ is in cc);
    stands = λ state is. (let wrong : None ≡ Some state = sym none ∙ is in cc);
  }

  pub loses_none : Loses old.links.items waiting waiting
  loses_none = record { among = λ f h. h; others = λ f h none. h }

  pub stays_lost : old.state ≡ None → Advances topo areas fs old waiting old waiting
  stays_lost none = record { manager = refl; midway = refl; links = refl; course = lost_course old come.was.running none; loses = loses_none; present = come.present_waiting }

  pub gets_lost : (new : Course) → IsRunning topo areas new → IsLost old new → Advances topo areas fs old waiting new waiting
  gets_lost new running lost = record { manager = lost.manager; midway = lost.midway; links = lost.links; course = lost_course new running lost.state; loses = loses_none; present = come.present_waiting }

  -- A link has not begun, so no cycle is complete.
  nothing_next : (state : Past) → old.state ≡ Some state → ((cycle : ℕ) → cycle < 2 ^ 64 → is_complete old.links.items fs cycle ≡ false) → IsComplete fs old
  nothing_next state is none cycle short = elim (nat_lt cycle (next_of old)) as (λ t. nat_lt cycle (next_of old) ≡ t → is_complete old.links.items fs cycle ≡ t) [
    | true ↦ λ e. come.was.complete state is cycle short e
    | false ↦ λ e. none cycle short
  ] refl

  none_complete : ((cycle : ℕ) → cycle < 2 ^ 64 → list_all (has_reached fronts cycle) old.links.items ≡ nat_lt cycle 0) → (cycle : ℕ) → cycle < 2 ^ 64 → is_complete old.links.items fs cycle ≡ false
  none_complete reach cycle short = let no : nat_lt cycle 0 ≡ false = grind (arith, nat_tests) in reached_is None reach cycle short ∙ no

  pub nothing_reached : ((cycle : ℕ) → cycle < 2 ^ 64 → list_all (has_reached fronts cycle) old.links.items ≡ nat_lt cycle 0) → Advances topo areas fs old waiting old waiting
  nothing_reached reach = record {
    manager = refl;
    midway = refl;
    links = refl;
    course = record { running = come.was.running; complete = λ state is. nothing_next state is (none_complete reach); stands = come.was.stands };
    loses = loses_none;
    present = come.present_waiting;
  }

  -- the rows of a course that is complete up to its next cycle
  same_rows : IsComplete fs old → AreNewRows topo areas fs old []
  same_rows exact =
      let m : Manager = manager_at topo old.manager areas in
      ap (rows_in old.midway m) (before_next old (next_of old) exact) ∙ sym (append-nil (rows_in old.midway m (beats_before (next_of old) (manager_beats topo fs old.manager))))
    where
      before_next : (c : Course) (next : ℕ) → ((cycle : ℕ) → cycle < 2 ^ 64 → is_complete old.links.items fs cycle ≡ nat_lt cycle next)
          → filter (λ (p : Placed). is_complete old.links.items fs p.beat.cycle) (manager_beats topo fs old.manager) ≡ beats_before next (manager_beats topo fs old.manager)
      before_next c next is = same_kept (λ (p : Placed). is_complete old.links.items fs p.beat.cycle) (λ p. nat_lt p.beat.cycle next) (manager_beats topo fs old.manager)
          (λ p h. is p.beat.cycle (cycle_is_short (clients_of old.manager (declared_links topo)) fs come.present p h))

  pub nothing_reached_rows : (state : Past) → old.state ≡ Some state → ((cycle : ℕ) → cycle < 2 ^ 64 → list_all (has_reached fronts cycle) old.links.items ≡ nat_lt cycle 0) → AreNewRows topo areas fs old []
  nothing_reached_rows state is reach = same_rows (nothing_next state is (none_complete reach))

  module _ (to : ℕ) (reach : (cycle : ℕ) → cycle < 2 ^ 64 → list_all (has_reached fronts cycle) old.links.items ≡ nat_lt cycle (to + 1)) where
    complete_to : (cycle : ℕ) → cycle < 2 ^ 64 → is_complete old.links.items fs cycle ≡ nat_lt cycle (to + 1)
    complete_to = reached_is (Some to) reach

    -- All that is complete was judged before.
    done_before : (state : Past) → old.state ≡ Some state → to < next_of old → IsComplete fs old
    done_before state is done cycle short = elim (nat_lt cycle (next_of old)) as (λ t. nat_lt cycle (next_of old) ≡ t → is_complete old.links.items fs cycle ≡ t) [
      | true ↦ λ e. come.was.complete state is cycle short e
      | false ↦ λ e. (let no : nat_lt cycle (to + 1) ≡ false = grind (arith, nat_tests) in complete_to cycle short ∙ no)
    ] refl

    module _ (new : Course) (rows : List Row) (left : List Recorded) (running : IsRunning topo areas new) (judged : Judged topo areas waiting to old new rows)
        (loses : Loses old.links.items waiting left) (still : IsPresent left) (ended : (f : Recorded) → Contains waiting f → Contains left f ⊎ (f.last ≤ to)) where
      -- What is left waits still.
      waits_on : (next : ℕ) → to < next → Waits old.links.items fs waiting next → Waits old.links.items fs left next
      waits_on next later waits f has of = elim (waits f has of) [
        | inl there ↦ elim (ended f there) [
          | inl stays ↦ inl stays
          | inr gone ↦ inr (omega arith)
        ]
        | inr gone ↦ inr gone
      ]

      stays : to < next_of old → IsCourse topo areas fs left old
      stays done = record {
        running = come.was.running;
        complete = λ state is. done_before state is done;
        stands = λ state is. (let was = come.was.stands state is in record { shows = was.shows; waits = waits_on (next_of old) done was.waits });
      }

      goes : (order : next_of old ≤ to) → IsCourse topo areas fs left new
      goes order =
          let gone = judged.gone order in
          let links : new.links.items ≡ old.links.items = ap (λ v. v.items) judged.links in
          record {
            running = running;
            complete = λ state is cycle short. ap (λ ls. is_complete ls fs cycle) links ∙ complete_to cycle short ∙ ap (nat_lt cycle) (sym gone.next);
            stands = λ state is.
                let same : gone.after ≡ state = some_is gone.after state (sym gone.has ∙ is) in
                let was = come.was.stands gone.before gone.had in
                let both = judged_stands topo areas fs waiting to old new rows come.present come.present_waiting come.among come.was.running.links was.waits order gone was.shows in
                record {
                  shows = subst (λ s. StandsFor new.midway (manager_at topo new.manager areas) s (reverse (beats_before (next_of new) (manager_beats topo fs new.manager)))) same
                      (subst (λ n. StandsFor new.midway (manager_at topo new.manager areas) gone.after (reverse (beats_before n (manager_beats topo fs new.manager)))) (sym gone.next)
                      (subst (λ k. StandsFor new.midway (manager_at topo k areas) gone.after (reverse (beats_before (to + 1) (manager_beats topo fs k)))) (sym judged.manager)
                      (subst (λ w. StandsFor w (manager_at topo old.manager areas) gone.after (reverse (beats_before (to + 1) (manager_beats topo fs old.manager)))) (sym judged.midway) both.0)));
                  waits = subst (λ ls. Waits ls fs left (next_of new)) (sym links)
                      (subst (Waits old.links.items fs left) (sym gone.next) (waits_on (to + 1) (omega arith) (later_waits (next_of old) (to + 1) (omega (arith, order)) was.waits)));
                };
          }
        where
          some_is : (one other : Past) → Some one ≡ Some other → one ≡ other
          some_is one other e = cc

          later_waits : (next later : ℕ) → next ≤ later → Waits old.links.items fs waiting next → Waits old.links.items fs waiting later
          later_waits next later less waits f has of = elim (waits f has of) [ inl there ↦ inl there | inr gone ↦ inr (omega arith) ]

      pub goes_on : Advances topo areas fs old waiting new left
      goes_on = record { manager = judged.manager; midway = judged.midway; links = judged.links; course = course; loses = loses; present = still }
        where
          course : IsCourse topo areas fs left new
          course = elim (nat_lt to (next_of old)) as (λ t. nat_lt to (next_of old) ≡ t → IsCourse topo areas fs left new) [
            | true ↦ λ e. (let done : to < next_of old = grind (arith, nat_tests) in subst (IsCourse topo areas fs left) (sym (judged.done done).0) (stays done))
            | false ↦ λ e. (let order : next_of old ≤ to = grind (arith, nat_tests) in goes order)
          ] refl

      pub new_rows : (state : Past) → old.state ≡ Some state → AreNewRows topo areas fs old rows
      new_rows state is = elim (nat_lt to (next_of old)) as (λ t. nat_lt to (next_of old) ≡ t → AreNewRows topo areas fs old rows) [
        | true ↦ λ e. (let done : to < next_of old = grind (arith, nat_tests) in subst (AreNewRows topo areas fs old) (sym (judged.done done).1) (same_rows (done_before state is done)))
        | false ↦ λ e. (let order : next_of old ≤ to = grind (arith, nat_tests) in
            let gone = judged.gone order in let was = come.was.stands gone.before gone.had in
            let both = judged_stands topo areas fs waiting to old new rows come.present come.present_waiting come.among come.was.running.links was.waits order gone was.shows in
            ap (rows_in old.midway (manager_at topo old.manager areas)) (same_kept (λ (p : Placed). is_complete old.links.items fs p.beat.cycle) (λ p. nat_lt p.beat.cycle (to + 1)) (manager_beats topo fs old.manager)
            (λ p h. complete_to p.beat.cycle (cycle_is_short (clients_of old.manager (declared_links topo)) fs come.present p h))) ∙ both.1)
      ] refl

-- ---- a course at its end

-- The rows of the beats that wait to the last cycle are those that were not told.
pub rest_is_untold : (topo : Topology) (regions : ℕ → List Area) (fs waiting : List Recorded) (old new : Course) (rows : List Row) (state : Past) → IsPresent fs → IsPresent waiting → AreAmong waiting fs
    → IsCourse topo (regions old.manager) fs waiting old → old.state ≡ Some state → Judged topo (regions old.manager) waiting 18446744073709551615 old new rows → rows ≡ untold topo regions fs old.manager old.midway
rest_is_untold topo regions fs waiting old new rows state is are among course at judged = elim (nat_lt 18446744073709551615 (next_of old)) as (λ t. nat_lt 18446744073709551615 (next_of old) ≡ t → rows ≡ untold topo regions fs old.manager old.midway) [
  | true ↦ λ e. (let done : 18446744073709551615 < next_of old = grind (arith, nat_tests) in
      (judged.done done).1 ∙ sym (none_after old.midway m (reverse (complete_beats topo regions fs old.manager))) ∙ sym (ap (rows_after old.midway m (reverse (complete_beats topo regions fs old.manager))) (none_kept (λ (p : Placed). not (is_complete links fs p.beat.cycle)) beats
      (λ p h. ap not (exact p.beat.cycle (short p h)) ∙ past p.beat.cycle (next_of old) (short p h) done))))
  | false ↦ λ e. (let order : next_of old ≤ 18446744073709551615 = grind (arith, nat_tests) in
      let gone = judged.gone order in
      let stood = course.stands gone.before gone.had in
      let came : beats_within (next_of old) 18446744073709551615 (beats_of_all old.links.items waiting) ≡ beats_within (next_of old) 18446744073709551615 beats =
      waiting_has old.links.items fs waiting (next_of old) 18446744073709551615 is are among stood.waits ∙ ap (λ ls. beats_within (next_of old) 18446744073709551615 (beats_of_all ls fs)) course.running.links in
      let opened : open_beats topo regions fs old.manager ≡ beats_within (next_of old) 18446744073709551615 beats =
      same_kept (λ (p : Placed). not (is_complete links fs p.beat.cycle)) (is_within (next_of old) 18446744073709551615) beats (λ p h. ap not (exact p.beat.cycle (short p h)) ∙ turned p.beat.cycle (next_of old) (short p h)) in
      (gone.judged.goes old.midway (beats_before (next_of old) beats) stood.shows).1
      ∙ ap (rows_after old.midway m (reverse (beats_before (next_of old) beats))) (came ∙ sym opened)
      ∙ ap (λ ps. rows_after old.midway m (reverse ps) (open_beats topo regions fs old.manager)) (sym (complete_are_before topo regions fs old.manager (next_of old) is exact)))
] refl
  where
    m : Manager
    m = manager_at topo old.manager (regions old.manager)

    links : List ℕ
    links = clients_of old.manager (declared_links topo)

    beats : List Placed
    beats = manager_beats topo fs old.manager

    short : (p : Placed) → Contains beats p → p.beat.cycle < 2 ^ 64
    short p h = cycle_is_short links fs is p h

    exact : (cycle : ℕ) → cycle < 2 ^ 64 → is_complete links fs cycle ≡ nat_lt cycle (next_of old)
    exact cycle few = ap (λ ls. is_complete ls fs cycle) (sym course.running.links) ∙ course.complete state at cycle few

    past : (cycle next : ℕ) → cycle < 2 ^ 64 → 18446744073709551615 < next → not (nat_lt cycle next) ≡ false
    past cycle next few done = let below : nat_lt cycle next ≡ true = grind (arith, nat_tests) in ap not below

    turned : (cycle next : ℕ) → cycle < 2 ^ 64 → not (nat_lt cycle next) ≡ (nat_le next cycle && nat_le cycle 18446744073709551615)
    turned cycle next few = elim (nat_lt cycle next) as (λ t. nat_lt cycle next ≡ t → not t ≡ (nat_le next cycle && nat_le cycle 18446744073709551615)) [
      | true ↦ λ e. (let no : (nat_le next cycle && nat_le cycle 18446744073709551615) ≡ false = grind (arith, nat_tests) in sym no)
      | false ↦ λ e. (let yes : (nat_le next cycle && nat_le cycle 18446744073709551615) ≡ true = grind (arith, nat_tests) in sym yes)
    ] refl

-- ---- a course that begins

pub begins : (midway : Option Midway) (topo : Topology) (areas : List Area) (manager : ℕ) (course : Course) → manager < length topo.managers → IsNewCourse midway topo manager course → IsCourse topo areas [] [] course
begins midway topo areas manager course below new = record {
  running = record {
    declared = subst (λ m. m < length topo.managers) (sym new.owner) below;
    links = new.links ∙ ap (λ m. clients_of m (declared_links topo)) (sym new.owner);
    formed = λ state at. subst (λ m. IsOf (manager_at topo m areas) state) (sym new.owner) (stands_is_of midway (manager_at topo manager areas) state [] (new.stands areas state at));
  };
  complete = λ state at. new.next;
  stands = λ state at. record {
    shows = subst (λ m. StandsFor course.midway (manager_at topo m areas) state []) (sym new.owner)
        (subst (λ w. StandsFor w (manager_at topo manager areas) state []) (sym new.law) (new.stands areas state at));
    waits = λ f has of. absurd (contains_none f has);
  };
}

-- A manager that has no links waits for nothing, any other for its first fragment.
pub first_cycle : (links : List ℕ) (cycle : ℕ) → cycle < 2 ^ 64 → is_complete links [] cycle ≡ nat_lt cycle (next_from (cond (length links == 0) None (Some 0)))
first_cycle [] cycle few = let yes : nat_lt cycle (2 ^ 64) ≡ true = grind (arith, nat_tests) in sym yes
first_cycle (link ∷ links) cycle few =
    let no : nat_lt cycle 0 ≡ false = grind (arith, nat_tests) in
    let some : (length (link ∷ links) == 0) ≡ false = grind (arith, nat_tests) in
    sym no ∙ ap (λ t. nat_lt cycle (next_from (cond t None (Some 0)))) (sym some)
