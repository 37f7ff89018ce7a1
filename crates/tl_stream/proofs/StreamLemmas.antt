-- A fragment that comes in.
use Rattle.std.proofs.Common.{◌≡◌, ℕ, ◌<◌, ◌≤◌, ◌^◌, ◌⊎◌, inl, inr, Bool, true, false, cond, not, ◌&&◌, List, [], ◌∷◌, ◌++◌, length, Option, Some, None, refl, sym, ap, subst, ◌∙◌, arith}
use Rattle.std.specs.Prelude.{filter, map, nat_lt, nat_le, slice_get, reverse, ◌==◌}
use Rattle.std.specs.List.{Contains, find}
use Rattle.std.proofs.lemmas.Bool.Decides.{nat_tests}
use Rattle.tl_topology.specs.Regions.{Area}
use Rattle.tl_topology.specs.Topology.{Topology, number_of_name}
use Rattle.tl_topology.specs.declared.LinkDecl.{LinkDecl}
use Rattle.tl_beats.specs.Fragments.{Frag}
use Rattle.tl_beats.specs.declared.Placed.{Placed}
use Rattle.tl_beats.specs.declared.Row.{Row}
use Rattle.tl_definitions.specs.Captures.{manager_beats}
use Rattle.tl_definitions.specs.Managers.{declared_links, manager_at}
use Rattle.tl_definitions.specs.Positions.{Recorded, clients_of}
use Rattle.tl_definitions.proofs.Lists.{contains_here, contains_there, none_kept, all_by}
use Rattle.tl_check.specs.Captured.{areas_at}
use Rattle.tl_client_rules.proofs.DeclaredLaws.{client_is_declared}
use Rattle.tl_capture.specs.Present.{recorded, is_of, shares, numbered, overlapped, least, put_in, IsCapture, IsPresent}
use Rattle.tl_capture.proofs.NumberLemmas.{present_put, same_kept}
use Rattle.tl_capture.proofs.PutLemmas.{put_from}
use Rattle.tl_capture.proofs.TouchLemmas.{put_has, put_here}
use Rattle.tl_midway.specs.declared.midway.Midway.{Midway}
use Rattle.tl_stream.specs.Courses.{next_of, beats_before, AreCourses, IsCourse, WasCourse, HasCome, Advances, AreNewRows}
use Rattle.tl_stream.specs.Fronts.{front_at, is_covered, is_complete, refusal_of, IsFrontOf}
use Rattle.tl_stream.specs.Pasts.{StandsFor, rows_in}
use Rattle.tl_stream.specs.Told.{told}
use Rattle.tl_stream.specs.Streams.{StreamData, HasAccepted, Accepts, IsCause, IsNumberOld, IsOn, areas_in, course_at, told_by}
use Rattle.tl_stream.specs.declared.course.Course.{Course}
use Rattle.tl_stream.specs.declared.fault.StreamFault.{StreamFault}
use Rattle.tl_stream.specs.declared.fault.StreamFault.TheVariants as fault
use Rattle.tl_stream.specs.declared.front.Front.{Front}
use Rattle.tl_stream.specs.declared.past.Past.{Past}
use Rattle.tl_stream.proofs.BeatLemmas.{beat_carried, same_beats}
use Rattle.tl_stream.proofs.CourseLemmas.{complete_are_before}
use Rattle.tl_stream.proofs.FrontLemmas.{any_none, every, complete_stays, complete_elsewhere, IsNewer}

-- ---- refusals

-- A fragment that is not refused is newer than all of its link,
pub newer_is : (fs : List Recorded) (link : ℕ) (f : Frag) (front : Option Front) → IsFrontOf link fs front → refusal_of front f ≡ None → IsNewer fs (recorded link f)
newer_is fs link f None none free g h of = absurd (none g h of)
newer_is fs link f (Some front) newest free g h of =
    let number : nat_le f.number front.number ≡ false = first_free (nat_le f.number front.number) (nat_le f.first front.last) free in
    let range : nat_le f.first front.last ≡ false = second_free (nat_le f.number front.number) (nat_le f.first front.last) free in
    let below : g.number ≤ front.number = newest.numbers g h of in
    let before : g.last ≤ front.last = newest.ranges g h of in
    let lower : g.number < f.number = grind (arith, nat_tests) in
    let earlier : g.last < f.first = grind (arith, nat_tests) in (lower, earlier)
  where
    first_free : (s t : Bool) → cond s (Some fault.NumberNotAbove) (cond t (Some (fault.RangeNotAfter front.number)) None) ≡ None → s ≡ false
    first_free true t h = cc
    first_free false t h = refl

    second_free : (s t : Bool) → cond s (Some fault.NumberNotAbove) (cond t (Some (fault.RangeNotAfter front.number)) None) ≡ None → t ≡ false
    second_free true t h = cc
    second_free false true h = cc
    second_free false false h = refl

-- and one that is refused has its cause.
pub cause_is : (fs : List Recorded) (topo : Topology) (link : ℕ) (f : Frag) (front : Option Front) (e : StreamFault) → number_of_name topo.links f.link ≡ Some link → IsFrontOf link fs front
    → refusal_of front f ≡ Some e → IsCause fs topo f e
cause_is fs topo link f None e named is h = cc
cause_is fs topo link f (Some front) e named newest h = elim (nat_le f.number front.number) as (λ s. nat_le f.number front.number ≡ s
    → cond s (Some fault.NumberNotAbove) (cond (nat_le f.first front.last) (Some (fault.RangeNotAfter front.number)) None) ≡ Some e → IsCause fs topo f e) [
      | true ↦ λ s g. (let same : fault.NumberNotAbove ≡ e = cc in
          let number : newest.one.0.number ≡ front.number = newest.one.3 in
          let old : f.number ≤ newest.one.0.number = grind (arith, nat_tests) in
          subst (IsCause fs topo f) same (link, named, (newest.one.0, newest.one.1, newest.one.2, old)))
      | false ↦ λ s g. elim (nat_le f.first front.last) as (λ t. nat_le f.first front.last ≡ t → cond t (Some (fault.RangeNotAfter front.number)) None ≡ Some e → IsCause fs topo f e) [
        | true ↦ λ t k. (let same : fault.RangeNotAfter front.number ≡ e = cc in
            let last : newest.one.0.last ≡ front.last = newest.one.4 in
            let old : f.first ≤ newest.one.0.last = grind (arith, nat_tests) in
            subst (IsCause fs topo f) same (link, named, (newest.one.0, newest.one.1, newest.one.2, newest.one.3, old), not_old s))
        | false ↦ λ t k. cc
      ] refl g
    ] refl h
  where
    not_old : nat_le f.number front.number ≡ false → IsNumberOld fs link f.number → ⊥
    not_old s old = let below : old.0.number ≤ front.number = newest.numbers old.0 old.1 old.2 in let at : f.number ≤ old.0.number = old.3 in
        let wrong : true ≡ false = grind (arith, nat_tests) in cc

-- ---- it finds room

find_none : {X : Type 0} (p : X → Bool) (xs : List X) → ((x : X) → Contains xs x → p x ≡ false) → find p xs ≡ None
find_none p [] none = refl
find_none p (x ∷ xs) none = ap (λ t. cond t (Some x) (find p xs)) (none x (contains_here x xs)) ∙ find_none p xs (λ y h. none y (contains_there x xs y h))

module _ (fs : List Recorded) (f : Recorded) (newer : IsNewer fs f) where
  not_numbered : (g : Recorded) → Contains fs g → is_of f.link f.number g ≡ false
  not_numbered g h = elim (g.link == f.link) as (λ t. (g.link == f.link) ≡ t → (t && g.number == f.number) ≡ false) [
    | true ↦ λ of. (let same : g.link ≡ f.link = grind (arith, nat_tests) in let lower = (newer g h same).0 in grind (arith, nat_tests))
    | false ↦ λ of. refl
  ] refl

  not_shared : (g : Recorded) → Contains fs g → shares f.link f.first f.last g ≡ false
  not_shared g h = elim (g.link == f.link) as (λ t. (g.link == f.link) ≡ t → (t && nat_le f.first g.last && nat_le g.first f.last) ≡ false) [
    | true ↦ λ of. (let same : g.link ≡ f.link = grind (arith, nat_tests) in let earlier = (newer g h same).1 in grind (arith, nat_tests))
    | false ↦ λ of. refl
  ] refl

  pub is_absent : numbered f.link f.number fs ≡ None
  is_absent = find_none (is_of f.link f.number) fs not_numbered

  pub is_free : overlapped f fs ≡ None
  is_free = ap (λ gs. least (map (λ (g : Recorded). g.number) gs)) (none_kept (λ (g : Recorded). not (g.number == f.number) && shares f.link f.first f.last g) fs
      (λ g h. unshared (not (g.number == f.number)) (shares f.link f.first f.last g) (not_shared g h)))
    where
      unshared : (s t : Bool) → t ≡ false → (s && t) ≡ false
      unshared true t h = h
      unshared false t h = refl

  pub stays_present : IsCapture f → IsPresent fs → IsPresent (put_in f fs)
  stays_present own is = present_put f fs own is (all_by (λ g. is_of f.link f.number g ≡ false) fs not_numbered) (all_by (λ g. shares f.link f.first f.last g ≡ false) fs not_shared)

-- ---- what it leaves of a manager

module _ (topo : Topology) (areas : List Area) (fs waiting : List Recorded) (f : Recorded) (course : Course) (is : IsPresent fs) (are : IsPresent (put_in f fs)) (had : IsCourse topo areas fs waiting course) where
  abbrev pub links_of : List ℕ
  links_of = clients_of course.manager (declared_links topo)

  -- Of another manager all stays: its beats,
  pub beats_elsewhere : (manager : ℕ) (keep : Placed → Bool) → (Contains (clients_of manager (declared_links topo)) f.link → ⊥)
      → filter keep (manager_beats topo (put_in f fs) manager) ≡ filter keep (manager_beats topo fs manager)
  beats_elsewhere manager keep none =
      let links : List ℕ = clients_of manager (declared_links topo) in
      same_beats keep links (put_in f fs) fs are is
      (λ p k h. beat_carried links (put_in f fs) fs are p h (λ g has of first last. elim (put_from f fs g has) [
        | inl same ↦ absurd (none (subst (λ (r : Recorded). Contains links r.link) (sym same) of))
        | inr there ↦ there
      ]))
      (λ p k h. beat_carried links fs (put_in f fs) is p h (λ g has of first last. put_has f fs g has))

  -- and its course, where none of its fragments is lost.
  pub course_elsewhere : (left : List Recorded) → (Contains links_of f.link → ⊥) → ((g : Recorded) → Contains (put_in f waiting) g → Contains links_of g.link → Contains left g)
      → IsCourse topo areas (put_in f fs) left course
  course_elsewhere left none keeps = record {
    running = had.running;
    complete = λ state at cycle short. complete_elsewhere course.links.items fs f cycle (λ h. none (subst (λ ls. Contains ls f.link) had.running.links h)) ∙ had.complete state at cycle short;
    stands = λ state at.
        let was = had.stands state at in record {
          shows = subst (λ ps. StandsFor course.midway (manager_at topo course.manager areas) state (reverse ps)) (sym (beats_elsewhere course.manager (λ p. nat_lt p.beat.cycle (next_of course)) none)) was.shows;
          waits = λ g has of. elim (put_from f fs g has) [
            | inl same ↦ absurd (none (subst (λ ls. Contains ls f.link) had.running.links (subst (λ (r : Recorded). Contains course.links.items r.link) (sym same) of)))
            | inr there ↦ elim (was.waits g there of) [
              | inl stays ↦ inl (keeps g (put_has f waiting g stays) (subst (λ ls. Contains ls g.link) had.running.links of))
              | inr gone ↦ inr gone
            ]
          ];
        };
  }

  module _ (newer : IsNewer fs f) (on : Contains links_of f.link) (short : f.first < 2 ^ 64) where
    not_complete : is_complete course.links.items fs f.first ≡ false
    not_complete = elim (is_complete course.links.items fs f.first) as (λ t. is_complete course.links.items fs f.first ≡ t → t ≡ false) [
      | true ↦ λ e. (let covered : is_covered fs f.first f.link ≡ true = every (is_covered fs f.first) course.links.items e f.link (subst (λ ls. Contains ls f.link) (sym had.running.links) on) in
          sym covered ∙ any_none (λ (g : Recorded). g.link == f.link && nat_le f.first g.last) fs (λ g h. elim (g.link == f.link) as (λ t. (g.link == f.link) ≡ t → (t && nat_le f.first g.last) ≡ false) [
            | true ↦ λ of. (let same : g.link ≡ f.link = grind (arith, nat_tests) in let earlier = (newer g h same).1 in grind (arith, nat_tests))
            | false ↦ λ of. refl
          ] refl))
      | false ↦ λ e. refl
    ] refl

    -- It begins with the next cycle or after it.
    begins_after : (state : Past) → course.state ≡ Some state → next_of course ≤ f.first
    begins_after state at = let no : nat_lt f.first (next_of course) ≡ false = sym (had.complete state at f.first short) ∙ not_complete in grind (arith, nat_tests)

    -- So what is judged of its own manager stays.
    pub beats_before_stay : (state : Past) → course.state ≡ Some state
        → beats_before (next_of course) (manager_beats topo (put_in f fs) course.manager) ≡ beats_before (next_of course) (manager_beats topo fs course.manager)
    beats_before_stay state at = same_beats (λ p. nat_lt p.beat.cycle (next_of course)) links_of (put_in f fs) fs are is
        (λ p keep h. beat_carried links_of (put_in f fs) fs are p h (λ g has of first last. elim (put_from f fs g has) [
          | inl same ↦ (let after = begins_after state at in let begin : f.first ≡ g.first = ap (λ (r : Recorded). r.first) same in
              absurd (too_late p.beat.cycle g.first (next_of course) keep first (omega (arith, after, begin))))
          | inr there ↦ there
        ]))
        (λ p keep h. beat_carried links_of fs (put_in f fs) is p h (λ g has of first last. put_has f fs g has))
      where
        too_late : (cycle first next : ℕ) → nat_lt cycle next ≡ true → first ≤ cycle → next ≤ first → ⊥
        too_late cycle first next keep at later = let wrong : true ≡ false = grind (arith, nat_tests) in cc

    pub was_course : WasCourse topo areas (put_in f fs) (put_in f waiting) course
    was_course = record {
      running = had.running;
      complete = λ state at cycle few before. complete_stays course.links.items fs f cycle (had.complete state at cycle few ∙ before);
      stands = λ state at.
          let was = had.stands state at in record {
            shows = subst (λ ps. StandsFor course.midway (manager_at topo course.manager areas) state (reverse ps)) (sym (beats_before_stay state at)) was.shows;
            waits = λ g has of. elim (put_from f fs g has) [
              | inl same ↦ inl (subst (Contains (put_in f waiting)) same (put_here f waiting))
              | inr there ↦ elim (was.waits g there of) [ inl stays ↦ inl (put_has f waiting g stays) | inr gone ↦ inr gone ]
            ];
          };
    }

-- ---- the stream with it

-- A link has one manager.
pub one_manager : (decls : List LinkDecl) (one other link : ℕ) → Contains (clients_of one decls) link → Contains (clients_of other decls) link → one ≡ other
one_manager decls one other link h g =
    let first = client_is_declared one link decls h in
    let second = client_is_declared other link decls g in
    let same : first.0 ≡ second.0 = some_same first.0 second.0 (sym first.1 ∙ second.1) in
    sym first.2 ∙ ap (λ (d : LinkDecl). d.manager) same ∙ second.2
  where
    some_same : (x y : LinkDecl) → Some x ≡ Some y → x ≡ y
    some_same x y e = cc

-- One course is another.
abbrev pub HasSet : ℕ → Course → List Course → List Course → Type 0
HasSet manager course old new = (k : ℕ) (c : Course) → slice_get new k ≡ Some c → ((k ≡ manager) × (c ≡ course)) ⊎ ((k ≡ manager → ⊥) × (slice_get old k ≡ Some c))

module _ (old : StreamData) (fs : List Recorded) (has : HasAccepted fs old) (link manager : ℕ) (f : Frag) (named : number_of_name old.topo.links f.link ≡ Some link)
    (on : IsOn old.topo link manager) (own : IsCapture (recorded link f)) (short : f.first < 2 ^ 64) (newer : IsNewer fs (recorded link f)) (course : Course) (at : course_at old manager ≡ Some course) where
  abbrev pub come : List Recorded
  come = put_in (recorded link f) fs

  pub still_present : IsPresent come
  still_present = stays_present fs (recorded link f) newer own has.present

  waits_newer : IsNewer old.waiting (recorded link f)
  waits_newer g h of = newer g (has.among g h) of

  pub room : (numbered link f.number old.waiting ≡ None) × (overlapped (recorded link f) old.waiting ≡ None)
  room = (is_absent old.waiting (recorded link f) waits_newer, is_free old.waiting (recorded link f) waits_newer)

  pub still_waiting : IsPresent (put_in (recorded link f) old.waiting)
  still_waiting = stays_present old.waiting (recorded link f) waits_newer own has.waiting

  pub still_among : (g : Recorded) → Contains (put_in (recorded link f) old.waiting) g → Contains come g
  still_among g h = elim (put_from (recorded link f) old.waiting g h) [
    | inl same ↦ subst (Contains come) same (put_here (recorded link f) fs)
    | inr there ↦ put_has (recorded link f) fs g (has.among g there)
  ]

  its_own : course.manager ≡ manager
  its_own = has.courses.own manager course at

  on_course : Contains (clients_of course.manager (declared_links old.topo)) link
  on_course = subst (λ m. Contains (clients_of m (declared_links old.topo)) link) (sym its_own) on

  pub areas_are : areas_in old course.manager ≡ areas_in old manager
  areas_are = ap (areas_in old) its_own

  -- Its own manager is then judged on.
  pub has_come : (fronts : List (Option Front)) → ((l : ℕ) → IsFrontOf l come (front_at fronts l)) → HasCome old.topo (areas_in old course.manager) come fronts (put_in (recorded link f) old.waiting) course
  has_come fronts are = record {
    present = still_present;
    present_waiting = still_waiting;
    among = still_among;
    are_fronts = are;
    was = was_course old.topo (areas_in old course.manager) fs old.waiting (recorded link f) course has.present still_present
        (subst (λ areas. IsCourse old.topo areas fs old.waiting course) (sym areas_are) (has.courses.each manager course at)) newer on_course short;
  }

  module _ (new : StreamData) (after : Course) (topo : new.topo ≡ old.topo) (regions : new.regions ≡ old.regions) (midway : new.midway ≡ old.midway) (fronts : (l : ℕ) → IsFrontOf l come (front_at new.fronts l))
      (many : length new.fronts ≡ length old.fronts) (count : length new.courses ≡ length old.courses) (set : HasSet manager after old.courses new.courses) (waiting : IsPresent new.waiting)
      (advanced : Advances old.topo (areas_in old course.manager) come course (put_in (recorded link f) old.waiting) after new.waiting) where
    its_after : after.manager ≡ manager
    its_after = advanced.manager ∙ its_own

    -- All others stay.
    other_course : (k : ℕ) (c : Course) → (k ≡ manager → ⊥) → course_at old k ≡ Some c → IsCourse old.topo (areas_in old k) come new.waiting c
    other_course k c other here =
        let own_number : c.manager ≡ k = has.courses.own k c here in
        let apart : (l : ℕ) → Contains (clients_of c.manager (declared_links old.topo)) l → Contains course.links.items l → ⊥ =
        λ l h g. other (sym own_number ∙ one_manager (declared_links old.topo) c.manager course.manager l h (subst (λ ls. Contains ls l) (has.courses.each manager course at).running.links g) ∙ its_own) in
        course_elsewhere old.topo (areas_in old k) fs old.waiting (recorded link f) c has.present still_present (has.courses.each k c here) new.waiting
        (λ h. apart link h (subst (λ ls. Contains ls link) (sym (has.courses.each manager course at).running.links) on_course))
        (λ g there of. advanced.loses.others g there (λ mine. apart g.link of mine))

    accepted_courses : AreCourses old.midway old.topo (areas_in old) come new.waiting new.courses
    accepted_courses = record {
      count = count ∙ has.courses.count;
      own = λ k c here. elim (set k c here) [
        | inl mine ↦ ap (λ (x : Course). x.manager) mine.1 ∙ its_after ∙ sym mine.0
        | inr other ↦ has.courses.own k c other.1
      ];
      same = λ k c here. elim (set k c here) [
        | inl mine ↦ ap (λ (x : Course). x.midway) mine.1 ∙ advanced.midway ∙ has.courses.same manager course at
        | inr other ↦ has.courses.same k c other.1
      ];
      each = λ k c here. elim (set k c here) [
        | inl mine ↦ subst (λ x. IsCourse old.topo (areas_in old k) come new.waiting x) (sym mine.1)
            (subst (λ n. IsCourse old.topo (areas_in old n) come new.waiting after) (sym mine.0) (subst (λ areas. IsCourse old.topo areas come new.waiting after) areas_are advanced.course))
        | inr other ↦ other_course k c other.0 other.1
      ];
    }

    pub accepted_in : HasAccepted come new
    accepted_in = record {
      present = still_present;
      among = λ g h. still_among g (advanced.loses.among g h);
      waiting = waiting;
      links = many ∙ has.links ∙ ap (λ (t : Topology). length t.links) (sym topo);
      fronts = fronts;
      courses = subst (λ w. AreCourses w new.topo (areas_in new) come new.waiting new.courses) (sym midway)
          (subst (λ t. AreCourses old.midway t (areas_in new) come new.waiting new.courses) (sym topo) (subst (λ rs. AreCourses old.midway old.topo (areas_at rs) come new.waiting new.courses) (sym regions) accepted_courses));
    }

    -- The rows of its manager are those told before and these.
    pub own_rows : (rows : List Row) (state : Past) → course.state ≡ Some state → AreNewRows old.topo (areas_in old course.manager) come course rows → told_by old come manager ≡ told_by old fs manager ++ rows
    own_rows rows state here found =
        let mine = subst (λ areas. IsCourse old.topo areas fs old.waiting course) (sym areas_are) (has.courses.each manager course at) in
        let before = complete_are_before old.topo (areas_in old) fs course.manager (next_of course) has.present
        (λ cycle few. ap (λ ls. is_complete ls fs cycle) (sym mine.running.links) ∙ mine.complete state here cycle few) in
        let stay = beats_before_stay old.topo (areas_in old course.manager) fs old.waiting (recorded link f) course has.present still_present mine newer on_course short state here in
        subst (λ m. told_by old come m ≡ told_by old fs m ++ rows) its_own
        (subst (λ w. told old.topo (areas_in old) come course.manager w ≡ told old.topo (areas_in old) fs course.manager w ++ rows) (has.courses.same manager course at)
        (ap (λ ls. rows_in course.midway (manager_at old.topo course.manager (areas_in old course.manager)) (filter (λ (p : Placed). is_complete ls come p.beat.cycle) (manager_beats old.topo come course.manager))) (sym mine.running.links)
        ∙ found ∙ ap (λ ps. rows_in course.midway (manager_at old.topo course.manager (areas_in old course.manager)) ps ++ rows) (stay ∙ sym before)))

    other_rows : (k : ℕ) → (IsOn old.topo link k → ⊥) → told_by old come k ≡ told_by old fs k
    other_rows k none = ap (rows_in old.midway (manager_at old.topo k (areas_in old k)))
        (same_kept (λ (p : Placed). is_complete (clients_of k (declared_links old.topo)) come p.beat.cycle) (λ (p : Placed). is_complete (clients_of k (declared_links old.topo)) fs p.beat.cycle) (manager_beats old.topo come k)
        (λ p h. complete_elsewhere (clients_of k (declared_links old.topo)) fs (recorded link f) p.beat.cycle none)
        ∙ beats_elsewhere old.topo (areas_in old manager) fs old.waiting (recorded link f) course has.present still_present (has.courses.each manager course at) k
        (λ (p : Placed). is_complete (clients_of k (declared_links old.topo)) fs p.beat.cycle) none)

    pub accepts_it : (rows : List Row) (state : Past) → course.state ≡ Some state → AreNewRows old.topo (areas_in old course.manager) come course rows → Accepts fs old f new rows
    accepts_it rows state here found = record {
      link = link;
      named = named;
      topo = topo;
      regions = regions;
      midway = midway;
      accepted = accepted_in;
      own = λ k is. subst (λ n. told_by old come n ≡ told_by old fs n ++ rows) (one_manager (declared_links old.topo) manager k link on is) (own_rows rows state here found);
      others = other_rows;
    }
