-- One fragment accepted, by what the code knows.
use Rattle.std.proofs.Common.{◌≡◌, ◌≢◌, ℕ, ◌<◌, ◌≤◌, ◌^◌, ◌⊎◌, inl, inr, true, false, List, length, get_or, Option, Some, None, refl, sym, ap, subst, ◌∙◌, arith, length-set}
use Rattle.std.specs.Prelude.{nat_lt, slice_get, ◌==◌, is_none, is_some}
use Rattle.std.specs.List.{All, Contains, list_all}
use Rattle.std.specs.Option.{option_and_then}
use Rattle.std.proofs.Math.ListN.{set}
use Rattle.std.proofs.lemmas.Bool.Decides.{nat_tests}
use Rattle.std.proofs.lemmas.List.{get_or-set_same, get_or-set_other}
use Rattle.std.proofs.lemmas.List.Elements.{All-contains, Contains-append_left, Contains-append_right, Contains-get_or}
use Rattle.std.proofs.lemmas.Option.{same_Some, slice_get-get_or, slice_get_past, slice_get_within}
use Rattle.tl_topology.specs.Regions.{Area}
use Rattle.tl_topology.specs.Topology.{Topology, number_of_name}
use Rattle.tl_topology.specs.declared.LinkDecl.{LinkDecl}
use Rattle.tl_beats.specs.Fragments.{Frag, AreBeats}
use Rattle.tl_beats.specs.declared.Row.{Row}
use Rattle.tl_definitions.specs.Managers.{declared_links}
use Rattle.tl_definitions.specs.Positions.{Recorded, clients_of}
use Rattle.tl_client_rules.proofs.DeclaredLaws.{declared_is_client}
use Rattle.tl_capture.specs.Present.{recorded, numbered, overlapped, put_in, IsCapture, IsPresent}
use Rattle.tl_capture.proofs.TouchLemmas.{put_here}
use Rattle.tl_stream.specs.Courses.{HasCome, Advances, AreNewRows}
use Rattle.tl_stream.specs.Fronts.{front_at, refusal_of, has_reached, past, is_complete, IsFrontOf}
use Rattle.tl_stream.specs.Streams.{StreamData, HasAccepted, Accepts, Refuses, IsCause, IsOn, areas_in, course_at, told_by}
use Rattle.tl_stream.specs.Told.{untold}
use Rattle.tl_stream.specs.declared.course.Course.{Course}
use Rattle.tl_stream.specs.declared.fault.StreamFault.{StreamFault}
use Rattle.tl_stream.specs.declared.fault.StreamFault.TheVariants as fault
use Rattle.tl_stream.specs.declared.front.Front.{Front}
use Rattle.tl_stream.specs.declared.past.Past.{Past}
use Rattle.tl_stream.proofs.FrontLemmas.{IsNewer, newest_is, front_elsewhere, complete_is_reached}
use Rattle.tl_stream.proofs.StreamLemmas.{HasSet, newer_is, cause_is, is_absent, is_free, has_come, accepted_in, accepts_it, own_rows, still_present}
use Rattle.tl_stream.proofs.LawLemmas.{telling_is_whole, whole_linked}

-- ---- items of lists

pub get_set : {X : Type 0} (xs : List X) (i : ℕ) (v : X) → i < length xs → slice_get (set xs i v) i ≡ Some v
get_set xs i v below = slice_get-get_or (set xs i v) i v (simp length-set below) ∙ ap Some (get_or-set_same xs i v v below)

pub get_other : {X : Type 0} (xs : List X) (i j : ℕ) (v : X) → j ≢ i → slice_get (set xs i v) j ≡ slice_get xs j
get_other xs i j v ne =
    elim (nat_lt j (length xs)) as (λ b. nat_lt j (length xs) ≡ b → slice_get (set xs i v) j ≡ slice_get xs j) [
      | true ↦ λ h. let within : j < length xs = grind (arith, nat_tests) in
          slice_get-get_or (set xs i v) j v (simp length-set (omega arith)) ∙ ap Some (get_or-set_other xs i j v v ne) ∙ sym (slice_get-get_or xs j v within)
      | false ↦ λ h. let past : length xs ≤ j = grind (arith, nat_tests) in
          slice_get_past (set xs i v) j (simp length-set (omega arith)) ∙ sym (slice_get_past xs j past)
    ] refl

pub has_state : (o : Option Past) → is_none o ≡ false → (s : Past) × (o ≡ Some s)
has_state None h = cc
has_state (Some s) h = (s, refl)

pub some_state : (o : Option Past) → is_some o ≡ true → (s : Past) × (o ≡ Some s)
some_state None h = cc
some_state (Some s) h = (s, refl)

-- What holds of values holds of those that are the same.
module _ (topo other_topo : Topology) (areas other_areas : List Area) (fronts other_fronts : List (Option Front)) (waiting other_waiting : List Recorded) (fs : List Recorded) (course : Course)
    (one : topo ≡ other_topo) (two : areas ≡ other_areas) (three : fronts ≡ other_fronts) (four : waiting ≡ other_waiting) (come : HasCome topo areas fs fronts waiting course) where
  there : HasCome other_topo other_areas fs other_fronts other_waiting course
  there = subst (λ w. HasCome other_topo other_areas fs other_fronts w course) four (subst (λ f. HasCome other_topo other_areas fs f waiting course) three
      (subst (λ a. HasCome other_topo a fs fronts waiting course) two (subst (λ t. HasCome t areas fs fronts waiting course) one come)))

  pub moved_advance : (after : Course) (left : List Recorded) → (HasCome other_topo other_areas fs other_fronts other_waiting course → Advances other_topo other_areas fs course other_waiting after left)
      → Advances topo areas fs course waiting after left
  moved_advance after left all = subst (λ t. Advances t areas fs course waiting after left) (sym one) (subst (λ a. Advances other_topo a fs course waiting after left) (sym two)
      (subst (λ w. Advances other_topo other_areas fs course w after left) (sym four) (all there)))

  pub moved_rows : (rows : List Row) → (HasCome other_topo other_areas fs other_fronts other_waiting course → AreNewRows other_topo other_areas fs course rows) → AreNewRows topo areas fs course rows
  moved_rows rows all = subst (λ t. AreNewRows t areas fs course rows) (sym one) (subst (λ a. AreNewRows other_topo a fs course rows) (sym two) (all there))

-- ---- refusals

pub fresh : (fs : List Recorded) (s : StreamData) (link : ℕ) (f : Frag) (front : Option Front) → HasAccepted fs s → front ≡ front_at s.fronts link → refusal_of front f ≡ None → IsNewer fs (recorded link f)
fresh fs s link f front has at free = newer_is fs link f front (subst (IsFrontOf link fs) (sym at) (has.fronts link)) free

refuses : (fs : List Recorded) (s : StreamData) (f : Frag) (e : StreamFault) → IsCause fs s.topo f e → Refuses fs s f e s
refuses fs s f fault.UnknownLink is = (is, refl)
refuses fs s f fault.NumberNotAbove is = (is, refl)
refuses fs s f (fault.RangeNotAfter number) is = (is, refl)
refuses fs s f fault.Memory is = refl

pub refused : (fs : List Recorded) (s : StreamData) (link : ℕ) (f : Frag) (front : Option Front) (e : StreamFault) → HasAccepted fs s → number_of_name s.topo.links f.link ≡ Some link → front ≡ front_at s.fronts link
    → refusal_of front f ≡ Some e → Refuses fs s f e s
refused fs s link f front e has named at is = refuses fs s f e (cause_is fs s.topo link f front e named (subst (IsFrontOf link fs) (sym at) (has.fronts link)) is)

pub room_for : (fs : List Recorded) (s : StreamData) (f : Recorded) → HasAccepted fs s → IsNewer fs f → (numbered f.link f.number s.waiting ≡ None) × (overlapped f s.waiting ≡ None)
room_for fs s f has newer = (is_absent s.waiting f (λ g h of. newer g (has.among g h) of), is_free s.waiting f (λ g h of. newer g (has.among g h) of))

-- ---- the fragment comes in

-- What a fragment keeps of cycles.
pub record IsTimed (f : Frag) : Type 0 where
  pub order : f.first ≤ f.last
  pub last : f.last < 2 ^ 64
  pub beats : AreBeats f.first f.last f.beats

-- The fragment that was put among others that are present keeps it.
pub timed : (link last : ℕ) (f g : Frag) (old new : List Recorded) → g ≡ f → new ≡ put_in (recorded link g) old → IsPresent new → last ≡ f.last → last < 2 ^ 64 → IsTimed f
timed link last f g old new same put present is short =
    let here : Contains new (recorded link g) = subst (λ fs. Contains fs (recorded link g)) (sym put) (put_here (recorded link g) old) in
    let own : IsCapture (recorded link f) = subst (λ (h : Frag). IsCapture (recorded link h)) same (All-contains IsCapture new (recorded link g) present.each here) in
    record { order = own.order; last = subst (λ n. n < 2 ^ 64) is short; beats = own.beats }

module _ (old : StreamData) (link : ℕ) (f : Frag) (decl : LinkDecl) (course : Course) (front : Front) (named : number_of_name old.topo.links f.link ≡ Some link) (declared : slice_get (declared_links old.topo) link ≡ Some decl)
    (is : IsTimed f) (at : course_at old decl.manager ≡ Some course) (number : front.number ≡ f.number) (last : front.last ≡ f.last) (within : link < length old.fronts) (fs : List Recorded) (has : HasAccepted fs old)
    (newer : IsNewer fs (recorded link f)) where
  on : IsOn old.topo link decl.manager
  on = declared_is_client decl.manager link (declared_links old.topo) decl declared refl

  own : IsCapture (recorded link f)
  own = record { order = is.order; beats = is.beats }

  short : f.first < 2 ^ 64
  short = let order = is.order in let least = is.last in omega (arith, order, least)

  fronts_come : (l : ℕ) → IsFrontOf l (put_in (recorded link f) fs) (front_at (set old.fronts link (Some front)) l)
  fronts_come l = elim (l == link) as (λ t. (l == link) ≡ t → IsFrontOf l (put_in (recorded link f) fs) (front_at (set old.fronts link (Some front)) l)) [
    | true ↦ λ e. (let same : link ≡ l = grind (arith, nat_tests) in
        subst (λ n. IsFrontOf n (put_in (recorded link f) fs) (front_at (set old.fronts link (Some front)) n)) same
        (subst (IsFrontOf link (put_in (recorded link f) fs)) (sym (ap (option_and_then (λ (o : Option Front). o)) (get_set old.fronts link (Some front) within))) (newest_is fs (recorded link f) front newer number last is.order)))
    | false ↦ λ e. (let other : l ≢ link = λ same. (let wrong : true ≡ false = grind (arith, nat_tests) in cc) in
        subst (IsFrontOf l (put_in (recorded link f) fs)) (sym (ap (option_and_then (λ (o : Option Front). o)) (get_other old.fronts link l (Some front) other)))
        (front_elsewhere fs (recorded link f) l (front_at old.fronts l) (λ same. other (sym same)) (has.fronts l)))
  ] refl

  pub come_in : HasCome old.topo (areas_in old course.manager) (put_in (recorded link f) fs) (set old.fronts link (Some front)) (put_in (recorded link f) old.waiting) course
  come_in = has_come old fs has link decl.manager f named on own short newer course at (set old.fronts link (Some front)) fronts_come

  module _ (after : Course) (waiting : List Recorded)
      (advanced : Advances old.topo (areas_in old course.manager) (put_in (recorded link f) fs) course (put_in (recorded link f) old.waiting) after waiting) where
    abbrev pub with_it : StreamData
    with_it = record { topo = old.topo; regions = old.regions; midway = old.midway; fronts = set old.fronts link (Some front); waiting = waiting; courses = set old.courses decl.manager after }

    its_place : decl.manager < length old.courses
    its_place = slice_get_within old.courses decl.manager course at

    its_courses : HasSet decl.manager after old.courses (set old.courses decl.manager after)
    its_courses k c here = elim (k == decl.manager) as (λ t. (k == decl.manager) ≡ t → ((k ≡ decl.manager) × (c ≡ after)) ⊎ ((k ≡ decl.manager → ⊥) × (slice_get old.courses k ≡ Some c))) [
      | true ↦ λ e. (let same : k ≡ decl.manager = grind (arith, nat_tests) in
          inl (same, some_is c after (sym here ∙ ap (slice_get (set old.courses decl.manager after)) same ∙ get_set old.courses decl.manager after its_place)))
      | false ↦ λ e. (let other : k ≢ decl.manager = λ same. (let wrong : true ≡ false = grind (arith, nat_tests) in cc) in
          inr (other, sym (get_other old.courses decl.manager k after other) ∙ here))
    ] refl
      where
        some_is : (one two : Course) → Some one ≡ Some two → one ≡ two
        some_is one two e = cc

    pub accepted : HasAccepted (put_in (recorded link f) fs) with_it
    accepted = accepted_in old fs has link decl.manager f named on own short newer course at with_it after refl refl refl fronts_come (length-set old.fronts link (Some front)) (length-set old.courses decl.manager after)
        its_courses advanced.present advanced

    -- What it tells.
    pub accepts : (rows : List Row) (state : Past) → course.state ≡ Some state → AreNewRows old.topo (areas_in old course.manager) (put_in (recorded link f) fs) course rows → Accepts fs old f with_it rows
    accepts rows state here found = accepts_it old fs has link decl.manager f named on own short newer course at with_it after refl refl refl fronts_come (length-set old.fronts link (Some front)) (length-set old.courses decl.manager after)
        its_courses advanced.present advanced rows state here found

    -- Its rows are of links of the topology.
    pub linked : (rows : List Row) (state : Past) → course.state ≡ Some state → AreNewRows old.topo (areas_in old course.manager) (put_in (recorded link f) fs) course rows → All (λ row. row.link < length old.topo.links) rows
    linked rows state here found k d below =
        let come : List Recorded = put_in (recorded link f) fs in
        let row : Row = get_or rows k d in
        let now : Contains (told_by old come decl.manager) row = subst (λ rs. Contains rs row) (sym (own_rows old fs has link decl.manager f named on own short newer course at with_it after refl refl refl fronts_come
        (length-set old.fronts link (Some front)) (length-set old.courses decl.manager after) its_courses advanced.present advanced rows state here found)) (Contains-append_right (told_by old fs decl.manager) rows row (Contains-get_or rows k d below)) in
        whole_linked old.midway old.topo (areas_in old) come decl.manager row (still_present old fs has link decl.manager f named on own short newer course at)
        (subst (λ rs. Contains rs row) (telling_is_whole old.midway old.topo (areas_in old) come decl.manager (still_present old fs has link decl.manager f named on own short newer course at))
        (Contains-append_left (told_by old come decl.manager) (untold old.topo (areas_in old) come decl.manager old.midway) row now))

-- ---- what is complete

pub through : (s : StreamData) (fs : List Recorded) (link manager : ℕ) (own decl : LinkDecl) (course : Course) (found : Option ℕ) → HasAccepted fs s → slice_get (declared_links s.topo) link ≡ Some own
    → slice_get (declared_links s.topo) link ≡ Some decl → manager ≡ own.manager → course_at s manager ≡ Some course
    → ((cycle : ℕ) → cycle < 2 ^ 64 → list_all (has_reached s.fronts cycle) course.links.items ≡ nat_lt cycle (past found)) → (cycle : ℕ) → cycle < 2 ^ 64
    → is_complete (clients_of decl.manager (declared_links s.topo)) fs cycle ≡ nat_lt cycle (past found)
through s fs link manager own decl course found has here there of at reached cycle short =
    let same : own ≡ decl = same_Some _ _ (sym here ∙ there) in
    let mine : course.manager ≡ decl.manager = has.courses.own manager course at ∙ of ∙ ap (λ (l : LinkDecl). l.manager) same in
    let links : course.links.items ≡ clients_of decl.manager (declared_links s.topo) = (has.courses.each manager course at).running.links ∙ ap (λ m. clients_of m (declared_links s.topo)) mine in
    ap (λ ls. is_complete ls fs cycle) (sym links) ∙ complete_is_reached fs s.fronts course.links.items cycle has.fronts ∙ reached cycle short
