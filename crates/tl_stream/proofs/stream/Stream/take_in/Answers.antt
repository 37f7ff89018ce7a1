use Rattle.std.proofs.Common.{◌≡◌, ℕ, ◌<◌, List, length, Global, Vec, Err, Some, None, sym, ap, subst, ◌∙◌, arith}
use Rattle.std.specs.Prelude.{slice_get, IfSome}
use Rattle.std.proofs.Math.ListN.{set}
use Rattle.std.specs.Arc.{arc_value}
use Rattle.std.specs.Option.{option_map, option_copied}
use Rattle.std.specs.Result.{IsErrOf}
use Rattle.std.proofs.lemmas.Option.{slice_get-map, slice_get-get_or}
use Rattle.tl_topology.specs.Topology.{Topology, number_of_name}
use Rattle.tl_topology.specs.declared.LinkDecl.{LinkDecl}
use Rattle.tl_beats.specs.Fragments.{Frag}
use Rattle.tl_beats.specs.declared.Row.{Row}
use Rattle.tl_definitions.specs.Managers.{declared_links}
use Rattle.tl_definitions.specs.Positions.{Recorded}
use Rattle.tl_check.specs.Captured.{areas_at}
use Rattle.tl_capture.specs.Present.{recorded, numbered, overlapped, put_in}
use Rattle.tl_stream.specs.Courses.{IsRunning}
use Rattle.tl_stream.specs.Fronts.{front_at, refusal_of}
use Rattle.tl_stream.specs.Streams.{StreamData, HasAccepted, Accepts, Refuses, areas_in, course_at}
use Rattle.tl_stream.specs.declared.course.Course.{Course}
use Rattle.tl_stream.specs.declared.fault.StreamFault.{StreamFault}
use Rattle.tl_stream.specs.declared.front.Front.{Front}
use Rattle.tl_stream.proofs.AcceptLemmas as lemmas
use Rattle.tl_stream.proofs.AcceptLemmas.{IsTimed, timed, fresh, refused, room_for}
use Rattle.tl_stream.proofs.stream.Stream.take_in.Goals as goal

err_is : (x e : StreamFault) → IsErrOf {T = Vec Row Global} (Err x) e → x ≡ e
err_is x e is = cc

pub returns-in-Some-refusal-clause-err : goal.returns-in-Some-refusal-clause-err
returns-in-Some-refusal-clause-err c fs e has is =
    let old : StreamData = record { topo = arc_value c.self.inside.topo; regions = c.self.inside.regions.items; midway = c.self.inside.midway; fronts = c.self.inside.fronts.items; waiting = c.self.inside.waiting; courses = c.self.inside.courses.items } in
    let link : ℕ = c.in-Some.link in
    let f : Frag = c.args.fragment.now in
    let at : c.front_of.result ≡ front_at old.fronts link = c.front_of.ensures ∙ ap (λ fronts. front_at fronts link) c.deref-2.ensures.value in
    let named : number_of_name old.topo.links f.link ≡ Some link =
    ap (λ (t : Topology). number_of_name t.links f.link) (sym c.deref.ensures) ∙ ap (number_of_name c.deref.result.now.links) (sym c.link.ensures) ∙ sym c.link_of.ensures.exact ∙ c.in-Some.is in
    subst (λ s. Refuses fs s f e s) c.self.view_is
    (refused fs old link f c.front_of.result e (subst (HasAccepted fs) (sym c.self.view_is) has) named at (sym c.refusal.ensures ∙ c.in-Some-refusal.is ∙ ap Some (err_is c.in-Some-refusal.fault e is)))

pub put-requires-clause-absent : goal.put-requires-clause-absent
put-requires-clause-absent c =
    let old : StreamData = record { topo = arc_value c.self.inside.topo; regions = c.self.inside.regions.items; midway = c.self.inside.midway; fronts = c.self.inside.fronts.items; waiting = c.self.inside.waiting; courses = c.self.inside.courses.items } in
    let link : ℕ = c.in-Some.link in
    let f : Frag = c.args.fragment.now in
    let at : c.front_of.result ≡ front_at old.fronts link = c.front_of.ensures ∙ ap (λ fronts. front_at fronts link) c.deref-2.ensures.value in
    let named : number_of_name old.topo.links f.link ≡ Some link =
    ap (λ (t : Topology). number_of_name t.links f.link) (sym c.deref.ensures) ∙ ap (number_of_name c.deref.result.now.links) (sym c.link.ensures) ∙ sym c.link_of.ensures.exact ∙ c.in-Some.is in
    let fs : List Recorded = c.self.invariant.0 in
    let has : HasAccepted fs old = c.self.invariant.1 in
    let free : refusal_of c.front_of.result f ≡ None = sym c.refusal.ensures ∙ c.in_default-refusal.is in
    subst (λ (g : Frag). numbered link g.number old.waiting ≡ None) (sym c.requires) (room_for fs old (recorded link f) has (fresh fs old link f c.front_of.result has at free)).0

pub put-requires-clause-free : goal.put-requires-clause-free
put-requires-clause-free c =
    let old : StreamData = record { topo = arc_value c.self.inside.topo; regions = c.self.inside.regions.items; midway = c.self.inside.midway; fronts = c.self.inside.fronts.items; waiting = c.self.inside.waiting; courses = c.self.inside.courses.items } in
    let link : ℕ = c.in-Some.link in
    let f : Frag = c.args.fragment.now in
    let at : c.front_of.result ≡ front_at old.fronts link = c.front_of.ensures ∙ ap (λ fronts. front_at fronts link) c.deref-2.ensures.value in
    let named : number_of_name old.topo.links f.link ≡ Some link =
    ap (λ (t : Topology). number_of_name t.links f.link) (sym c.deref.ensures) ∙ ap (number_of_name c.deref.result.now.links) (sym c.link.ensures) ∙ sym c.link_of.ensures.exact ∙ c.in-Some.is in
    let fs : List Recorded = c.self.invariant.0 in
    let has : HasAccepted fs old = c.self.invariant.1 in
    let free : refusal_of c.front_of.result f ≡ None = sym c.refusal.ensures ∙ c.in_default-refusal.is in
    subst (λ (g : Frag). overlapped (recorded link g) old.waiting ≡ None) (sym c.requires) (room_for fs old (recorded link f) has (fresh fs old link f c.front_of.result has at free)).1

pub advance-requires : goal.advance-requires
advance-requires c =
    let old : StreamData = record { topo = arc_value c.self.inside.topo; regions = c.self.inside.regions.items; midway = c.self.inside.midway; fronts = c.self.inside.fronts.items; waiting = c.self.inside.waiting; courses = c.self.inside.courses.items } in
    let link : ℕ = c.in-Some.link in
    let f : Frag = c.args.fragment.now in
    let at : c.front_of.result ≡ front_at old.fronts link = c.front_of.ensures ∙ ap (λ fronts. front_at fronts link) c.deref-2.ensures.value in
    let named : number_of_name old.topo.links f.link ≡ Some link =
    ap (λ (t : Topology). number_of_name t.links f.link) (sym c.deref.ensures) ∙ ap (number_of_name c.deref.result.now.links) (sym c.link.ensures) ∙ sym c.link_of.ensures.exact ∙ c.in-Some.is in
    let fs : List Recorded = c.self.invariant.0 in
    let has : HasAccepted fs old = c.self.invariant.1 in
    let decl : LinkDecl = c.unwrap.result.now in
    let managed : decl.manager < length c.deref-3.result.now.managers = subst (λ o. IfSome o (λ l. l.now.manager < length c.deref-3.result.now.managers)) c.unwrap.ensures c.link-2.ensures.managed in
    let many = ap (λ (t : Topology). length t.managers) c.deref-3.ensures in
    let count = has.courses.count in
    let below : c.from-2.result < length old.courses = (let place : c.from-2.result ≡ decl.manager = c.from-2.ensures in omega (arith, managed, many, count, place)) in
    let course : Course = c.index_mut-course.result.now in
    let there : course_at old c.from-2.result ≡ Some course = slice_get-get_or old.courses c.from-2.result course below ∙ ap Some (sym c.index_mut-course.ensures.value) in
    subst (λ t. IsRunning t (areas_at c.deref-5.result.now course.manager) course) (sym c.deref-4.ensures)
    (subst (λ rs. IsRunning old.topo (areas_at rs course.manager) course) (sym c.deref-5.ensures.value)
    (subst (λ n. IsRunning old.topo (areas_at old.regions n) course) (sym (has.courses.own c.from-2.result course there)) (has.courses.each c.from-2.result course there).running))

pub invariant_of-self-in_err-rows : goal.invariant_of-self-in_err-rows
invariant_of-self-in_err-rows c =
    let old : StreamData = record { topo = arc_value c.self.inside.topo; regions = c.self.inside.regions.items; midway = c.self.inside.midway; fronts = c.self.inside.fronts.items; waiting = c.self.inside.waiting; courses = c.self.inside.courses.items } in
    let link : ℕ = c.in-Some.link in
    let f : Frag = c.args.fragment.now in
    let at : c.front_of.result ≡ front_at old.fronts link = c.front_of.ensures ∙ ap (λ fronts. front_at fronts link) c.deref-2.ensures.value in
    let named : number_of_name old.topo.links f.link ≡ Some link =
    ap (λ (t : Topology). number_of_name t.links f.link) (sym c.deref.ensures) ∙ ap (number_of_name c.deref.result.now.links) (sym c.link.ensures) ∙ sym c.link_of.ensures.exact ∙ c.in-Some.is in
    let fs : List Recorded = c.self.invariant.0 in
    let has : HasAccepted fs old = c.self.invariant.1 in
    let free : refusal_of c.front_of.result f ≡ None = sym c.refusal.ensures ∙ c.in_default-refusal.is in
    let decl : LinkDecl = c.unwrap.result.now in
    let managed : decl.manager < length c.deref-3.result.now.managers = subst (λ o. IfSome o (λ l. l.now.manager < length c.deref-3.result.now.managers)) c.unwrap.ensures c.link-2.ensures.managed in
    let many = ap (λ (t : Topology). length t.managers) c.deref-3.ensures in
    let count = has.courses.count in
    let below : c.from-2.result < length old.courses = (let place : c.from-2.result ≡ decl.manager = c.from-2.ensures in omega (arith, managed, many, count, place)) in
    let course : Course = c.index_mut-course.result.now in
    let there : course_at old c.from-2.result ≡ Some course = slice_get-get_or old.courses c.from-2.result course below ∙ ap Some (sym c.index_mut-course.ensures.value) in
    let declared : slice_get (declared_links old.topo) link ≡ Some decl =
    slice_get-map (λ p. p.1) old.topo.links link ∙ ap (λ (t : Topology). option_map (λ (p : List ℕ × LinkDecl). p.1) (slice_get t.links link)) (sym c.deref-3.ensures) ∙ sym c.link-2.ensures.exact ∙ ap option_copied c.unwrap.ensures in
    let front : Front = record { number = c.number.result; last = c.last.result } in
    let is : IsTimed f = timed link c.last.result f (arc_value c.args.shared) old.waiting c.put.new.self c.requires c.in_ok-put.ensures.ok c.is_empty.ensures.kept c.last.ensures.exact c.last.type_inv in
    let its : course_at old decl.manager ≡ Some course = subst (λ k. course_at old k ≡ Some course) c.from-2.ensures there in
    let within : link < length old.fronts = (let less = c.in-Some.ensures.within in let links = ap (λ (t : Topology). length t.links) c.deref.ensures in let all = has.links in omega (arith, less, links, all)) in
    let newer = fresh fs old link f c.front_of.result has at free in
    let come : List Recorded = put_in (recorded link f) fs in
    let coming = lemmas.come_in old link f decl course front named declared is its c.number.ensures c.last.ensures.exact within fs has newer in
    let fronts : set old.fronts link (Some front) ≡ c.deref-6.result.now = ap (λ k. set old.fronts k (Some front)) (sym c.from.ensures) ∙ sym c.deref-6.ensures.value in
    let waiting : put_in (recorded link f) old.waiting ≡ c.put.new.self = ap (λ (g : Frag). put_in (recorded link g) old.waiting) (sym c.requires) ∙ sym c.in_ok-put.ensures.ok in
    let advanced = lemmas.moved_advance old.topo c.deref-4.result.now (areas_in old course.manager) (areas_at c.deref-5.result.now course.manager) (set old.fronts link (Some front)) c.deref-6.result.now
    (put_in (recorded link f) old.waiting) c.put.new.self come course (sym c.deref-4.ensures) (ap (λ rs. areas_at rs course.manager) (sym c.deref-5.ensures.value)) fronts waiting coming
    c.advance.new.course c.advance.new.waiting (c.advance.ensures.all come) in (
      come,
      subst (λ k. HasAccepted come (record { topo = old.topo; regions = old.regions; midway = old.midway; fronts = set old.fronts k (Some front); waiting = c.advance.new.waiting; courses = set old.courses c.from-2.result c.advance.new.course })) (sym c.from.ensures)
          (subst (λ k. HasAccepted come (record { topo = old.topo; regions = old.regions; midway = old.midway; fronts = set old.fronts link (Some front); waiting = c.advance.new.waiting; courses = set old.courses k c.advance.new.course })) (sym c.from-2.ensures)
          (lemmas.accepted old link f decl course front named declared is its c.number.ensures c.last.ensures.exact within fs has newer c.advance.new.course c.advance.new.waiting advanced)),
    )

pub invariant_of-self-2 : goal.invariant_of-self-2
invariant_of-self-2 c =
    let old : StreamData = record { topo = arc_value c.self.inside.topo; regions = c.self.inside.regions.items; midway = c.self.inside.midway; fronts = c.self.inside.fronts.items; waiting = c.self.inside.waiting; courses = c.self.inside.courses.items } in
    let link : ℕ = c.in-Some.link in
    let f : Frag = c.args.fragment.now in
    let at : c.front_of.result ≡ front_at old.fronts link = c.front_of.ensures ∙ ap (λ fronts. front_at fronts link) c.deref-2.ensures.value in
    let named : number_of_name old.topo.links f.link ≡ Some link =
    ap (λ (t : Topology). number_of_name t.links f.link) (sym c.deref.ensures) ∙ ap (number_of_name c.deref.result.now.links) (sym c.link.ensures) ∙ sym c.link_of.ensures.exact ∙ c.in-Some.is in
    let fs : List Recorded = c.self.invariant.0 in
    let has : HasAccepted fs old = c.self.invariant.1 in
    let free : refusal_of c.front_of.result f ≡ None = sym c.refusal.ensures ∙ c.in_default-refusal.is in
    let decl : LinkDecl = c.unwrap.result.now in
    let managed : decl.manager < length c.deref-3.result.now.managers = subst (λ o. IfSome o (λ l. l.now.manager < length c.deref-3.result.now.managers)) c.unwrap.ensures c.link-2.ensures.managed in
    let many = ap (λ (t : Topology). length t.managers) c.deref-3.ensures in
    let count = has.courses.count in
    let below : c.from-2.result < length old.courses = (let place : c.from-2.result ≡ decl.manager = c.from-2.ensures in omega (arith, managed, many, count, place)) in
    let course : Course = c.index_mut-course.result.now in
    let there : course_at old c.from-2.result ≡ Some course = slice_get-get_or old.courses c.from-2.result course below ∙ ap Some (sym c.index_mut-course.ensures.value) in
    let declared : slice_get (declared_links old.topo) link ≡ Some decl =
    slice_get-map (λ p. p.1) old.topo.links link ∙ ap (λ (t : Topology). option_map (λ (p : List ℕ × LinkDecl). p.1) (slice_get t.links link)) (sym c.deref-3.ensures) ∙ sym c.link-2.ensures.exact ∙ ap option_copied c.unwrap.ensures in
    let front : Front = record { number = c.number.result; last = c.last.result } in
    let is : IsTimed f = timed link c.last.result f (arc_value c.args.shared) old.waiting c.put.new.self c.requires c.in_ok-put.ensures.ok c.is_empty.ensures.kept c.last.ensures.exact c.last.type_inv in
    let its : course_at old decl.manager ≡ Some course = subst (λ k. course_at old k ≡ Some course) c.from-2.ensures there in
    let within : link < length old.fronts = (let less = c.in-Some.ensures.within in let links = ap (λ (t : Topology). length t.links) c.deref.ensures in let all = has.links in omega (arith, less, links, all)) in
    let newer = fresh fs old link f c.front_of.result has at free in
    let come : List Recorded = put_in (recorded link f) fs in
    let coming = lemmas.come_in old link f decl course front named declared is its c.number.ensures c.last.ensures.exact within fs has newer in
    let fronts : set old.fronts link (Some front) ≡ c.deref-6.result.now = ap (λ k. set old.fronts k (Some front)) (sym c.from.ensures) ∙ sym c.deref-6.ensures.value in
    let waiting : put_in (recorded link f) old.waiting ≡ c.put.new.self = ap (λ (g : Frag). put_in (recorded link g) old.waiting) (sym c.requires) ∙ sym c.in_ok-put.ensures.ok in
    let advanced = lemmas.moved_advance old.topo c.deref-4.result.now (areas_in old course.manager) (areas_at c.deref-5.result.now course.manager) (set old.fronts link (Some front)) c.deref-6.result.now
    (put_in (recorded link f) old.waiting) c.put.new.self come course (sym c.deref-4.ensures) (ap (λ rs. areas_at rs course.manager) (sym c.deref-5.ensures.value)) fronts waiting coming
    c.advance.new.course c.advance.new.waiting (c.advance.ensures.all come) in (
      come,
      subst (λ k. HasAccepted come (record { topo = old.topo; regions = old.regions; midway = old.midway; fronts = set old.fronts k (Some front); waiting = c.advance.new.waiting; courses = set old.courses c.from-2.result c.advance.new.course })) (sym c.from.ensures)
          (subst (λ k. HasAccepted come (record { topo = old.topo; regions = old.regions; midway = old.midway; fronts = set old.fronts link (Some front); waiting = c.advance.new.waiting; courses = set old.courses k c.advance.new.course })) (sym c.from-2.ensures)
          (lemmas.accepted old link f decl course front named declared is its c.number.ensures c.last.ensures.exact within fs has newer c.advance.new.course c.advance.new.waiting advanced)),
    )

pub returns-clause-ok : goal.returns-clause-ok
returns-clause-ok c fs had =
    let old : StreamData = record { topo = arc_value c.self.inside.topo; regions = c.self.inside.regions.items; midway = c.self.inside.midway; fronts = c.self.inside.fronts.items; waiting = c.self.inside.waiting; courses = c.self.inside.courses.items } in
    let link : ℕ = c.in-Some.link in
    let f : Frag = c.args.fragment.now in
    let at : c.front_of.result ≡ front_at old.fronts link = c.front_of.ensures ∙ ap (λ fronts. front_at fronts link) c.deref-2.ensures.value in
    let named : number_of_name old.topo.links f.link ≡ Some link =
    ap (λ (t : Topology). number_of_name t.links f.link) (sym c.deref.ensures) ∙ ap (number_of_name c.deref.result.now.links) (sym c.link.ensures) ∙ sym c.link_of.ensures.exact ∙ c.in-Some.is in
    let has : HasAccepted fs old = subst (HasAccepted fs) (sym c.self.view_is) had in
    let free : refusal_of c.front_of.result f ≡ None = sym c.refusal.ensures ∙ c.in_default-refusal.is in
    let decl : LinkDecl = c.unwrap.result.now in
    let managed : decl.manager < length c.deref-3.result.now.managers = subst (λ o. IfSome o (λ l. l.now.manager < length c.deref-3.result.now.managers)) c.unwrap.ensures c.link-2.ensures.managed in
    let many = ap (λ (t : Topology). length t.managers) c.deref-3.ensures in
    let count = has.courses.count in
    let below : c.from-2.result < length old.courses = (let place : c.from-2.result ≡ decl.manager = c.from-2.ensures in omega (arith, managed, many, count, place)) in
    let course : Course = c.index_mut-course.result.now in
    let there : course_at old c.from-2.result ≡ Some course = slice_get-get_or old.courses c.from-2.result course below ∙ ap Some (sym c.index_mut-course.ensures.value) in
    let declared : slice_get (declared_links old.topo) link ≡ Some decl =
    slice_get-map (λ p. p.1) old.topo.links link ∙ ap (λ (t : Topology). option_map (λ (p : List ℕ × LinkDecl). p.1) (slice_get t.links link)) (sym c.deref-3.ensures) ∙ sym c.link-2.ensures.exact ∙ ap option_copied c.unwrap.ensures in
    let front : Front = record { number = c.number.result; last = c.last.result } in
    let is : IsTimed f = timed link c.last.result f (arc_value c.args.shared) old.waiting c.put.new.self c.requires c.in_ok-put.ensures.ok c.is_empty.ensures.kept c.last.ensures.exact c.last.type_inv in
    let its : course_at old decl.manager ≡ Some course = subst (λ k. course_at old k ≡ Some course) c.from-2.ensures there in
    let within : link < length old.fronts = (let less = c.in-Some.ensures.within in let links = ap (λ (t : Topology). length t.links) c.deref.ensures in let all = has.links in omega (arith, less, links, all)) in
    let newer = fresh fs old link f c.front_of.result has at free in
    let come : List Recorded = put_in (recorded link f) fs in
    let coming = lemmas.come_in old link f decl course front named declared is its c.number.ensures c.last.ensures.exact within fs has newer in
    let fronts : set old.fronts link (Some front) ≡ c.deref-6.result.now = ap (λ k. set old.fronts k (Some front)) (sym c.from.ensures) ∙ sym c.deref-6.ensures.value in
    let waiting : put_in (recorded link f) old.waiting ≡ c.put.new.self = ap (λ (g : Frag). put_in (recorded link g) old.waiting) (sym c.requires) ∙ sym c.in_ok-put.ensures.ok in
    let advanced = lemmas.moved_advance old.topo c.deref-4.result.now (areas_in old course.manager) (areas_at c.deref-5.result.now course.manager) (set old.fronts link (Some front)) c.deref-6.result.now
    (put_in (recorded link f) old.waiting) c.put.new.self come course (sym c.deref-4.ensures) (ap (λ rs. areas_at rs course.manager) (sym c.deref-5.ensures.value)) fronts waiting coming
    c.advance.new.course c.advance.new.waiting (c.advance.ensures.all come) in
    let rows = lemmas.moved_rows old.topo c.deref-4.result.now (areas_in old course.manager) (areas_at c.deref-5.result.now course.manager) (set old.fronts link (Some front)) c.deref-6.result.now
    (put_in (recorded link f) old.waiting) c.put.new.self come course (sym c.deref-4.ensures) (ap (λ rs. areas_at rs course.manager) (sym c.deref-5.ensures.value)) fronts waiting coming
    c.in_ok-rows.rows.items (c.in_ok-rows.ensures.ok come) in
    let state = lemmas.some_state course.state c.in_ok-rows.ensures.run in
    subst (λ s. Accepts fs s f (record { topo = old.topo; regions = old.regions; midway = old.midway; fronts = set old.fronts c.from.result (Some front); waiting = c.advance.new.waiting; courses = set old.courses c.from-2.result c.advance.new.course }) c.in_ok-rows.rows.items) c.self.view_is
    (subst (λ k. Accepts fs old f (record { topo = old.topo; regions = old.regions; midway = old.midway; fronts = set old.fronts k (Some front); waiting = c.advance.new.waiting; courses = set old.courses c.from-2.result c.advance.new.course }) c.in_ok-rows.rows.items) (sym c.from.ensures)
    (subst (λ k. Accepts fs old f (record { topo = old.topo; regions = old.regions; midway = old.midway; fronts = set old.fronts link (Some front); waiting = c.advance.new.waiting; courses = set old.courses k c.advance.new.course }) c.in_ok-rows.rows.items) (sym c.from-2.ensures)
    (lemmas.accepts old link f decl course front named declared is its c.number.ensures c.last.ensures.exact within fs has newer c.advance.new.course c.advance.new.waiting advanced c.in_ok-rows.rows.items state.0 state.1 rows)))

pub returns-clause-links : goal.returns-clause-links
returns-clause-links c =
    let old : StreamData = record { topo = arc_value c.self.inside.topo; regions = c.self.inside.regions.items; midway = c.self.inside.midway; fronts = c.self.inside.fronts.items; waiting = c.self.inside.waiting; courses = c.self.inside.courses.items } in
    let link : ℕ = c.in-Some.link in
    let f : Frag = c.args.fragment.now in
    let at : c.front_of.result ≡ front_at old.fronts link = c.front_of.ensures ∙ ap (λ fronts. front_at fronts link) c.deref-2.ensures.value in
    let named : number_of_name old.topo.links f.link ≡ Some link =
    ap (λ (t : Topology). number_of_name t.links f.link) (sym c.deref.ensures) ∙ ap (number_of_name c.deref.result.now.links) (sym c.link.ensures) ∙ sym c.link_of.ensures.exact ∙ c.in-Some.is in
    let fs : List Recorded = c.self.invariant.0 in
    let has : HasAccepted fs old = c.self.invariant.1 in
    let free : refusal_of c.front_of.result f ≡ None = sym c.refusal.ensures ∙ c.in_default-refusal.is in
    let decl : LinkDecl = c.unwrap.result.now in
    let managed : decl.manager < length c.deref-3.result.now.managers = subst (λ o. IfSome o (λ l. l.now.manager < length c.deref-3.result.now.managers)) c.unwrap.ensures c.link-2.ensures.managed in
    let many = ap (λ (t : Topology). length t.managers) c.deref-3.ensures in
    let count = has.courses.count in
    let below : c.from-2.result < length old.courses = (let place : c.from-2.result ≡ decl.manager = c.from-2.ensures in omega (arith, managed, many, count, place)) in
    let course : Course = c.index_mut-course.result.now in
    let there : course_at old c.from-2.result ≡ Some course = slice_get-get_or old.courses c.from-2.result course below ∙ ap Some (sym c.index_mut-course.ensures.value) in
    let declared : slice_get (declared_links old.topo) link ≡ Some decl =
    slice_get-map (λ p. p.1) old.topo.links link ∙ ap (λ (t : Topology). option_map (λ (p : List ℕ × LinkDecl). p.1) (slice_get t.links link)) (sym c.deref-3.ensures) ∙ sym c.link-2.ensures.exact ∙ ap option_copied c.unwrap.ensures in
    let front : Front = record { number = c.number.result; last = c.last.result } in
    let is : IsTimed f = timed link c.last.result f (arc_value c.args.shared) old.waiting c.put.new.self c.requires c.in_ok-put.ensures.ok c.is_empty.ensures.kept c.last.ensures.exact c.last.type_inv in
    let its : course_at old decl.manager ≡ Some course = subst (λ k. course_at old k ≡ Some course) c.from-2.ensures there in
    let within : link < length old.fronts = (let less = c.in-Some.ensures.within in let links = ap (λ (t : Topology). length t.links) c.deref.ensures in let all = has.links in omega (arith, less, links, all)) in
    let newer = fresh fs old link f c.front_of.result has at free in
    let come : List Recorded = put_in (recorded link f) fs in
    let coming = lemmas.come_in old link f decl course front named declared is its c.number.ensures c.last.ensures.exact within fs has newer in
    let fronts : set old.fronts link (Some front) ≡ c.deref-6.result.now = ap (λ k. set old.fronts k (Some front)) (sym c.from.ensures) ∙ sym c.deref-6.ensures.value in
    let waiting : put_in (recorded link f) old.waiting ≡ c.put.new.self = ap (λ (g : Frag). put_in (recorded link g) old.waiting) (sym c.requires) ∙ sym c.in_ok-put.ensures.ok in
    let advanced = lemmas.moved_advance old.topo c.deref-4.result.now (areas_in old course.manager) (areas_at c.deref-5.result.now course.manager) (set old.fronts link (Some front)) c.deref-6.result.now
    (put_in (recorded link f) old.waiting) c.put.new.self come course (sym c.deref-4.ensures) (ap (λ rs. areas_at rs course.manager) (sym c.deref-5.ensures.value)) fronts waiting coming
    c.advance.new.course c.advance.new.waiting (c.advance.ensures.all come) in
    let rows = lemmas.moved_rows old.topo c.deref-4.result.now (areas_in old course.manager) (areas_at c.deref-5.result.now course.manager) (set old.fronts link (Some front)) c.deref-6.result.now
    (put_in (recorded link f) old.waiting) c.put.new.self come course (sym c.deref-4.ensures) (ap (λ rs. areas_at rs course.manager) (sym c.deref-5.ensures.value)) fronts waiting coming
    c.in_ok-rows.rows.items (c.in_ok-rows.ensures.ok come) in
    let state = lemmas.some_state course.state c.in_ok-rows.ensures.run in
    lemmas.linked old link f decl course front named declared is its c.number.ensures c.last.ensures.exact within fs has newer c.advance.new.course c.advance.new.waiting advanced c.in_ok-rows.rows.items state.0 state.1 rows
