use Rattle.std.proofs.Common.{◌≡◌, ℕ, ◌<◌, ◌^◌, List, Some, refl, sym, ap, ◌∙◌}
use Rattle.std.specs.Prelude.{slice_get, nat_lt}
use Rattle.std.specs.List.{list_all}
use Rattle.std.specs.Option.{option_map, option_copied}
use Rattle.std.proofs.lemmas.Option.{slice_get-map}
use Rattle.tl_topology.specs.Topology.{Topology}
use Rattle.tl_topology.specs.declared.LinkDecl.{LinkDecl}
use Rattle.tl_definitions.specs.Managers.{declared_links}
use Rattle.tl_stream.specs.Fronts.{has_reached, past}
use Rattle.tl_stream.specs.Streams.{StreamData, course_at}
use Rattle.tl_stream.specs.declared.course.Course.{Course}
use Rattle.tl_stream.proofs.AcceptLemmas.{through}
use Rattle.tl_stream.proofs.stream.Stream.complete.Goals as goal

pub returns : goal.returns
returns c fs has decl at cycle short =
    let s : StreamData = c.args.self.now in
    let own : LinkDecl = c.in_ok-manager.field-0.now in
    let course : Course = c.in_ok-course.course.now in
    let topo : c.deref.result.now ≡ s.topo = c.deref.ensures ∙ ap (λ (s : StreamData). s.topo) c.self.view_is in
    let courses : c.deref-2.result.now ≡ s.courses = c.deref-2.ensures.value ∙ ap (λ (s : StreamData). s.courses) c.self.view_is in
    let fronts : c.deref-3.result.now ≡ s.fronts = c.deref-3.ensures.value ∙ ap (λ (s : StreamData). s.fronts) c.self.view_is in
    let here : slice_get (declared_links s.topo) c.args.link ≡ Some own =
    slice_get-map (λ p. p.1) s.topo.links c.args.link ∙ ap (λ (t : Topology). option_map (λ (p : List ℕ × LinkDecl). p.1) (slice_get t.links c.args.link)) (sym topo) ∙ sym c.link.ensures.exact ∙ ap option_copied c.in_ok-manager.was in
    let its : course_at s own.manager ≡ Some course = ap (λ cs. slice_get cs own.manager) (sym courses) ∙ sym c.course_of.ensures ∙ ap option_copied c.in_ok-course.was in
    let reached : (cycle : ℕ) → cycle < 2 ^ 64 → list_all (has_reached s.fronts cycle) course.links.items ≡ nat_lt cycle (past c.reached.result) = λ cycle short.
    ap (λ fs. list_all (has_reached fs cycle) course.links.items) (sym fronts) ∙ ap (λ ls. list_all (has_reached c.deref-3.result.now cycle) ls) (sym c.deref-4.ensures.value) ∙ c.reached.ensures cycle short in
    through s fs c.args.link own.manager own decl course c.reached.result has here at refl its reached cycle short
