use Rattle.std.proofs.Common.{◌≡◌, List, None, sym, ap, ◌∙◌, subst}
use Rattle.std.specs.Arc.{arc_value}
use Rattle.tl_beats.specs.Fragments.{Frag}
use Rattle.tl_definitions.specs.Positions.{Recorded}
use Rattle.tl_capture.specs.Present.{recorded, numbered, overlapped, IsPresent}
use Rattle.tl_capture.specs.Ranges.{AreEnds}
use Rattle.tl_capture.proofs.PutLemmas.{capture_of}
use Rattle.tl_capture.proofs.EditLemmas.{come, come_free, undone, set_as}
use Rattle.tl_capture.proofs.present.Present.put.Goals as goal

pub insert-requires-2 : goal.insert-requires-2
insert-requires-2 c =
    let f : Frag = arc_value c.args.fragment in
    let fs : List Recorded = c.self.inside.ranges in
    let absent : numbered c.args.link f.number fs ≡ None = ap (numbered c.args.link f.number) c.self.view_is ∙ c.requires.absent in
    let free : overlapped (recorded c.args.link f) fs ≡ None = ap (overlapped (recorded c.args.link f)) c.self.view_is ∙ c.requires.free in
    come_free c.args.link f fs absent free

pub invariant_of-self-in-Err : goal.invariant_of-self-in-Err
invariant_of-self-in-Err c =
    let f : Frag = arc_value c.args.fragment in
    let fs : List Recorded = c.self.inside.ranges in
    let number : c.number.result ≡ f.number = c.number.ensures ∙ ap (λ (g : Frag). g.number) c.deref.ensures in
    let absent : numbered c.args.link f.number fs ≡ None = ap (numbered c.args.link f.number) c.self.view_is ∙ c.requires.absent in
    let none = ap (λ n. numbered c.args.link n fs) number ∙ absent in (
      subst IsPresent (sym c.in-Err.ensures.err) c.self.invariant.0,
      subst (AreEnds c.remove.new.self.entries) (sym c.in-Err.ensures.err)
          (undone c.args.link c.number.result c.last.result c.self.inside.numbers.entries c.insert.new.self.entries c.remove.new.self.entries fs c.self.invariant.1 none c.in_ok-insert.ensures.updates.0 c.remove.ensures.updates.0),
    )

pub invariant_of-self-in_default : goal.invariant_of-self-in_default
invariant_of-self-in_default c =
    let f : Frag = arc_value c.args.fragment in
    let fs : List Recorded = c.self.inside.ranges in
    let number : c.number.result ≡ f.number = c.number.ensures ∙ ap (λ (g : Frag). g.number) c.deref.ensures in
    let absent : numbered c.args.link f.number fs ≡ None = ap (numbered c.args.link f.number) c.self.view_is ∙ c.requires.absent in
    let free : overlapped (recorded c.args.link f) fs ≡ None = ap (overlapped (recorded c.args.link f)) c.self.view_is ∙ c.requires.free in
    let last = c.last.ensures.exact ∙ ap (λ (g : Frag). g.last) c.deref-3.ensures in
    let own = capture_of c.args.link c.last.result f c.deref-2.result.now c.deref-3.result.now c.beats.result.now c.deref-2.ensures c.deref-3.ensures c.beats.ensures.exact c.beats.ensures.kept c.last.ensures.exact c.last.ensures.order in
    come c.args.link f c.self.inside.numbers.entries c.insert.new.self.entries fs c.insert-2.new.self own c.self.invariant.0 c.self.invariant.1 absent free c.in_default.ensures.ok
    (set_as c.args.link c.number.result f.number c.last.result f.last c.self.inside.numbers.entries c.insert.new.self.entries number last c.in_ok-insert.ensures.updates.0)
