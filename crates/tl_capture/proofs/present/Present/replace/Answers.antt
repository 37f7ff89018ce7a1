use Rattle.std.proofs.Common.{◌≡◌, List, None, Some, sym, ap, ◌∙◌}
use Rattle.std.specs.Arc.{arc_value}
use Rattle.std.specs.BTreeMap.{is_at}
use Rattle.std.specs.Map.{lookup}
use Rattle.tl_beats.specs.Fragments.{Frag}
use Rattle.tl_definitions.specs.Positions.{Recorded}
use Rattle.tl_capture.specs.Present.{recorded, overlapped, put_in, without}
use Rattle.tl_capture.specs.Ranges.{key_cmp}
use Rattle.tl_capture.proofs.PutLemmas.{capture_of}
use Rattle.tl_capture.proofs.EditLemmas.{changed, other_free, set_as}
use Rattle.tl_capture.proofs.present.Present.replace.Goals as goal

pub replace-requires : goal.replace-requires
replace-requires c =
    let f : Frag = arc_value c.args.fragment in
    let fs : List Recorded = c.self.inside.ranges in
    let number : c.number.result ≡ f.number = c.number.ensures ∙ ap (λ (g : Frag). g.number) c.deref.ensures in
    let at : lookup (is_at (key_cmp (c.args.link, f.number))) c.self.inside.numbers.entries ≡ Some c.in-Some.last.now =
    ap (λ n. lookup (is_at (key_cmp (c.args.link, n))) c.self.inside.numbers.entries) (sym number) ∙ sym c.in-Some.ensures.value in
    let free : overlapped (recorded c.args.link f) fs ≡ None = ap (overlapped (recorded c.args.link f)) c.self.view_is ∙ c.requires.free in
    other_free c.args.link c.in-Some.last.now f c.self.inside.numbers.entries fs c.self.invariant.0 c.self.invariant.1 at free

pub invariant_of-self-2 : goal.invariant_of-self-2
invariant_of-self-2 c =
    let f : Frag = arc_value c.args.fragment in
    let fs : List Recorded = c.self.inside.ranges in
    let number : c.number.result ≡ f.number = c.number.ensures ∙ ap (λ (g : Frag). g.number) c.deref.ensures in
    let at : lookup (is_at (key_cmp (c.args.link, f.number))) c.self.inside.numbers.entries ≡ Some c.in-Some.last.now =
    ap (λ n. lookup (is_at (key_cmp (c.args.link, n))) c.self.inside.numbers.entries) (sym number) ∙ sym c.in-Some.ensures.value in
    let free : overlapped (recorded c.args.link f) fs ≡ None = ap (overlapped (recorded c.args.link f)) c.self.view_is ∙ c.requires.free in
    let last = c.last-end.ensures.exact ∙ ap (λ (g : Frag). g.last) c.deref-3.ensures in
    let own = capture_of c.args.link c.last-end.result f c.deref-2.result.now c.deref-3.result.now c.beats.result.now c.deref-2.ensures c.deref-3.ensures c.beats.ensures.exact c.beats.ensures.kept c.last-end.ensures.exact c.last-end.ensures.order in
    let made = changed c.args.link c.in-Some.last.now f c.self.inside.numbers.entries c.insert.new.self.entries fs c.replace.new.self own c.self.invariant.0 c.self.invariant.1 at free c.in_ok-replace.ensures.ok
    (set_as c.args.link c.number.result f.number c.last-end.result f.last c.self.inside.numbers.entries c.insert.new.self.entries number last c.in_ok-insert.ensures.updates.0) in
    (made.1, made.2)

pub returns-clause-ok : goal.returns-clause-ok
returns-clause-ok c =
    let f : Frag = arc_value c.args.fragment in
    let fs : List Recorded = c.self.inside.ranges in
    let number : c.number.result ≡ f.number = c.number.ensures ∙ ap (λ (g : Frag). g.number) c.deref.ensures in
    let at : lookup (is_at (key_cmp (c.args.link, f.number))) c.self.inside.numbers.entries ≡ Some c.in-Some.last.now =
    ap (λ n. lookup (is_at (key_cmp (c.args.link, n))) c.self.inside.numbers.entries) (sym number) ∙ sym c.in-Some.ensures.value in
    let free : overlapped (recorded c.args.link f) fs ≡ None = ap (overlapped (recorded c.args.link f)) c.self.view_is ∙ c.requires.free in
    let last = c.last-end.ensures.exact ∙ ap (λ (g : Frag). g.last) c.deref-3.ensures in
    let own = capture_of c.args.link c.last-end.result f c.deref-2.result.now c.deref-3.result.now c.beats.result.now c.deref-2.ensures c.deref-3.ensures c.beats.ensures.exact c.beats.ensures.kept c.last-end.ensures.exact c.last-end.ensures.order in
    let made = changed c.args.link c.in-Some.last.now f c.self.inside.numbers.entries c.insert.new.self.entries fs c.replace.new.self own c.self.invariant.0 c.self.invariant.1 at free c.in_ok-replace.ensures.ok
    (set_as c.args.link c.number.result f.number c.last-end.result f.last c.self.inside.numbers.entries c.insert.new.self.entries number last c.in_ok-insert.ensures.updates.0) in
    made.0 ∙ ap (λ gs. put_in (recorded c.args.link f) (without c.args.link f.number gs)) c.self.view_is
