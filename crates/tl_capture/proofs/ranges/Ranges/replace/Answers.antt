use Rattle.std.proofs.Common.{ap, ◌∙◌}
use Rattle.std.specs.Arc.{arc_value}
use Rattle.tl_beats.specs.Fragments.{Frag}
use Rattle.tl_capture.proofs.PutLemmas.{same_shown, other_shown, capture_of}
use Rattle.tl_capture.proofs.ranges.Ranges.replace.Goals as goal

pub invariant_of-self-then-end-last : goal.invariant_of-self-then-end-last
invariant_of-self-then-end-last c =
    let same = c.last-end.ensures.exact ∙ ap (λ (f : Frag). f.last) c.deref-2.ensures in
    let own = capture_of c.args.link c.last-end.result (arc_value c.args.fragment) c.deref.result.now c.deref-2.result.now c.beats.result.now c.deref.ensures c.deref-2.ensures c.beats.ensures.exact c.beats.ensures.kept c.last-end.ensures.exact c.last-end.ensures.order in
    (same_shown arc_value c.args.link c.args.last c.last-end.result c.args.fragment c.self.inside.ends.entries c.insert.new.self.entries c.args.self.now c.self.view_is same own c.self.invariant c.requires c.in_ok-insert.ensures.was_ordered c.if-end-last.true c.in_ok-insert.ensures.entries).1

pub returns-then-end-last-clause-ok : goal.returns-then-end-last-clause-ok
returns-then-end-last-clause-ok c =
    let same = c.last-end.ensures.exact ∙ ap (λ (f : Frag). f.last) c.deref-2.ensures in
    let own = capture_of c.args.link c.last-end.result (arc_value c.args.fragment) c.deref.result.now c.deref-2.result.now c.beats.result.now c.deref.ensures c.deref-2.ensures c.beats.ensures.exact c.beats.ensures.kept c.last-end.ensures.exact c.last-end.ensures.order in
    (same_shown arc_value c.args.link c.args.last c.last-end.result c.args.fragment c.self.inside.ends.entries c.insert.new.self.entries c.args.self.now c.self.view_is same own c.self.invariant c.requires c.in_ok-insert.ensures.was_ordered c.if-end-last.true c.in_ok-insert.ensures.entries).0

pub invariant_of-self-2 : goal.invariant_of-self-2
invariant_of-self-2 c =
    let same = c.last-end.ensures.exact ∙ ap (λ (f : Frag). f.last) c.deref-2.ensures in
    let own = capture_of c.args.link c.last-end.result (arc_value c.args.fragment) c.deref.result.now c.deref-2.result.now c.beats.result.now c.deref.ensures c.deref-2.ensures c.beats.ensures.exact c.beats.ensures.kept c.last-end.ensures.exact c.last-end.ensures.order in
    (other_shown arc_value c.args.link c.args.last c.last-end.result c.args.fragment c.self.inside.ends.entries c.insert.new.self.entries c.remove.new.self.entries c.args.self.now c.self.view_is same own c.self.invariant c.requires c.in_ok-insert.ensures.was_ordered c.if-end-last.false c.in_ok-insert.ensures.entries c.remove.ensures.entries).1

pub returns-clause-ok : goal.returns-clause-ok
returns-clause-ok c =
    let same = c.last-end.ensures.exact ∙ ap (λ (f : Frag). f.last) c.deref-2.ensures in
    let own = capture_of c.args.link c.last-end.result (arc_value c.args.fragment) c.deref.result.now c.deref-2.result.now c.beats.result.now c.deref.ensures c.deref-2.ensures c.beats.ensures.exact c.beats.ensures.kept c.last-end.ensures.exact c.last-end.ensures.order in
    (other_shown arc_value c.args.link c.args.last c.last-end.result c.args.fragment c.self.inside.ends.entries c.insert.new.self.entries c.remove.new.self.entries c.args.self.now c.self.view_is same own c.self.invariant c.requires c.in_ok-insert.ensures.was_ordered c.if-end-last.false c.in_ok-insert.ensures.entries c.remove.ensures.entries).0
