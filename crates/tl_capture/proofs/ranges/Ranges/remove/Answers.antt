use Rattle.std.proofs.Common.{sym, ap, subst, ◌∙◌}
use Rattle.std.specs.Prelude.{map}
use Rattle.std.specs.Option.{option_map}
use Rattle.std.specs.Arc.{arc_value}
use Rattle.std.specs.List.{find}
use Rattle.tl_capture.specs.Present.{recorded}
use Rattle.tl_capture.specs.Ranges.{AreEntries, shown, ends_at, without_end}
use Rattle.tl_capture.proofs.EntryLemmas.{shown_remove}
use Rattle.tl_capture.proofs.PutLemmas.{shown_lookup, entries_removed}
use Rattle.tl_capture.proofs.ranges.Ranges.remove.Goals as goal

pub invariant_of-self : goal.invariant_of-self
invariant_of-self c = subst (AreEntries arc_value) (sym c.remove.ensures.entries) (entries_removed arc_value c.args.link c.args.last c.self.inside.ends.entries c.self.invariant)

pub returns-clause-value : goal.returns-clause-value
returns-clause-value c = ap (option_map (λ f. recorded c.args.link (arc_value f))) c.remove.ensures.value
    ∙ shown_lookup arc_value c.args.link c.args.last c.self.inside.ends.entries c.self.invariant.keyed ∙ ap (find (ends_at c.args.link c.args.last)) c.self.view_is

pub returns-clause-rest : goal.returns-clause-rest
returns-clause-rest c = ap (map (shown arc_value)) c.remove.ensures.entries ∙ shown_remove arc_value c.args.link c.args.last c.self.inside.ends.entries c.self.invariant ∙ ap (without_end c.args.link c.args.last) c.self.view_is
