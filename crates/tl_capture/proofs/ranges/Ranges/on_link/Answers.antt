use Rattle.std.proofs.Common.{◌≡◌, ap, subst, ◌∙◌, rules}
use Rattle.std.specs.Prelude.{filter}
use Rattle.std.specs.Arc.{arc_value}
use Rattle.tl_capture.specs.Ranges.{AreRanges, from_key, meets, met}
use Rattle.tl_capture.proofs.WalkLemmas.{all_met}
use Rattle.tl_capture.proofs.ranges.Ranges.on_link.Goals as goal

pub returns-clause-exact : goal.returns-clause-exact
returns-clause-exact c =
    let all : c.range.result ≡ from_key arc_value c.args.link c.args.first c.self.inside.ends.entries = search rules in
    ap (met arc_value c.args.last c.args.link) all ∙ all_met arc_value c.args.link c.args.first c.args.last c.self.inside.ends.entries c.self.invariant ∙ ap (filter (meets c.args.link c.args.first c.args.last)) c.self.view_is

pub returns-clause-kept : goal.returns-clause-kept
returns-clause-kept c = subst AreRanges c.self.view_is c.self.invariant.ranges
