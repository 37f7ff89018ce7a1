use Rattle.std.proofs.Common.{◌≡◌, ◌∙◌, ap, rules}
use Rattle.std.specs.Arc.{arc_value}
use Rattle.std.specs.Ordering.{nat_cmp}
use Rattle.std.specs.BTreeMap.{insert_entry}
use Rattle.tl_pieces.specs.Marks.{openings_of}
use Rattle.tl_pieces.proofs.OpeningLemmas.{put_shown}
use Rattle.tl_pieces.proofs.openings.Openings.put.Goals as goal

pub returns-clause-ok : goal.returns-clause-ok
returns-clause-ok g c =
    let is : c.insert.new.self.entries ≡ insert_entry nat_cmp c.self.inside.states.entries c.args.owner c.args.opening = search rules in
    ap openings_of is ∙ put_shown c.args.owner c.args.opening c.self.inside.states.entries ∙ ap (λ os. insert_entry nat_cmp os c.args.owner (arc_value c.args.opening)) c.self.view_is
