use Rattle.std.proofs.Common.{◌∙◌, ap}
use Rattle.std.specs.Ordering.{nat_cmp}
use Rattle.std.specs.BTreeMap.{is_at}
use Rattle.std.specs.Map.{remove_entry}
use Rattle.tl_pieces.specs.Marks.{openings_of}
use Rattle.tl_pieces.proofs.OpeningLemmas.{take_shown}
use Rattle.tl_pieces.proofs.openings.Openings.take.Goals as goal

pub returns : goal.returns
returns g c = ap openings_of c.remove.ensures.entries ∙ take_shown c.args.owner c.self.inside.states.entries ∙ ap (remove_entry (is_at (nat_cmp c.args.owner))) c.self.view_is
