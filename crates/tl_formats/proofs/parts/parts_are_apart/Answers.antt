use Rattle.tl_formats.proofs.PartLaws.{parts_are_apart}
use Rattle.tl_formats.proofs.parts.parts_are_apart.Goals as goal

pub returns : goal.returns
returns c = parts_are_apart
