use Rattle.tl_formats.proofs.MergeLaws.{parts_make_the_whole}
use Rattle.tl_formats.proofs.parts.parts_make_the_whole.Goals as goal

pub returns : goal.returns
returns g c = parts_make_the_whole
