use Rattle.tl_formats.proofs.JsonLaws.{json_parts_make_the_whole}
use Rattle.tl_formats.proofs.parts.json_parts_make_the_whole.Goals as goal

pub returns : goal.returns
returns c = json_parts_make_the_whole
