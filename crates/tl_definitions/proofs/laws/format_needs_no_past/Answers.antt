use Rattle.tl_definitions.proofs.SanityLaws.{format_needs_no_past}
use Rattle.tl_definitions.proofs.laws.format_needs_no_past.Goals as goal

pub returns : goal.returns
returns c = format_needs_no_past
