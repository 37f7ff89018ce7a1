use Rattle.tl_commands.proofs.StreamLaws.{streams_are_apart}
use Rattle.tl_commands.proofs.laws.streams_are_apart.Goals as goal

pub returns : goal.returns
returns c = streams_are_apart
