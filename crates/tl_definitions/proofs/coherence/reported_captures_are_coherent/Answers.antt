use Rattle.tl_definitions.proofs.CoherenceLaws.{reported_captures_are_coherent}
use Rattle.tl_definitions.proofs.coherence.reported_captures_are_coherent.Goals as goal

pub returns : goal.returns
returns c = reported_captures_are_coherent
