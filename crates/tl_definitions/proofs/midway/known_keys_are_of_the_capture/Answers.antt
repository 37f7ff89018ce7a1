use Rattle.tl_definitions.proofs.KnownKeys.{known_keys_are_of_the_capture}
use Rattle.tl_definitions.proofs.midway.known_keys_are_of_the_capture.Goals as goal

pub returns : goal.returns
returns c = known_keys_are_of_the_capture
