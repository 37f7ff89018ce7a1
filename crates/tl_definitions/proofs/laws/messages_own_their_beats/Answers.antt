use Rattle.tl_definitions.proofs.HeadLaws.{messages_own_their_beats}
use Rattle.tl_definitions.proofs.laws.messages_own_their_beats.Goals as goal

pub returns : goal.returns
returns c = messages_own_their_beats
