use Rattle.tl_midway.proofs.UnjudgedLaws as laws
use Rattle.tl_midway.proofs.laws.pasts_of_whole_messages_are_judged.Goals as goal

pub returns : goal.returns
returns c = laws.pasts_of_whole_messages_are_judged
