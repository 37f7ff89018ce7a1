use Rattle.tl_midway.proofs.UnjudgedLaws as laws
use Rattle.tl_midway.proofs.laws.any_past_is_judged.Goals as goal

pub returns : goal.returns
returns c = laws.any_past_is_judged
