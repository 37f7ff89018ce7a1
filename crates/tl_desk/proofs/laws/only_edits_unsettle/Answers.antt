use Rattle.tl_desk.proofs.SettledLemmas.{only_edits_unsettle}
use Rattle.tl_desk.proofs.laws.only_edits_unsettle.Goals as goal

pub returns : goal.returns
returns c = only_edits_unsettle
