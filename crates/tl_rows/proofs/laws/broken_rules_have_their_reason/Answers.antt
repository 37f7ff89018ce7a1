use Rattle.tl_rows.proofs.RowLaws.{broken_rules_have_their_reason}
use Rattle.tl_rows.proofs.laws.broken_rules_have_their_reason.Goals as goal

pub returns : goal.returns
returns c = broken_rules_have_their_reason
