use Rattle.tl_check.proofs.CleanLaws as laws
use Rattle.tl_check.proofs.plain_laws.guarded_reports_are_coherent.Goals as goal

pub returns : goal.returns
returns c = laws.guarded_reports_are_coherent
