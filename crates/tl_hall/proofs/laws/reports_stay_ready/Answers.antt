use Rattle.tl_hall.proofs.Touched.{reports_stay_ready}
use Rattle.tl_hall.proofs.laws.reports_stay_ready.Goals as goal

pub returns : goal.returns
returns c = reports_stay_ready
