use Rattle.tl_topology.proofs.TextLaws.{one_first_fault}
use Rattle.tl_topology.proofs.laws.one_first_fault.Goals as goal

pub returns : goal.returns
returns c = one_first_fault
