use Rattle.tl_topology.proofs.TextLaws.{fault_or_topology}
use Rattle.tl_topology.proofs.laws.fault_or_topology.Goals as goal

pub returns : goal.returns
returns c = fault_or_topology
