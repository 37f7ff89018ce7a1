use Rattle.tl_client_rules.proofs.ClientsLaws.{clients_rise}
use Rattle.tl_client_rules.proofs.manager_laws.clients_rise.Goals as goal

pub returns : goal.returns
returns c = clients_rise
