use Rattle.proc_table.proofs.TwoClients.{both_called}
use Rattle.proc_table.proofs.laws.two_clients_see_one_history.Goals as goal

pub returns : goal.returns
returns c = both_called
