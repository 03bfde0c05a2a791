use Rattle.apd_written.proofs.Orders.{orders_read_back}
use Rattle.apd_written.proofs.laws.atoms_of_an_order_read_back.Goals as goal

pub returns : goal.returns
returns c = λ ops names q p table all r. orders_read_back ops names q p table all r
