use Rattle.apd_arith.proofs.Faulting.{atom_settled}
use Rattle.apd_arith.proofs.laws.one_fault.Goals as goal

pub returns : goal.returns
returns c = record { one = λ t. (atom_settled t).one; none = λ t. (atom_settled t).none }
