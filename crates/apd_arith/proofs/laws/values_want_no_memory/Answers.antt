use Rattle.apd_arith.proofs.Memoryless.{no_memory}
use Rattle.apd_arith.proofs.Faulting.{atom_settled}
use Rattle.apd_arith.proofs.laws.values_want_no_memory.Goals as goal

pub returns : goal.returns
returns c = record { values = no_memory; goals = λ t. (atom_settled t).memoryless }
