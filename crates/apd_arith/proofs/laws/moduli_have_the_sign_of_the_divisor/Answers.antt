use Rattle.apd_arith.proofs.Signs.{floored-division, modulo-sign}
use Rattle.apd_arith.proofs.laws.moduli_have_the_sign_of_the_divisor.Goals as goal

pub returns-clause-division : goal.returns-clause-division
returns-clause-division c = floored-division

pub returns-clause-sign : goal.returns-clause-sign
returns-clause-sign c = modulo-sign
