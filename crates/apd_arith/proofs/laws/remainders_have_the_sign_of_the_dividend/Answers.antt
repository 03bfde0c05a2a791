use Rattle.apd_arith.proofs.Signs.{truncated-division, remainder-sign}
use Rattle.apd_arith.proofs.laws.remainders_have_the_sign_of_the_dividend.Goals as goal

pub returns-clause-division : goal.returns-clause-division
returns-clause-division c = truncated-division

pub returns-clause-sign : goal.returns-clause-sign
returns-clause-sign c x y n = remainder-sign x y
