use Rattle.apd_check.specs.Checked.{first_state}
use Rattle.apd_claims.specs.Saying.{said_in}
use Rattle.apd_check.proofs.OneResult.{one-checked}
use Rattle.apd_check.proofs.laws.one_result.Goals as goal

pub returns : goal.returns
returns c = λ program ops names reader known text a b. one-checked program (first_state known) 0 (said_in reader ops text) a b
