use Rattle.std.proofs.Common.{◌≡◌, ◌+◌, arith}
use Rattle.apd_check.specs.Checked.{first_state}
use Rattle.apd_check.specs.Right.{findings_in}
use Rattle.apd_claims.specs.Saying.{said_in}
use Rattle.apd_check.proofs.Right.{all-counted, text-right}
use Rattle.apd_check.proofs.laws.what_holds_is_right.Goals as goal

pub returns-clause-right : goal.returns-clause-right
returns-clause-right g c = λ program is ops names reader known text total. text-right program g.M.Intended.interpretation is ops names reader known text total

pub returns-clause-counted : goal.returns-clause-counted
returns-clause-counted g c = λ program ops names reader known text total h.
    let e : total ≡ 0 + findings_in (said_in reader ops text) = all-counted program (first_state known) 0 total (said_in reader ops text) h in omega (arith, e)
