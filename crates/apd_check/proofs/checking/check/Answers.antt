use Rattle.std.proofs.Common.{subst}
use Rattle.std.proofs.lemmas.Result.{IfOk-weaker}
use Rattle.apd_check.specs.Checked.{IsChecked}
use Rattle.apd_claims.specs.Saying.{said_in}
use Rattle.apd_check.specs.declared.state.LogState.{LogState}
use Rattle.apd_check.proofs.checking.check.Goals as goal

pub returns-clause-checked : goal.returns-clause-checked
returns-clause-checked c = IfOk-weaker c.check_lines-checked.result _ _ (λ r is n grew reader.
    subst (λ (s : LogState). IsChecked c.args.program.now s 0 (said_in reader c.args.ops.now c.args.text.now) r) c.in_ok-course.ensures.0 (is n grew reader))
    c.check_lines-checked.ensures.checked
