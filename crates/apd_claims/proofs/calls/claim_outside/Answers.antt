use Rattle.std.proofs.Common.{ap, sym, ◌∙◌}
use Rattle.std.specs.Option.{option_and_then}
use Rattle.std.proofs.lemmas.Result.{IfOk-weaker}
use Rattle.apd_claims.specs.Claims.{call_between}
use Rattle.apd_claims.proofs.calls.claim_outside.Goals as goal

pub returns-in_default-clause-claim : goal.returns-in_default-clause-claim
returns-in_default-clause-claim c = λ n grew reader.
    sym (ap (option_and_then (call_between reader c.args.means.now.ops.now c.args.line.now.whole c.args.line.now.calling)) (rw c.bytes.ensures at c.in_default.ensures))

pub returns-clause-claim : goal.returns-clause-claim
returns-clause-claim c = IfOk-weaker c.claim_between.result _ _ (λ o is n grew reader.
    is n grew reader
    ∙ ap (option_and_then (call_between reader c.args.means.now.ops.now c.args.line.now.whole c.args.line.now.calling)) (sym (rw c.bytes.ensures at c.in-Some.ensures)))
    c.claim_between.ensures.claim
