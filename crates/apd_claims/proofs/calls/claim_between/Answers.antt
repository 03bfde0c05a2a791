use Rattle.std.proofs.Common.{ap, ◌∙◌}
use Rattle.std.specs.Option.{option_and_then}
use Rattle.std.proofs.lemmas.Result.{IfOk-weaker}
use Rattle.apd_claims.specs.Claims.{written}
use Rattle.apd_claims.proofs.calls.claim_between.Goals as goal

pub returns-clause-claim : goal.returns-clause-claim
returns-clause-claim c = IfOk-weaker c.written.result _ _ (λ o is n grew reader.
    rw c.bytes.ensures at (is n grew)
    ∙ ap (option_and_then (written c.args.means.now.ops.now n c.args.line.now.whole)) (c.in_ok-entry.ensures.entry n grew reader))
    c.written.ensures.claim
