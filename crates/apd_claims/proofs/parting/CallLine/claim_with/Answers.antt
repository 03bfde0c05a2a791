use Rattle.std.proofs.Common.{◌∙◌}
use Rattle.std.proofs.lemmas.Result.{IfOk-weaker}
use Rattle.apd_claims.proofs.Lasting.{parted-not, parted-so}
use Rattle.apd_claims.proofs.parting.CallLine.claim_with.Goals as goal

pub returns-in-Ok-false-clause-claim : goal.returns-in-Ok-false-clause-claim
returns-in-Ok-false-clause-claim c = λ n grew reader.
    parted-not c.args.means.now.ops.now c.called.new.names n c.args.self.now.whole c.args.led.now.rest.now c.in_ok-entry.entry _ _ grew
    c.in_ok-entry.ensures.named (c.in_ok-entry.ensures.entry n grew reader) c.in-Ok-false.ensures c.in-Ok-false.field-0-test

pub returns-in-Ok-true-clause-claim : goal.returns-in-Ok-true-clause-claim
returns-in-Ok-true-clause-claim c = IfOk-weaker c.written.result _ _ (λ o is n grew reader.
    rw c.bytes.ensures at (is n grew)
    ∙ parted-so c.args.means.now.ops.now c.called.new.names n c.args.self.now.whole c.args.led.now.rest.now c.in_ok-entry.entry _ _ grew
    c.in_ok-entry.ensures.named (c.in_ok-entry.ensures.entry n grew reader) c.in-Ok-true.ensures c.in-Ok-true.field-0-test)
    c.written.ensures.claim
