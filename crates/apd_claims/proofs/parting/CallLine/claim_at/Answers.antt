use Rattle.std.proofs.Common.{ap, sym, take, ◌∙◌}
use Rattle.std.specs.Option.{option_and_then}
use Rattle.std.proofs.lemmas.List.{take_rest}
use Rattle.std.proofs.lemmas.Result.{IfOk-weaker}
use Rattle.apd_claims.specs.Parting.{claim_with}
use Rattle.apd_claims.proofs.parting.CallLine.claim_at.Goals as goal

pub returns-in_default-clause-claim : goal.returns-in_default-clause-claim
returns-in_default-clause-claim c = λ n grew reader.
    sym (ap (option_and_then (claim_with reader c.args.ops.now c.args.self.now (take c.args.place c.args.self.now.text))) (rw (take_rest c.args.self.now.text c.args.place) at (rw c.bytes-text.ensures at c.in_default.ensures)))

pub returns-clause-claim : goal.returns-clause-claim
returns-clause-claim c = IfOk-weaker c.claim_with.result _ _ (λ o is n grew reader.
    rw c.bytes-text.ensures at (is n grew reader)
    ∙ ap (option_and_then (claim_with reader c.args.ops.now c.args.self.now (take c.args.place c.args.self.now.text))) (sym (rw (take_rest c.args.self.now.text c.args.place) at (rw c.bytes-text.ensures at c.in-Some.ensures))))
    c.claim_with.ensures.claim
