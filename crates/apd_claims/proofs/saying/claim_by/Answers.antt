use Rattle.std.proofs.lemmas.Result.{IfOk-weaker}
use Rattle.apd_claims.proofs.saying.claim_by.Goals as goal

pub returns-in-Query-clause-claim : goal.returns-in-Query-clause-claim
returns-in-Query-clause-claim c = IfOk-weaker c.run_claim.result _ _ (λ claim is n grew reader. rw (c.in-Query.is, ← c.bytes.ensures) (is n grew reader)) c.run_claim.ensures.claim

pub returns-in-Symptom-clause-claim : goal.returns-in-Symptom-clause-claim
returns-in-Symptom-clause-claim c = IfOk-weaker c.symptom_claim.result _ _ (λ claim is n grew reader. rw (c.in-Symptom.is, ← c.bytes-in-Symptom.ensures) (is n grew reader)) c.symptom_claim.ensures.claim
